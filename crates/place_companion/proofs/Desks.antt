-- SPDX-License-Identifier: Apache-2.0
-- The companion's bytes in an image: what each way through the functions of `fm3130_registers` leaves of them is what the
-- companion's definitions say. A register lies at its address, so at each of the fifteen this is a computation.
use Prim.Native.Nat.{ℕ, ◌≤◌, ◌<◌}
use mathlib.Core.Path.{◌≡◌, refl, ap, ◌∙◌}
use mathlib.Core.Bool.{Bool, true, false, cond, not, ◌&&◌, ◌||◌}
use mathlib.Core.List.{List}
use native.Mathlib.Omega.{arith}
use lib.Dec.{leb, eqb}
use lib.ListN.{get_or, set}
use Rattle.bits.specs.Weight.{has}
use Rattle.bits.proofs.Cases.{Below, none, ◌then◌, below}
use Rattle.calendar.specs.Next.{is_valid}
use Rattle.calendar.specs.declared.Calendar.{Calendar}
use Rattle.fm3130_registers.specs.Map.{W, R}
use Rattle.fm3130_companion.specs.Registers.{register_at, put_at}
use Rattle.fm3130_companion.specs.Change.{with_registers, with_address}
use Rattle.fm3130_registers.specs.Control.{flags_after, w_falls, time_after}
use Rattle.fm3130_companion.specs.Write.{control_written, trim_written, byte_stored}
use Rattle.fm3130_registers.specs.Map.{next_address}
use Rattle.fm3130_companion.specs.Part.{stepped_of, aim_of, store_of, load_of, loaded_of}
use Rattle.fm3130_companion.specs.declared.Companion.{Companion}
use Rattle.fm3130_companion.specs.Part.{Taken}
use Rattle.fm3130.specs.Code.Bus.{with_companion}
use Rattle.fm3130.specs.declared.State.{State}
use Rattle.fm3130_image.specs.Image.{image_of}
use Rattle.place_companion.specs.Code.Lying.{Took}
use Rattle.place_companion.specs.Code.Desk.{shows_core, core_shown, core_loaded, control_put, refused, took}
use Rattle.place_companion.specs.Code.Desk.{control_loaded, control_taken}

-- what was taken, where it is known
pub took_as : {s : State} {t u : Taken} {r : Bool} {i : List ℕ} → t ≡ u → Took s t r i → Took s u r i
took_as e h = rw (← e) h

-- from the state at the next address
pub took_from : (s : State) (c : Companion) {t : Taken} {r : Bool} {i : List ℕ}
    → Took (with_companion s c) t r i → Took s t r i
took_from s c h = record { acknowledged = h.acknowledged; image = h.image }

-- an address byte
module _ (s : State) (b : ℕ) where
  pub aim_refused : leb b 14 ≡ false → Took s (aim_of s.companion b) false (image_of s)
  unfolding aim_of
  aim_refused t = record { acknowledged = rw t refl; image = rw t refl }

  pub aim_taken : leb b 14 ≡ true → Took s (aim_of s.companion b) true (set (image_of s) 22 b)
  unfolding aim_of image_of
  aim_taken t = record { acknowledged = rw t refl; image = rw t refl }

-- a write of 00h: 02h to 08h, by three bits
time_by_bits : {A : Type 0} (w r o : Bool) (core time : A)
    → cond (w || r) (cond (r && not o) core time) core ≡ cond (cond r (not o) (not w)) core time
time_by_bits true true true core time = refl
time_by_bits true true false core time = refl
time_by_bits true false o core time = refl
time_by_bits false true true core time = refl
time_by_bits false true false core time = refl
time_by_bits false false o core time = refl

time_after_lem : (old b : ℕ) (core time : Calendar) → time_after old b core time ≡ cond (shows_core old b) core time
time_after_lem old b core time = time_by_bits (has b W) (has b R) (has old R) core time

cond_same : {A : Type 0} (t : Bool) (x : A) → cond t x x ≡ x
cond_same true x = refl
cond_same false x = refl

time_same : (old b : ℕ) (time : Calendar) → time_after old b time time ≡ time
time_same old b time = time_after_lem old b time time ∙ cond_same (shows_core old b) time

module _ (c : Companion) (b : ℕ) where
  -- W falls
  pub loaded_taken : w_falls c.registers.control b ≡ true → control_loaded c b ≡ control_taken c b
  unfolding control_loaded control_taken
  loaded_taken f = by_validity (is_valid c.registers.time) refl
    where
      by_validity : (v : Bool) → is_valid c.registers.time ≡ v
          → cond (is_valid c.registers.time) (took (core_loaded (control_put c b))) (refused c)
          ≡ cond (w_falls c.registers.control b && not (is_valid c.registers.time)) (refused c)
          (took (control_written c b))
      by_validity true e = rw (e, f, time_same c.registers.control b c.registers.time) refl
      by_validity false e = rw (e, f) refl

  -- W does not fall
  module _ (f : w_falls c.registers.control b ≡ false) where
    pub put_taken : shows_core c.registers.control b ≡ false → took (control_put c b) ≡ control_taken c b
    unfolding control_taken
    put_taken t = rw (f, time_after_lem c.registers.control b c.core c.registers.time, t) refl

    pub shown_taken : shows_core c.registers.control b ≡ true → took (core_shown (control_put c b)) ≡ control_taken c b
    unfolding control_taken
    shown_taken t = rw (f, time_after_lem c.registers.control b c.core c.registers.time, t) refl

module _ (s : State) (b : ℕ) where
  pub load_refused : is_valid s.companion.registers.time ≡ false
      → Took s (control_loaded s.companion b) false (image_of s)
  unfolding control_loaded
  load_refused e = record { acknowledged = rw e refl; image = rw e refl }

  pub load_taken : {i : List ℕ} → is_valid s.companion.registers.time ≡ true
      → i ≡ image_of (with_companion s (core_loaded (control_put s.companion b)))
      → Took s (control_loaded s.companion b) true i
  unfolding control_loaded
  load_taken e h = record { acknowledged = rw e refl; image = rw e h }

-- a data byte by its address
module _ (c : Companion) (b : ℕ) where
  pub store_control : eqb c.address 0 ≡ true → control_taken (stepped_of c) b ≡ store_of c b
  unfolding store_of control_taken
  store_control a = rw a refl

  module _ (n : eqb c.address 0 ≡ false) where
    pub store_trim : eqb c.address 1 ≡ true
        → took (stepped_of (trim_written c b)) ≡ store_of c b
    unfolding store_of
    store_trim a = rw (n, a) refl

    module _ (m : eqb c.address 1 ≡ false) where
      pub store_none : (leb c.address 8 && not (has c.registers.control W)) ≡ true → took (stepped_of c) ≡ store_of c b
      unfolding store_of
      store_none t = rw (n, m) (ap (λ (d : Companion). took (stepped_of d))
          (by_bits (leb c.address 8) (has c.registers.control W) c (byte_stored c b) t))
        where
          by_bits : (l w : Bool) (x y : Companion) → (l && not w) ≡ true → x ≡ cond l (cond w y x) y
          by_bits true false x y e = refl
          by_bits true true x y e = let z : ◌≡◌ {A = ℕ} 0 1 = cc in absurd (omega arith)
          by_bits false w x y e = let z : ◌≡◌ {A = ℕ} 0 1 = cc in absurd (omega arith)

      pub store_byte : (leb c.address 8 && not (has c.registers.control W)) ≡ false
          → took (stepped_of (byte_stored c b)) ≡ store_of c b
      unfolding store_of
      store_byte t = rw (n, m) (ap (λ (d : Companion). took (stepped_of d))
          (by_bits (leb c.address 8) (has c.registers.control W) c (byte_stored c b) t))
        where
          by_bits : (l w : Bool) (x y : Companion) → (l && not w) ≡ false → y ≡ cond l (cond w y x) y
          by_bits true true x y e = refl
          by_bits true false x y e = let z : ◌≡◌ {A = ℕ} 0 1 = cc in absurd (omega arith)
          by_bits false w x y e = refl

-- what is taken whole, with its image
pub took_whole : (s : State) (c : Companion) {i : List ℕ} → i ≡ image_of (with_companion s c) → Took s (took c) true i
took_whole s c h = record { acknowledged = refl; image = h }

-- a register lies at its address
module _ (s : State) where
  pub register_at_lem : (a : ℕ) → a < 15 → get_or (image_of s) a 0 ≡ register_at s.companion.registers a
  unfolding image_of
  register_at_lem a h = below (λ a. get_or (image_of s) a 0 ≡ register_at s.companion.registers a) each a h
    where
      each : Below (λ a. get_or (image_of s) a 0 ≡ register_at s.companion.registers a) 15
      each =
          none then refl then refl
          then refl then refl then refl then refl then refl then refl then refl
          then refl then refl then refl then refl then refl
          then refl

  pub register_put : (n v a : ℕ) → a < 15
      → set (set (image_of s) 22 n) a v
      ≡ image_of (with_companion s (with_address (with_registers s.companion (put_at s.companion.registers a v)) n))
  unfolding image_of
  register_put n v a h = below Put each a h
    where
      Put : ℕ → Type 0
      Put a =
          set (set (image_of s) 22 n) a v
          ≡ image_of (with_companion s (with_address (with_registers s.companion (put_at s.companion.registers a v)) n))

      each : Below Put 15
      each =
          none then refl then refl
          then refl then refl then refl then refl then refl then refl then refl
          then refl then refl then refl then refl then refl
          then refl

  pub load_at : s.companion.address ≤ 14 → get_or (image_of s) s.companion.address 0 ≡ load_of s.companion
  unfolding load_of
  load_at h = register_at_lem s.companion.address (omega arith)

  -- the end of a read
  module _ (b : ℕ) where
    pub loaded_control : eqb s.companion.address 0 ≡ true
        → set (set (image_of s) 22 (next_address s.companion.address)) 0 (flags_after s.companion.registers.control b)
        ≡ image_of (with_companion s (loaded_of s.companion b))
    unfolding loaded_of image_of
    loaded_control t = rw t refl

    pub loaded_other : eqb s.companion.address 0 ≡ false
        → set (image_of s) 22 (next_address s.companion.address) ≡ image_of (with_companion s (loaded_of s.companion b))
    unfolding loaded_of image_of
    loaded_other t = rw t refl
