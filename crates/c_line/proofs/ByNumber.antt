-- SPDX-License-Identifier: Apache-2.0
-- The next two lines of an accepted image by the number of its phase, byte 26, and the clocks done, byte 27.
use Prim.Native.Nat.{ℕ, zero, suc, ◌+◌, ◌*◌, ◌%◌, ◌≤◌, ◌<◌}
use mathlib.Core.Path.{◌≡◌, refl, sym, ◌∙◌}
use mathlib.Core.Bool.{Bool, true, false, cond, ◌||◌}
use mathlib.Core.List.{List}
use native.Mathlib.Omega.{arith}
use lib.Dec.{eqb, ltb}
use lib.ListN.{get_or}
use borrow.Author.Tests.{eqb-true, eqb-false, eq-eqb, ne_eqb, ltb-true, ltb-false, lt-ltb, le-ltb}
use Rattle.wire.specs.Bits.{pushed}
use Rattle.wire.specs.Slave.{slave_names, answers}
use Rattle.wire.specs.Limits.{bits_fit, phase_within}
use Rattle.wire.specs.Memory.{Cells, lent}
use Rattle.wire.specs.declared.Side.{Side}
use Rattle.wire.specs.declared.Side.TheVariants.{Memory, Companion}
use Rattle.wire.specs.declared.Phase.{Phase}
use Rattle.wire.specs.declared.Phase.TheVariants.{Idle, Slave, AddressHigh, AddressLow, Pointer, Write, Read}
use Rattle.wire.proofs.Tests.{by_test, and_split}
use Rattle.fm3130_companion.specs.declared.Companion as C
use Rattle.fm3130.specs.Limits.{is_legal}
use Rattle.fm3130.specs.declared.State.{State}
use Rattle.fm3130.proofs.Entry.{limits_of}
use Rattle.bus_image.specs.Layout.{transfer_of, phase_of}
use Rattle.bus_image.specs.Code.Layout.{side_of}
use Rattle.bus_image.proofs.Numbers.{number_below, read_phase}
use Rattle.fm3130_image.specs.Code.Accepting.{is_image}
use Rattle.fm3130_image.specs.Image.{image_of, companion_at, candidate}
use Rattle.fm3130_image.proofs.Accepts.{image_well, image_written}
use Rattle.place_clock.specs.Code.Outgoing.{fetched_from}
use Rattle.c_line.specs.Line.{pulls_of, told_by}
use Rattle.c_line.specs.Code.Line.{pulls_at, pulls_with, taken_pulls, is_taken, fetched_of}
use Rattle.c_line.specs.Code.Line.{low_bit, opened_low, followed_low, sent_pulls}
use Rattle.c_line.proofs.Lines.{line_at_lem, idle_at, slave_pulls, high_pulls, low_pulls, pointer_pulls, put_pulls}
use Rattle.c_line.proofs.Lines.{store_pulls, read_pulls}

-- no clock is done outside a transfer
rests : (p : Phase) → (transfer_of p).phase ≡ 0 → (transfer_of p).clocks ≡ 0
rests Idle e = refl
rests (Slave k b) e = absurd (omega arith)
rests (AddressHigh k b) e = absurd (omega arith)
rests (AddressLow h k b) e = absurd (omega arith)
rests (Pointer k b) e = absurd (omega arith)
rests (Write Memory k b) e = absurd (omega arith)
rests (Write Companion k b) e = absurd (omega arith)
rests (Read Memory k b) e = absurd (omega arith)
rests (Read Companion k b) e = absurd (omega arith)

image_numbered : (s : State) → (get_or (image_of s) 26 0 ≤ 8) × (get_or (image_of s) 26 0 ≡ 0 → get_or (image_of s) 27 0 ≡ 0)
unfolding image_of
image_numbered s = (number_below s.phase, rests s.phase)

-- a byte that comes in
module _ (m : Cells) (c : C.Companion) where
  incoming : (n k b f : ℕ) → (n ≡ 0 → ⊥) → n < 7
      → pulls_at (phase_of n k b f) m c
      ≡ taken_pulls k (is_taken n b m.address c false) (is_taken n b m.address c true) (followed_low n b m c)
  unfolding phase_of is_taken
  incoming zero k b f z l = absurd (z refl)
  incoming (suc zero) k b f z l = slave_pulls m c k b
  incoming (suc (suc zero)) k b f z l = high_pulls m c k b
  incoming (suc (suc (suc zero))) k b f z l = low_pulls m c f k b
  incoming (suc (suc (suc (suc zero)))) k b f z l = pointer_pulls m c k b
  incoming (suc (suc (suc (suc (suc zero))))) k b f z l = put_pulls m c k b
  incoming (suc (suc (suc (suc (suc (suc zero)))))) k b f z l = store_pulls m c k b
  incoming (suc (suc (suc (suc (suc (suc (suc n))))))) k b f z l = absurd (omega arith)

  outside : (n k b f : ℕ) → n ≡ 0 → pulls_at (phase_of n k b f) m c ≡ pulls_with false false false
  unfolding phase_of
  outside n k b f z = rw z (idle_at Idle m c refl)

-- the bits that can be set of a byte that comes in
bits_fit_lem : (n k b f : ℕ) → (n ≡ 0 → ⊥) → n < 7 → phase_within slave_names is_legal (phase_of n k b f) ≡ true → bits_fit k b ≡ true
unfolding phase_of phase_within
bits_fit_lem zero k b f z l h = absurd (z refl)
bits_fit_lem (suc zero) k b f z l h = (and_split (bits_fit k b) _ h).0
bits_fit_lem (suc (suc zero)) k b f z l h = h
bits_fit_lem (suc (suc (suc zero))) k b f z l h = h
bits_fit_lem (suc (suc (suc (suc zero)))) k b f z l h = (and_split (bits_fit k b) _ h).0
bits_fit_lem (suc (suc (suc (suc (suc zero))))) k b f z l h = h
bits_fit_lem (suc (suc (suc (suc (suc (suc zero)))))) k b f z l h = h
bits_fit_lem (suc (suc (suc (suc (suc (suc (suc n))))))) k b f z l h = absurd (omega arith)

seven_bits : (k b : ℕ) → k ≡ 7 → bits_fit k b ≡ true → b < 128
unfolding bits_fit
seven_bits k b e h = ltb-true b 128 (rw e at h)

-- twice a number is no odd one
not_odd : (x y : ℕ) → x * 2 ≡ y * 2 + 1 → ⊥
not_odd x y e = by_test (ltb x (suc y))
    (λ t. let h = ltb-true x (suc y) t in omega arith)
    (λ t. let h = ltb-false x (suc y) t in omega arith)

-- the slave bytes in pairs
module _ (b : ℕ) (l : b < 128) where
  short : b % 128 ≡ b
  short = omega arith

  pub answered_low : answers (slave_names (pushed b false)) ≡ (eqb b 0x50 || eqb b 0x68)
  unfolding answers slave_names pushed
  answered_low = rw short (by_test (eqb b 0x50)
      (λ t. rw (eqb-true b 0x50 t))
      (λ t. by_test (eqb b 0x68)
      (λ u. rw (eqb-true b 0x68 u))
      (λ u.
      let n = eqb-false b 0x50 t in
      let k = eqb-false b 0x68 u in
      rw (
        t,
        u,
        ne_eqb (b * 2) 0xA0 (λ e. omega arith),
        ne_eqb (b * 2) 0xA1 (not_odd b 0x50),
        ne_eqb (b * 2) 0xD0 (λ e. omega arith),
        ne_eqb (b * 2) 0xD1 (not_odd b 0x68),
      ))))

  pub answered_high : answers (slave_names (pushed b true)) ≡ (eqb b 0x50 || eqb b 0x68)
  unfolding answers slave_names pushed
  answered_high = rw short (by_test (eqb b 0x50)
      (λ t. rw (eqb-true b 0x50 t))
      (λ t. by_test (eqb b 0x68)
      (λ u. rw (eqb-true b 0x68 u))
      (λ u.
      let n = eqb-false b 0x50 t in
      let k = eqb-false b 0x68 u in
      rw (
        t,
        u,
        ne_eqb (b * 2 + 1) 0xA0 (λ e. not_odd 0x50 b (sym e)),
        ne_eqb (b * 2 + 1) 0xA1 (λ e. omega arith),
        ne_eqb (b * 2 + 1) 0xD0 (λ e. not_odd 0x68 b (sym e)),
        ne_eqb (b * 2 + 1) 0xD1 (λ e. omega arith),
      ))))

-- only a slave byte that reads is followed by a line that the device may pull
pub not_opened : (b : ℕ) (m : Cells) (c : C.Companion) → (b ≡ 0xA1 → ⊥) → (b ≡ 0xD1 → ⊥)
    → opened_low (slave_names b) m c ≡ false
unfolding opened_low slave_names
not_opened b m c p q = by_test (eqb b 0xA0)
    (λ t. rw t)
    (λ t. by_test (eqb b 0xD0) (λ u. rw (t, ne_eqb b 0xA1 p, u)) (λ u. rw (t, ne_eqb b 0xA1 p, u, ne_eqb b 0xD1 q)))

-- the numbers that the ways give
told_next : (x : Bool) → cond x 0x100 0 ≡ told_by (pulls_with x false false)
told_next true = refl
told_next false = refl

told_low : (x : Bool) → cond x 0x200 0 ≡ told_by (pulls_with false x false)
told_low true = refl
told_low false = refl

told_both : (x y : Bool) → cond x 0x100 0 + cond y 0x600 0 ≡ told_by (pulls_with x y y)
told_both true true = refl
told_both true false = refl
told_both false true = refl
told_both false false = refl

pub told_opened : (f x : Bool) (q : ℕ) → f ≡ x → q ≡ cond x 0x600 0 → 0x100 + q ≡ told_by (pulls_with true f f)
told_opened f x q e w = rw (e, w) (told_both true x)

-- those of a byte that goes out, by the clocks done
module _ (k b f : ℕ) where
  pub told_ninth : (r : ℕ) → 7 < k → r ≡ cond (low_bit 0 f) 0x200 0 → r ≡ told_by (sent_pulls k b f)
  unfolding sent_pulls
  told_ninth r h e = rw (lt-ltb 7 k h) (e ∙ told_low (low_bit 0 f))

  pub told_eighth : (r : ℕ) → k ≡ 7 → r ≡ cond (low_bit k b) 0x100 0 → r ≡ told_by (sent_pulls k b f)
  unfolding sent_pulls
  told_eighth r h e = rw (le-ltb 7 k (omega arith), eq-eqb k 7 h) (e ∙ told_next (low_bit k b))

  pub told_first : (r q : ℕ) → k ≡ 0 → r ≡ cond (low_bit k f) 0x100 0 → q ≡ cond (low_bit (k + 1) f) 0x600 0
      → r + q ≡ told_by (sent_pulls k b f)
  unfolding sent_pulls
  told_first r q z e w =
      rw (le-ltb 7 k (omega arith), ne_eqb k 7 (λ n. omega arith), eq-eqb k 0 z, e, w)
      (told_both (low_bit k f) (low_bit (k + 1) f))

  pub told_within : (r q : ℕ) → (k ≡ 0 → ⊥) → k < 7 → r ≡ cond (low_bit k b) 0x100 0
      → q ≡ cond (low_bit (k + 1) b) 0x600 0 → r + q ≡ told_by (sent_pulls k b f)
  unfolding sent_pulls
  told_within r q z l e w =
      rw (le-ltb 7 k (omega arith), ne_eqb k 7 (λ n. omega arith), ne_eqb k 0 z, e, w)
      (told_both (low_bit k b) (low_bit (k + 1) b))

-- an accepted image
module _ (i m : List ℕ) (h : is_image i ≡ true) where
  abbrev cells : Cells
  cells = lent m (get_or i 23 0 * 256 + get_or i 24 0)

  fetched_same : (x : Side) → fetched_from x (candidate i) m ≡ fetched_of x cells (companion_at i)
  unfolding candidate fetched_of
  fetched_same Memory = refl
  fetched_same Companion = refl

  -- the byte that a read sends, of the state and by its places
  pub fetched_at : (f n : ℕ) → ((s : State) → i ≡ image_of s → f ≡ fetched_from (side_of n) s m)
      → f ≡ fetched_of (side_of n) cells (companion_at i)
  fetched_at f n e = e (candidate i) (sym (image_written i h)) ∙ fetched_same (side_of n)

  below : (get_or i 26 0 ≤ 8) × (get_or i 26 0 ≡ 0 → get_or i 27 0 ≡ 0)
  below = rw (image_written i h) at (image_numbered (candidate i))

  pub line_sent : 6 < get_or i 26 0
      → pulls_of (candidate i) m
      ≡ sent_pulls (get_or i 27 0) (get_or i 28 0) (fetched_of (side_of (get_or i 26 0)) cells (companion_at i))
  line_sent g =
      line_at_lem i m _ h (read_phase _ _ _ _ g below.0) ∙ read_pulls cells (companion_at i) (side_of (get_or i 26 0)) _ _

  line_taken : get_or i 26 0 < 7 → (get_or i 26 0 ≡ 0 → ⊥)
      → pulls_of (candidate i) m
      ≡ taken_pulls (get_or i 27 0) (is_taken (get_or i 26 0) (get_or i 28 0) cells.address (companion_at i) false)
      (is_taken (get_or i 26 0) (get_or i 28 0) cells.address (companion_at i) true)
      (followed_low (get_or i 26 0) (get_or i 28 0) cells (companion_at i))
  line_taken g z = line_at_lem i m _ h refl ∙ incoming cells (companion_at i) _ _ _ _ z g

  pub line_early : get_or i 26 0 < 7 → get_or i 27 0 < 7 → pulls_of (candidate i) m ≡ pulls_with false false false
  unfolding taken_pulls
  line_early g l = by_test (eqb (get_or i 26 0) 0)
      (λ t. line_at_lem i m _ h refl ∙ outside cells (companion_at i) _ _ _ _ (eqb-true _ 0 t))
      (λ t. line_taken g (eqb-false _ 0 t) ∙ rw (lt-ltb (get_or i 27 0) 7 l))

  -- from seven clocks done on
  module _ (g : get_or i 26 0 < 7) (l : 7 ≤ get_or i 27 0) where
    within : get_or i 26 0 ≡ 0 → ⊥
    within z = let e = below.1 z in omega arith

    pub line_eighth : get_or i 27 0 ≡ 7
        → pulls_of (candidate i) m
        ≡ pulls_with false (is_taken (get_or i 26 0) (get_or i 28 0) cells.address (companion_at i) false)
        (is_taken (get_or i 26 0) (get_or i 28 0) cells.address (companion_at i) true)
    unfolding taken_pulls
    line_eighth e = line_taken g within ∙ rw e

    pub byte_below : get_or i 27 0 ≡ 7 → get_or i 28 0 < 128
    unfolding candidate
    byte_below e =
        seven_bits _ _ e (bits_fit_lem _ _ _ (get_or i 29 0) within g (limits_of (candidate i) (image_well i h)).phase)

    -- eight of them
    module _ (n : get_or i 27 0 ≡ 7 → ⊥) where
      line_ninth : pulls_of (candidate i) m
          ≡ pulls_with true (followed_low (get_or i 26 0) (get_or i 28 0) cells (companion_at i))
          (followed_low (get_or i 26 0) (get_or i 28 0) cells (companion_at i))
      unfolding taken_pulls
      line_ninth = line_taken g within ∙ rw (le-ltb (get_or i 27 0) 7 l, ne_eqb (get_or i 27 0) 7 n)

      pub line_opened : get_or i 26 0 ≡ 1
          → pulls_of (candidate i) m
          ≡ pulls_with true (opened_low (slave_names (get_or i 28 0)) cells (companion_at i))
          (opened_low (slave_names (get_or i 28 0)) cells (companion_at i))
      line_opened o = line_ninth ∙ rw (eq-eqb (get_or i 26 0) 1 o)

      pub line_other : (get_or i 26 0 ≡ 1 → ⊥) → pulls_of (candidate i) m ≡ pulls_with true false false
      line_other o = line_ninth ∙ rw (ne_eqb (get_or i 26 0) 1 o)
