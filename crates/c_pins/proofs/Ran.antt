-- SPDX-License-Identifier: Apache-2.0
-- Events on image and memory, one after the other.
use Prim.Native.Nat.{ℕ, ◌+◌, ◌<◌, ◌≤◌}
use mathlib.Core.Path.{◌≡◌, refl, sym, ap, ◌∙◌}
use mathlib.Core.Bool.{Bool, true, false, false≢true}
use mathlib.Core.List.{List, [], ◌∷◌, ◌++◌, append-nil, append_assoc}
use lib.Dec.{eqb}
use lib.ListN.{length, get_or, take}
use native.Mathlib.Omega.{arith}
use borrow.Author.Tests.{le-ltb, lt-ltb}
use Rattle.std.specs.Prelude.{Option, Some, None}
use Rattle.std.proofs.lemmas.List.{take_more}
use Rattle.wire.proofs.Tests.{by_test}
use Rattle.wire.specs.declared.Side.TheVariants.{Memory, Companion}
use Rattle.wire.specs.declared.Phase.{Phase}
use Rattle.wire.specs.declared.Phase.TheVariants.{Idle, Slave, AddressHigh, AddressLow, Pointer, Write, Read}
use Rattle.place_clock.specs.Code.Clocking.{Accepted}
use Rattle.fm3130.specs.Chip.{memory_size}
use Rattle.fm3130.specs.Event.{event_of}
use Rattle.fm3130.specs.Limits.{well_formed}
use Rattle.fm3130.specs.declared.State.{State}
use Rattle.fm3130.proofs.Wellformed.{event_ok}
use Rattle.bus_image.specs.Layout.{transfer_of}
use Rattle.place_event.specs.Code.Answering.{Answered}
use Rattle.fm3130_image.specs.Image.{image_of, candidate}
use Rattle.fm3130_image.specs.Code.Accepting.{is_image}
use Rattle.fm3130_image.proofs.Images.{candidate_of, decode_image, image_length}
use Rattle.fm3130_image.proofs.Accepts.{image_well, image_written, image_not_read}
use Rattle.c_line.specs.Wires.{is_eighth}
use Rattle.fm3130_list.specs.Run.{run_of}
use Rattle.pins_levels.specs.Look.{known}
use Rattle.pins_levels.specs.Session.{ran}
use Rattle.pins_levels.proofs.Runs.{ran_append}
use Rattle.c_pins.specs.Chip.{Held, held, after, fm3130_on, RanOn}
use Rattle.c_pins.specs.Entry.{eighth_in}

-- what every list keeps
pub record HeldOk (h : Held) : Type 0 where
  pub state : well_formed h.state ≡ true
  pub memory : length h.memory ≡ memory_size

pub ran_ok : (h : Held) (es : List ℕ) → HeldOk h → HeldOk (ran fm3130_on h es)
unfolding ran
ran_ok h [] k = k
ran_ok h (e ∷ es) k =
    let o = event_ok h.state h.memory e k.state k.memory in
    ran_ok (after (event_of h.state h.memory e)) es (record { state = o.state; memory = o.memory })

-- it is 01's list run
pub ran_run : (s : State) (m es : List ℕ) → ran fm3130_on (held s m) es ≡ held (run_of s m es).state (run_of s m es).memory
unfolding ran run_of
ran_run s m [] = refl
ran_run s m (e ∷ es) = ran_run (event_of s m e).state (event_of s m e).memory es

-- the image of a well-formed state is accepted
pub image_ok : (s : State) → well_formed s ≡ true → is_image (image_of s) ≡ true
image_ok s w =
    by_test (is_image (image_of s)) (λ q. q)
    (λ q. absurd (false≢true (ap good (sym (image_not_read (image_of s) q) ∙ decode_image s w))))
  where
    good : Option State → Bool
    good None = false
    good (Some x) = true

pub accepted_held : (i m : List ℕ) → Accepted i m → HeldOk (held (candidate i) m)
accepted_held i m a = record { state = image_well i a.image; memory = a.memory }

pub ran_accepted : (i m es i' m' : List ℕ) → Accepted i m → RanOn i m es i' m' → Accepted i' m'
ran_accepted i m es i' m' a r =
    let k = ran_ok (held (candidate i) m) es (accepted_held i m a) in
    record {
      image = ap is_image r.image ∙ image_ok _ k.state;
      memory = ap length r.memory ∙ k.memory;
    }

-- what lies there afterwards
pub ran_held : (i m es i' m' : List ℕ) → RanOn i m es i' m' → held (candidate i') m' ≡ ran fm3130_on (held (candidate i) m) es
ran_held i m es i' m' r =
    let c : candidate i' ≡ (ran fm3130_on (held (candidate i) m) es).state = ap candidate r.image ∙ candidate_of _ in
    λ j. record { state = c j; memory = r.memory j }

pub ran_join : (i m xs i' m' ys i'' m'' : List ℕ) → RanOn i m xs i' m' → RanOn i' m' ys i'' m'' → RanOn i m (xs ++ ys) i'' m''
ran_join i m xs i' m' ys i'' m'' r q =
    let e : ran fm3130_on (held (candidate i') m') ys ≡ ran fm3130_on (held (candidate i) m) (xs ++ ys) =
    ap (λ (h : Held). ran fm3130_on h ys) (ran_held i m xs i' m' r) ∙ sym (ran_append fm3130_on (held (candidate i) m) xs ys) in
    record {
      image = q.image ∙ ap (λ (h : Held). image_of h.state) e;
      memory = q.memory ∙ ap (λ (h : Held). h.memory) e;
    }

-- no event; one event
pub once_none : (i m : List ℕ) (e : ℕ) → Accepted i m → 7 < e → RanOn i m (known e) i m
unfolding known ran
once_none i m e a h = rw (le-ltb e 8 h) (record { image = sym (image_written i a.image); memory = refl })

pub once_done : (i m : List ℕ) (e r : ℕ) (i' m' : List ℕ) → e ≤ 7 → Answered (event_of (candidate i) m e) r i' m'
    → RanOn i m (known e) i' m'
unfolding known ran
once_done i m e r i' m' h a =
    let l : e < 8 = omega arith in
    rw (lt-ltb e 8 l) (record { image = a.image; memory = a.memory })

-- those of the eight among some events
abbrev pub knowns : List ℕ → List ℕ
knowns [] = []
knowns (e ∷ es) = known e ++ knowns es

knowns_append : (xs ys : List ℕ) → knowns (xs ++ ys) ≡ knowns xs ++ knowns ys
knowns_append [] ys = refl
knowns_append (e ∷ xs) ys = ap (λ (l : List ℕ). known e ++ l) (knowns_append xs ys) ∙ sym (append_assoc (known e) (knowns xs) (knowns ys))

-- none of them yet; one more
pub ran_none : (i m : List ℕ) → Accepted i m → RanOn i m [] i m
unfolding ran
ran_none i m a = record { image = sym (image_written i a.image); memory = refl }

pub ran_more : (i m xs i' m' i'' m'' : List ℕ) (k : ℕ) → k < length xs → RanOn i m (knowns (take k xs)) i' m'
    → RanOn i' m' (known (get_or xs k 0)) i'' m'' → RanOn i m (knowns (take (k + 1) xs)) i'' m''
ran_more i m xs i' m' i'' m'' k h r q =
    let e : knowns (take (k + 1) xs) ≡ knowns (take k xs) ++ known (get_or xs k 0) =
    ap knowns (take_more xs k 0 h)
    ∙ knowns_append (take k xs) (get_or xs k 0 ∷ [])
    ∙ ap (λ (l : List ℕ). knowns (take k xs) ++ l) (append-nil (known (get_or xs k 0))) in
    rw e (ran_join i m _ i' m' _ i'' m'' r q)

-- the image's clocks
phase_clocks : (p : Phase) → eqb (transfer_of p).clocks 7 ≡ is_eighth p
unfolding is_eighth
phase_clocks Idle = refl
phase_clocks (Slave k b) = refl
phase_clocks (AddressHigh k b) = refl
phase_clocks (AddressLow h k b) = refl
phase_clocks (Pointer k b) = refl
phase_clocks (Write Memory k b) = refl
phase_clocks (Write Companion k b) = refl
phase_clocks (Read Memory k b) = refl
phase_clocks (Read Companion k b) = refl

byte_clocks : (s : State) → get_or (image_of s) 27 0 ≡ (transfer_of s.phase).clocks
unfolding image_of
byte_clocks s = refl

pub eighth_in_lem : (s : State) → eighth_in (image_of s) ≡ is_eighth s.phase
eighth_in_lem s =
    let l : 27 < length (image_of s) = let z = image_length s in omega arith in
    rw (lt-ltb 27 (length (image_of s)) l) (ap (λ (n : ℕ). eqb n 7) (byte_clocks s) ∙ phase_clocks s.phase)
