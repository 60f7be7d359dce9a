-- SPDX-License-Identifier: Apache-2.0
-- A row of Clocks of one byte: each leaves the lamps, the phase but for its clocks, the address and the supplies, so the
-- record after all of them is known from the state before and the answers.
use Prim.Native.Nat.{ℕ, zero, suc, ◌+◌, ◌*◌, ◌/◌, ◌<◌, ◌≤◌}
use mathlib.Core.Path.{◌≡◌, refl, sym, ap, ◌∙◌}
use mathlib.Core.Bool.{Bool, true, false, cond, not, ◌&&◌}
use mathlib.Core.List.{List, [], ◌∷◌, ◌++◌, append-nil}
use native.Mathlib.Omega.{arith}
use native.Mathlib.Numerals.{add-one}
use Rattle.std.specs.List.{prefix_len}
use lib.Dec.{eqb, leb}
use lib.ListN.{length, take, drop, get_or, drop_of_length-le}
use lib.Seq.{drop-cons}
use borrow.Author.Tests.{eq-eqb, ne_eqb, eqb-true, eqb-false, leb-true, leb-false}
use Rattle.wire.specs.Bits.{pushed, sent_bit}
use Rattle.wire.specs.declared.Side.TheVariants.{Memory, Companion}
use Rattle.wire.specs.declared.Phase.{Phase}
use Rattle.wire.specs.declared.Phase.TheVariants.{Idle, Slave, AddressHigh, AddressLow, Pointer, Write, Read}
use Rattle.wire.proofs.Tests.{by_test}
use Rattle.bus_limits.specs.Limits.{is_idle}
use Rattle.bus.specs.declared.Power.TheVariants.{On}
use Rattle.fm3130.specs.Chip.{Done}
use Rattle.fm3130.specs.Event.{event_of}
use Rattle.fm3130.specs.Limits.{well_formed}
use Rattle.fm3130.specs.declared.State.{State}
use Rattle.fm3130.proofs.Cases.{happening_clock}
use Rattle.bus_image.specs.Layout.{transfer_of}
use Rattle.bus_image.specs.Code.Layout.{side_of}
use Rattle.wire_clocks.specs.Clocks.{is_high}
use Rattle.place_clock.specs.Code.Outgoing.{fetched_from}
use Rattle.fm3130_image.specs.Image.{candidate}
use Rattle.fm3130_image.specs.Code.Accepting.{is_image}
use Rattle.fm3130_image.proofs.Accepts.{image_well, image_written}
use Rattle.fm3130_list.specs.Run.{answer_to, run_of, RanThrough}
use Rattle.fm3130_list.proofs.Pieces.{answers_length}
use Rattle.place_rows.proofs.Inside.{with_bits, high, turned, number_lies, clocks_lie, on_while, no_transfer, incoming_event, outgoing_event, first_event, idle_event}
use Rattle.lamps_eight.specs.declared.Lamps.{Lamps}
use Rattle.lamps.specs.Log.{clocks_of}
use Rattle.lamps.specs.Step.{following, at_rest, refusing, gathered_at, gathered, step_of}
use Rattle.lamps.specs.Statement.{answered_by, proven_by}
use Rattle.lamps.specs.declared.Follower.{Follower}
use Rattle.lamps.specs.declared.Proving.{Proving}
use Rattle.c_lamps.specs.Row.{Clocks, gathered_over, rowed_by, Row, proving_of, RowDone}

abbrev number : Phase → ℕ
number p = (transfer_of p).phase

-- a phase's clocks, and whether it is none, by its numbers
pub clocks_by_lem : (p : Phase) → (transfer_of p).clocks ≡ clocks_of p
clocks_by_lem Idle = refl
clocks_by_lem (Slave k b) = refl
clocks_by_lem (AddressHigh k b) = refl
clocks_by_lem (AddressLow h k b) = refl
clocks_by_lem (Pointer k b) = refl
clocks_by_lem (Write Memory k b) = refl
clocks_by_lem (Write Companion k b) = refl
clocks_by_lem (Read Memory k b) = refl
clocks_by_lem (Read Companion k b) = refl

idle_by : (p : Phase) → is_idle p ≡ eqb (number p) 0
idle_by Idle = refl
idle_by (Slave k b) = refl
idle_by (AddressHigh k b) = refl
idle_by (AddressLow h k b) = refl
idle_by (Pointer k b) = refl
idle_by (Write Memory k b) = refl
idle_by (Write Companion k b) = refl
idle_by (Read Memory k b) = refl
idle_by (Read Companion k b) = refl

gather_by : (p : Phase) (k b : ℕ) (f : Follower) (a : ℕ) (w line : Bool)
    → gathered (with_bits p k b) f a w line ≡ cond (eqb (number p) 7) (gathered_at k f a w line) (following w 0 0)
unfolding with_bits
gather_by Idle k b f a w line = refl
gather_by (Slave j c) k b f a w line = refl
gather_by (AddressHigh j c) k b f a w line = refl
gather_by (AddressLow h j c) k b f a w line = refl
gather_by (Pointer j c) k b f a w line = refl
gather_by (Write Memory j c) k b f a w line = refl
gather_by (Write Companion j c) k b f a w line = refl
gather_by (Read Memory j c) k b f a w line = refl
gather_by (Read Companion j c) k b f a w line = refl

clocks_with : (p : Phase) (k b : ℕ) → 0 < number p → clocks_of (with_bits p k b) ≡ k
unfolding with_bits
clocks_with Idle k b h = absurd (omega arith)
clocks_with (Slave j c) k b h = refl
clocks_with (AddressHigh j c) k b h = refl
clocks_with (AddressLow g j c) k b h = refl
clocks_with (Pointer j c) k b h = refl
clocks_with (Write Memory j c) k b h = refl
clocks_with (Write Companion j c) k b h = refl
clocks_with (Read Memory j c) k b h = refl
clocks_with (Read Companion j c) k b h = refl

own_bits : (p : Phase) → p ≡ with_bits p (clocks_of p) (transfer_of p).byte
unfolding with_bits
own_bits Idle = refl
own_bits (Slave k b) = refl
own_bits (AddressHigh k b) = refl
own_bits (AddressLow h k b) = refl
own_bits (Pointer k b) = refl
own_bits (Write Memory k b) = refl
own_bits (Write Companion k b) = refl
own_bits (Read Memory k b) = refl
own_bits (Read Companion k b) = refl

-- a Clock of such a byte leaves the lamps
pub clock_step : (f : Follower) (l : Lamps) (s : State) (e : ℕ) (d : Done) → e / 2 ≡ 1 → f.refused ≡ false
    → (clocks_of s.phase ≡ 8 → ⊥)
    → step_of (proving_of f l) s e (answered_by d)
    ≡ proving_of (gathered s.phase f s.address (refusing s.phase d.state.phase) (is_high (answer_to d))) l
clock_step f l s e d h r n = rw (happening_clock e h, r, ne_eqb (clocks_of s.phase) 8 n)

-- a Clock before the eighth: the same byte, with one clock more
record Inner (s : State) (m : List ℕ) (e : ℕ) (p : Phase) (k : ℕ) : Type 0 where
  pub bits : ℕ
  pub line : Bool
  pub done : event_of s m e ≡ turned s (with_bits p (k + 1) bits) m line

module _ (s : State) (m : List ℕ) (e : ℕ) (h : e / 2 ≡ 1) (o : s.power ≡ On) (p : Phase) (b : ℕ) where
  inner_out : (k : ℕ) → 6 < number p → k < 7 → s.phase ≡ with_bits p k b → Inner s m e p k
  inner_out zero g l q =
      let f = fetched_from (side_of (number p)) s m in
      record { bits = f; line = high e && sent_bit 0 f; done = first_event s m e h o p b g q f refl }
  inner_out (suc k) g l q =
      record { bits = b; line = high e && sent_bit (suc k) b; done = outgoing_event s m e h o p (suc k) b g (omega arith) l q }

  inner : (k : ℕ) → 0 < number p → k < 7 → s.phase ≡ with_bits p k b → Inner s m e p k
  inner k g l q =
      by_test (leb (number p) 6)
      (λ t. record {
        bits = pushed b (high e);
        line = high e;
        done = incoming_event s m e h o p k b g (let z = leb-true (number p) 6 t in omega arith) l q;
      })
      (λ t. inner_out k (leb-false (number p) 6 t) l q)

-- the byte under way: after the last of a row, and after one with more to come
gather_last : (n k : ℕ) (f : Follower) (a x : ℕ) (w : Bool)
    → cond (eqb n 7) (gathered_at k f a w (is_high x)) (following w 0 0) ≡ rowed_by n k f a w (x ∷ [])
gather_last n k f a x w = by_test (eqb k 0) (λ t. rw t) (λ t. rw t)

abbrev gathered_one : ℕ → ℕ → Follower → ℕ → ℕ → Follower
gathered_one n k f a x = cond (eqb n 7) (gathered_at k f a false (is_high x)) (following false 0 0)

gather_more : (n k : ℕ) (f : Follower) (a x : ℕ) (w : Bool) (xs : List ℕ)
    → rowed_by n (k + 1) (gathered_one n k f a x) a w xs ≡ rowed_by n k f a w (x ∷ xs)
gather_more n k f a x w xs = by_test (eqb n 7) (λ t. rw t) (λ t. rw t)

one_unrefused : (n k : ℕ) (f : Follower) (a x : ℕ) → (gathered_one n k f a x).refused ≡ false
one_unrefused n k f a x =
    by_test (eqb n 7) (λ t. by_test (eqb k 0) (λ u. rw (t, u)) (λ u. rw (t, u))) (λ t. rw t)

seven_eight : (k : ℕ) → eqb k 7 ≡ eqb (k + 1) 8
seven_eight k =
    by_test (eqb k 7)
    (λ t. let e = eqb-true k 7 t in t ∙ sym (eq-eqb (k + 1) 8 (omega arith)))
    (λ t. t ∙ sym (ne_eqb (k + 1) 8 (λ z. eqb-false k 7 t (omega arith))))

-- a row, by its first byte
module _ (p : Phase) (live : 0 < number p) (l : Lamps) where
  abbrev refused_by : ℕ → State → List ℕ → List ℕ → Bool
  refused_by k s m es = eqb (k + length es) 8 && is_idle (run_of s m es).state.phase

  module _ (k b : ℕ) (f : Follower) (s : State) (e : ℕ) (h : e / 2 ≡ 1) (q : s.phase ≡ with_bits p k b)
      (r : f.refused ≡ false) (t : k < 8) where
    clocks_here : clocks_of s.phase ≡ k
    clocks_here = ap clocks_of q ∙ clocks_with p k b live

    step_here : (d : Done) (w : Bool) → refusing s.phase d.state.phase ≡ w
        → step_of (proving_of f l) s e (answered_by d)
        ≡ proving_of (cond (eqb (number p) 7) (gathered_at k f s.address w (is_high (answer_to d))) (following w 0 0)) l
    step_here d w g =
        clock_step f l s e d h r (λ z. let c = clocks_here in omega arith)
        ∙ (λ j. proving_of (gathered (q j) f s.address (g j) (is_high (answer_to d))) l)
        ∙ ap (λ (y : Follower). proving_of y l) (gather_by p k b f s.address w (is_high (answer_to d)))

  row_run : (es : List ℕ) (k b : ℕ) (f : Follower) (s : State) (m : List ℕ) → s.power ≡ On → s.phase ≡ with_bits p k b
      → f.refused ≡ false → Clocks es → 0 < length es → k + length es ≤ 8
      → proven_by (proving_of f l) s m es
      ≡ proving_of (rowed_by (number p) k f s.address (refused_by k s m es) (run_of s m es).answers) l
  unfolding run_of
  row_run [] k b f s m o q r c n h = absurd (omega arith)
  row_run (e ∷ []) k b f s m o q r c n h =
      let d = event_of s m e in
      let w : refusing s.phase d.state.phase ≡ (eqb (k + 1) 8 && is_idle d.state.phase) =
      ap (λ (x : ℕ). eqb x 7 && is_idle d.state.phase) (clocks_here k b f s e c.0 q r (omega arith))
      ∙ ap (λ (t : Bool). t && is_idle d.state.phase) (seven_eight k) in
      step_here k b f s e c.0 q r (omega arith) d _ w
      ∙ ap (λ (y : Follower). proving_of y l) (gather_last (number p) k f s.address (answer_to d) _)
  row_run (e ∷ e' ∷ es) k b f s m o q r c n h =
      let d = event_of s m e in
      let i = inner s m e c.0 o p b k live (omega arith) q in
      let w : refusing s.phase d.state.phase ≡ false =
      ap (λ (x : ℕ). eqb x 7 && is_idle d.state.phase) (clocks_here k b f s e c.0 q r (omega arith))
      ∙ ap (λ (t : Bool). t && is_idle d.state.phase) (ne_eqb k 7 (λ z. omega arith)) in
      let g = gathered_one (number p) k f s.address (answer_to d) in
      let long : k + 1 + length (e' ∷ es) ≡ k + length (e ∷ e' ∷ es) = omega arith in
      ap (λ (y : Proving). proven_by y d.state d.memory (e' ∷ es)) (step_here k b f s e c.0 q r (omega arith) d false w)
      ∙ row_run (e' ∷ es) (k + 1) i.bits g d.state d.memory (ap (λ (x : Done). x.state.power) i.done ∙ o)
      (ap (λ (x : Done). x.state.phase) i.done) (one_unrefused (number p) k f s.address (answer_to d)) c.1
      (omega arith) (omega arith)
      ∙ (λ j. proving_of
      (rowed_by (number p) (k + 1) g (i.done j).state.address
      (eqb (long j) 8 && is_idle (run_of d.state d.memory (e' ∷ es)).state.phase)
      (run_of d.state d.memory (e' ∷ es)).answers) l)
      ∙ ap (λ (y : Follower). proving_of y l)
      (gather_more (number p) k f s.address (answer_to d) _ (run_of d.state d.memory (e' ∷ es)).answers)

-- Clocks outside a transfer
idle_step : (l : Lamps) (f : Follower) (s : State) (e : ℕ) (d : Done) → s.phase ≡ Idle → e / 2 ≡ 1 → f.refused ≡ false
    → step_of (proving_of f l) s e (answered_by d) ≡ proving_of at_rest l
idle_step l f s e d q h r =
    let z : clocks_of s.phase ≡ 0 = ap clocks_of q in
    clock_step f l s e d h r (λ t. omega arith)
    ∙ (λ j. proving_of (gathered (q j) f s.address (refusing (q j) d.state.phase) (is_high (answer_to d))) l)

idle_run : (l : Lamps) (es : List ℕ) (f : Follower) (s : State) (m : List ℕ) → s.phase ≡ Idle → f.refused ≡ false
    → Clocks es → 0 < length es → proven_by (proving_of f l) s m es ≡ proving_of at_rest l
idle_run l [] f s m q r c n = absurd (omega arith)
idle_run l (e ∷ []) f s m q r c n = idle_step l f s e (event_of s m e) q c.0 r
idle_run l (e ∷ e' ∷ es) f s m q r c n =
    let d = event_of s m e in
    ap (λ (y : Proving). proven_by y d.state d.memory (e' ∷ es)) (idle_step l f s e d q c.0 r)
    ∙ idle_run l (e' ∷ es) at_rest d.state d.memory (ap (λ (x : Done). x.state.phase) (idle_event s m e c.0 q) ∙ q)
    refl c.1 (omega arith)

-- the record after a row, by the numbers in the images before it and after it
abbrev pub row_refused : ℕ → ℕ → ℕ → List ℕ → Bool
row_refused n k n' es = not (eqb n 0) && eqb (k + length es) 8 && eqb n' 0

pub row_proven : (s : State) (f : Follower) (m es : List ℕ) (l : Lamps) → well_formed s ≡ true → Row s f es
    → proven_by (proving_of f l) s m es
    ≡ proving_of
    (rowed_by (number s.phase) (clocks_of s.phase) f s.address
    (row_refused (number s.phase) (clocks_of s.phase) (number (run_of s m es).state.phase) es) (run_of s m es).answers) l
row_proven s f m es l w h =
    by_test (eqb (number s.phase) 0)
    (λ t. let z = eqb-true (number s.phase) 0 t in
    idle_run l es f s m (no_transfer s.phase z) h.unrefused h.clocks h.some ∙ rw z refl)
    (λ t. let live : 0 < number s.phase = let z = eqb-false (number s.phase) 0 t in omega arith in
    row_run s.phase live l es (clocks_of s.phase) (transfer_of s.phase).byte f s m (on_while s w live)
    (own_bits s.phase) h.unrefused h.clocks h.some h.few
    ∙ rw (t, ← idle_by (run_of s m es).state.phase) refl)

-- the front of a list, all of it Clocks
pub clocks_front : (n : ℕ) (es : List ℕ) → n ≤ length es → ((x : ℕ) → x < n → get_or es x 0 / 2 ≡ 1) → Clocks (take n es)
clocks_front zero es l h = tt
clocks_front (suc n) [] l h = absurd (omega arith)
clocks_front (suc n) (e ∷ es) l h = (h 0 (omega arith), clocks_front n es (omega arith) (λ x t. h (suc x) (omega arith)))

pub clocks_more : (es : List ℕ) (i : ℕ) → ((x : ℕ) → x < i → get_or es x 0 / 2 ≡ 1) → get_or es i 0 / 2 ≡ 1
    → (x : ℕ) → x < i + 1 → get_or es x 0 / 2 ≡ 1
clocks_more es i h e x l =
    by_test (eqb x i) (λ t. ap (λ (y : ℕ). get_or es y 0 / 2) (eqb-true x i t) ∙ e)
    (λ t. h x (let n = eqb-false x i t in omega arith))

-- one answer more is gathered, and all
pub over_more : (k : ℕ) (f : Follower) (a : ℕ) (xs : List ℕ) (i : ℕ) → i < length xs
    → gathered_over (k + 1) (gathered_at k f a false (is_high (get_or xs i 0))) a (drop (i + 1) xs)
    ≡ gathered_over k f a (drop i xs)
over_more k f a xs i h =
    ap (λ (n : ℕ). gathered_over (k + 1) (gathered_at k f a false (is_high (get_or xs i 0))) a (drop n xs)) (add-one i)
    ∙ sym (ap (λ (l : List ℕ). gathered_over k f a l) (drop-cons xs i 0 h))

pub over_all : (k : ℕ) (f : Follower) (a : ℕ) (xs : List ℕ) (i : ℕ) → length xs ≤ i → f ≡ gathered_over k f a (drop i xs)
over_all k f a xs i h = sym (ap (λ (l : List ℕ). gathered_over k f a l) (drop_of_length-le xs h))

-- the Clocks at the front of a list, as many as there are, and of its first so many
abbrev pub front : List ℕ → ℕ
front es = prefix_len (λ e. eqb (e / 2) 1) es

pub front_within : (es : List ℕ) → front es ≤ length es
front_within [] = omega arith
front_within (e ∷ es) =
    let l = front_within es in by_test (eqb (e / 2) 1) (λ q. rw q (omega arith)) (λ q. rw q (omega arith))

pub front_clocks : (m : ℕ) (es : List ℕ) → Clocks (take (front (take m es)) es)
front_clocks zero [] = tt
front_clocks zero (e ∷ es) = tt
front_clocks (suc m) [] = tt
front_clocks (suc m) (e ∷ es) =
    by_test (eqb (e / 2) 1) (λ q. rw (q, one_more (front (take m es))) (eqb-true (e / 2) 1 q, front_clocks m es)) (λ q. rw q tt)
  where
    one_more : (n : ℕ) → 1 + n ≡ suc n
    one_more n = omega arith

-- what lies in an accepted image
pub clocks_lain : (i : List ℕ) → is_image i ≡ true → get_or i 27 0 ≡ clocks_of (candidate i).phase
clocks_lain i h = clocks_lie i (candidate i) (sym (image_written i h)) ∙ clocks_by_lem (candidate i).phase

-- answers in a buffer that is as long as the events
pub answers_all : (s : State) (m es a i' m' a' : List ℕ) → length a ≡ length es → RanThrough s m es a i' m' a'
    → a' ≡ (run_of s m es).answers
answers_all s m es a i' m' a' h r =
    r.answers ∙ ap (λ (z : List ℕ). (run_of s m es).answers ++ z) (drop_of_length-le a {i = length es} (omega arith))
    ∙ append-nil (run_of s m es).answers

pub answers_long : (s : State) (m es a i' m' a' : List ℕ) → length a ≡ length es → RanThrough s m es a i' m' a'
    → length a' ≡ length es
answers_long s m es a i' m' a' h r = ap length (answers_all s m es a i' m' a' h r) ∙ answers_length s m es

-- a row that was run, and the byte under way by the numbers that lie in the images
module _ (i m es a i' m' a' : List ℕ) (f r : Follower) (h : is_image i ≡ true) (g : length a ≡ length es) where
  abbrev address : ℕ
  address = get_or i 23 0 * 256 + get_or i 24 0

  lain_address : address ≡ (candidate i).address
  unfolding candidate
  lain_address = refl

  pub row_done : RanThrough (candidate i) m es a i' m' a' → Row (candidate i) f es
      → r ≡ rowed_by (get_or i 26 0) (get_or i 27 0) f address (row_refused (get_or i 26 0) (get_or i 27 0) (get_or i' 26 0) es) a'
      → RowDone (candidate i) f m es a r i' m' a'
  row_done w t e =
      let n = number_lies i (candidate i) (sym (image_written i h)) in
      let k = clocks_lain i h in
      let n' = number_lies i' (run_of (candidate i) m es).state w.image in
      record {
        ran = w;
        proving =
            λ l.
            ap (λ (y : Follower). proving_of y l)
            (e
            ∙ (λ j. rowed_by (n j) (k j) f (lain_address j) (row_refused (n j) (k j) (n' j) es)
            (answers_all (candidate i) m es a i' m' a' g w j)))
            ∙ sym (row_proven (candidate i) f m es l (image_well i h) t);
      }
