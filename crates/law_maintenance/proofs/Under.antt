-- SPDX-License-Identifier: Apache-2.0
-- Facts about a byte that goes out of the memory, Clock by Clock and event by event: what has to be shown of one Clock more,
-- and that no other event or phase has anything to show. And facts that hold along a list of events.
--   At              a fact about the clocks done and the byte, where a byte of the memory goes out
--   clock_at        kept by a Clock, if it is kept by a Clock of such a byte
--   along           a fact about state, memory and history that every event keeps
use Prim.Native.Nat.{ℕ, suc, ◌+◌, ◌≤◌}
use mathlib.Core.Path.{◌≡◌, refl, sym, subst}
use mathlib.Core.Bool.{Bool, true, false, cond, false≢true}
use mathlib.Core.List.{List, [], ◌∷◌}
use native.Mathlib.Omega.{arith}
use native.Mathlib.Numerals.{add-one}
use lib.Dec.{eqb, ltb}
use borrow.Author.Tests.{eqb-true, ltb-true}
use Rattle.wire.specs.Bits.{Place, first, within, last, ack, place_at, pushed}
use Rattle.wire.specs.Slave.{opened, slave_names}
use Rattle.wire.specs.Clock.{Receiver, Sender, kept, received_at, more, sent_at}
use Rattle.wire.specs.Kinds.{slave_byte, high_byte, low_byte, memory_byte, memory_read, pointer_byte, companion_byte, companion_read}
use Rattle.wire.specs.Memory.{Cells, byte_at}
use Rattle.wire.specs.Machine.{clocked}
use Rattle.wire.specs.declared.Side.TheVariants.{Memory, Companion}
use Rattle.wire.specs.declared.Named.{Named}
use Rattle.wire.specs.declared.Named.TheVariants.{Nobody, Reads, Writes}
use Rattle.wire.specs.declared.Phase.{Phase}
use Rattle.wire.specs.declared.Phase.TheVariants.{Idle, Slave, AddressHigh, AddressLow, Pointer, Write, Read}
use Rattle.wire.proofs.Tests.{by_test}
use Rattle.bus_limits.specs.Limits.{is_idle}
use Rattle.fm3130_companion.specs.declared.Companion as Part
use Rattle.fm3130.specs.Chip.{fm3130}
use Rattle.fm3130.specs.Event.{event_of}
use Rattle.fm3130.specs.declared.State.{State}
use Rattle.fm3130_list.specs.Run.{run_of}
use Rattle.lamps.specs.History.{History, moment, past_of}

pub no : {X : Type 0} → false ≡ true → X
no e = absurd (false≢true e)

-- of a byte from the memory, by its clocks done
abbrev pub At : (ℕ → ℕ → Type 0) → Phase → Type 0
At Q Idle = Unit {0}
At Q (Slave k b) = Unit {0}
At Q (AddressHigh k b) = Unit {0}
At Q (AddressLow h k b) = Unit {0}
At Q (Pointer k b) = Unit {0}
At Q (Write s k b) = Unit {0}
At Q (Read Companion k b) = Unit {0}
At Q (Read Memory k b) = Q k b

pub at_map : (P Q : ℕ → ℕ → Type 0) → ((k b : ℕ) → P k b → Q k b) → (p : Phase) → At P p → At Q p
at_map P Q f Idle h = tt
at_map P Q f (Slave k b) h = tt
at_map P Q f (AddressHigh k b) h = tt
at_map P Q f (AddressLow u k b) h = tt
at_map P Q f (Pointer k b) h = tt
at_map P Q f (Write s k b) h = tt
at_map P Q f (Read Companion k b) h = tt
at_map P Q f (Read Memory k b) h = f k b h

pub idle_at : (Q : ℕ → ℕ → Type 0) (p : Phase) → is_idle p ≡ true → At Q p
idle_at Q Idle e = tt
idle_at Q (Slave k b) e = no e
idle_at Q (AddressHigh k b) e = no e
idle_at Q (AddressLow h k b) e = no e
idle_at Q (Pointer k b) e = no e
idle_at Q (Write s k b) e = no e
idle_at Q (Read s k b) e = no e

module _ (Q : ℕ → ℕ → Type 0) (q : Q 0 0) where
  opened_at : (n : Named) → At Q (opened n)
  unfolding opened
  opened_at Nobody = tt
  opened_at (Reads Memory) = q
  opened_at (Reads Companion) = tt
  opened_at (Writes Memory) = tt
  opened_at (Writes Companion) = tt

  kept_at_lem : (t : Bool) (p : Phase) → At Q p → At Q (kept t p)
  unfolding kept
  kept_at_lem true p h = h
  kept_at_lem false p h = tt

  more_at : (t : Bool) (p : Phase) → At Q p → At Q (more t p)
  unfolding more
  more_at true p h = tt
  more_at false p h = h

  received_at_lem : {A : Type 0} (a : A) (k b : ℕ) (d : Bool) (w : Place) (R : Receiver A) → ((i j : ℕ) → At Q (R.here i j))
      → ((j : ℕ) → At Q (R.after j)) → At Q (received_at w R a k b d).phase
  unfolding received_at
  received_at_lem a k b d first R h g = h (k + 1) (pushed b d)
  received_at_lem a k b d within R h g = h (k + 1) (pushed b d)
  received_at_lem a k b d last R h g = kept_at_lem (R.take a (pushed b d)).good (R.here 8 (pushed b d)) (h 8 (pushed b d))
  received_at_lem a k b d ack R h g = g b

  sent_at_lem : {A : Type 0} (a : A) (k b : ℕ) (d : Bool) (w : Place) (S : Sender A) → ((i j : ℕ) → At Q (S.here i j))
      → At Q (sent_at w S a k b d).phase
  unfolding sent_at
  sent_at_lem a k b d first S h = h 1 (S.fetch a)
  sent_at_lem a k b d within S h = h (k + 1) b
  sent_at_lem a k b d last S h = h 8 b
  sent_at_lem a k b d ack S h = more_at d (S.here 0 0) (h 0 0)

  -- one Clock more of a byte from the memory: at the first the byte is fetched
  module _ (k b : ℕ) (m : Cells) (d : Bool) (f : k ≤ 7 → Q (suc k) (cond (eqb k 0) (byte_at m) b)) where
    abbrev Sent : Place → Type 0
    Sent p = At Q (sent_at p (memory_read fm3130.fetch fm3130.step_on) m k b d).phase

    fetched : eqb k 0 ≡ true → k ≤ 7 → Q (suc k) (byte_at m)
    fetched t l = subst (λ (z : Bool). Q (suc k) (cond z (byte_at m) b)) t (f l)

    sending : eqb k 0 ≡ false → k ≤ 7 → Q (suc k) b
    sending t l = subst (λ (z : Bool). Q (suc k) (cond z (byte_at m) b)) t (f l)

    memory_at : Sent (place_at k)
    unfolding sent_at place_at
    memory_at =
        by_test (eqb k 0)
        (λ t. let n = eqb-true k 0 t in
        let one : Q 1 (byte_at m) = subst (λ (i : ℕ). Q (suc i) (byte_at m)) n (fetched t (omega arith)) in
        subst (λ (z : Bool). Sent (cond z first (cond (ltb k 7) within (cond (eqb k 7) last ack)))) (sym t) one)
        (λ t. subst (λ (z : Bool). Sent (cond z first (cond (ltb k 7) within (cond (eqb k 7) last ack)))) (sym t)
        (by_test (ltb k 7)
        (λ u. let l = ltb-true k 7 u in
        subst (λ (z : Bool). Sent (cond z within (cond (eqb k 7) last ack))) (sym u)
        (subst (λ (i : ℕ). Q i b) (sym (add-one k)) (sending t (omega arith))))
        (λ u. subst (λ (z : Bool). Sent (cond z within (cond (eqb k 7) last ack))) (sym u)
        (by_test (eqb k 7)
        (λ w. let n = eqb-true k 7 w in
        subst (λ (z : Bool). Sent (cond z last ack)) (sym w)
        (subst (λ (i : ℕ). Q (suc i) b) n (sending t (omega arith))))
        (λ w. subst (λ (z : Bool). Sent (cond z last ack)) (sym w) (more_at d (Read Memory 0 0) q))))))

  pub clock_at : (p : Phase) (m : Cells) (e : Part.Companion) (d : Bool)
      → ((k b : ℕ) → p ≡ Read Memory k b → k ≤ 7 → Q (suc k) (cond (eqb k 0) (byte_at m) b)) → At Q (clocked fm3130 p m e d).state.phase
  unfolding clocked
  clock_at Idle m e d f = tt
  clock_at (Slave k b) m e d f =
      received_at_lem tt k b d (place_at k) (slave_byte fm3130.names) (λ i j. tt) (λ j. opened_at (slave_names j))
  clock_at (AddressHigh k b) m e d f = received_at_lem tt k b d (place_at k) high_byte (λ i j. tt) (λ j. tt)
  clock_at (AddressLow u k b) m e d f = received_at_lem m k b d (place_at k) (low_byte fm3130.point u) (λ i j. tt) (λ j. tt)
  clock_at (Pointer k b) m e d f = received_at_lem e k b d (place_at k) (pointer_byte fm3130.aim) (λ i j. tt) (λ j. tt)
  clock_at (Write Memory k b) m e d f =
      received_at_lem m k b d (place_at k) (memory_byte (fm3130.put (fm3130.guard e))) (λ i j. tt) (λ j. tt)
  clock_at (Write Companion k b) m e d f =
      received_at_lem e k b d (place_at k) (companion_byte fm3130.store) (λ i j. tt) (λ j. tt)
  clock_at (Read Companion k b) m e d f =
      sent_at_lem e k b d (place_at k) (companion_read fm3130.load fm3130.loaded) (λ i j. tt)
  clock_at (Read Memory k b) m e d f = memory_at k b m d (f k b refl)

-- A fact that every event keeps holds after a list of events.
pub along : (I : State → List ℕ → History → Type 0)
    → ((s : State) (m : List ℕ) (e : ℕ) (h : History) → I s m h → I (event_of s m e).state (event_of s m e).memory (moment s m e ∷ h))
    → (s : State) (m es : List ℕ) (h : History) → I s m h → I (run_of s m es).state (run_of s m es).memory (past_of h s m es)
unfolding run_of
along I f s m [] h g = g
along I f s m (e ∷ es) h g = along I f (event_of s m e).state (event_of s m e).memory es (moment s m e ∷ h) (f s m e h g)
