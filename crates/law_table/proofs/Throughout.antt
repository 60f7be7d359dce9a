-- SPDX-License-Identifier: Apache-2.0
-- A protected address over a whole list: by induction on the list, one event after the other leaves it. What can change
-- the protection: by cases on the supply, the event and the phase. An address byte, a read and a tick leave 0Eh, and so
-- does every clock of a written byte but the eighth.
use Prim.Native.Nat.{ℕ}
use mathlib.Core.Path.{◌≡◌, refl, ap, ◌∙◌}
use mathlib.Core.Bool.{Bool}
use mathlib.Core.List.{List, [], ◌∷◌, ◌++◌, append_assoc}
use lib.Dec.{ltb, eqb}
use borrow.Author.Tests.{ltb-true, ltb-false, eqb-true, eqb-false}
use Rattle.wire.specs.Bits.{pushed}
use Rattle.wire.specs.Clock.{Receiver, received, sent}
use Rattle.wire.specs.Kinds.{pointer_byte, companion_byte, companion_read}
use Rattle.wire.specs.Memory.{lent, is_protected}
use Rattle.wire.specs.Machine.{start, stop, clock, clocked, lined}
use Rattle.wire.specs.declared.Side.TheVariants.{Memory, Companion}
use Rattle.wire.specs.declared.Phase.{Phase}
use Rattle.wire.specs.declared.Phase.TheVariants.{Idle, Slave, AddressHigh, AddressLow, Pointer, Write, Read}
use Rattle.wire.proofs.Clock.{received_inside, received_last, received_ack}
use Rattle.wire.proofs.Clock.{sent_first, sent_within, sent_last, sent_ack}
use Rattle.wire.proofs.Tests.{by_test}
use Rattle.bus.specs.declared.Power.{Power}
use Rattle.bus.specs.declared.Power.TheVariants.{On, Backup, Off}
use Rattle.fm3130_companion.specs.Part.{guard_of, load_of, loaded_of, returned_of}
use Rattle.fm3130_companion.specs.declared.Companion.{Companion as Desk}
use Rattle.fm3130_companion.proofs.Shown.{aim_guard, loaded_guard, tick_guard}
use Rattle.fm3130.specs.Chip.{memory_size, fm3130}
use Rattle.wire.specs.Slave.{slave_names}
use Rattle.fm3130.specs.Desk.{aims, stores, companion30}
use Rattle.fm3130.specs.Event.{Happening, on_wire, beat, lost, gone, returned, happening, event_of, event_on}
use Rattle.fm3130.specs.declared.State.{State}
use Rattle.fm3130_list.specs.Run.{run_of}
use Rattle.law_table.specs.Stored.{after}
use Rattle.law_table.specs.Throughout.{BeforeEach, ProtectedKept, Protecting, written, dark}
use Rattle.law_table.specs.Throughout.{OnlyTheseProtect, ProtectionStays}
use Rattle.fm3130_list.specs.Held.{held}
use Rattle.fm3130_list.proofs.Held.{run_held}
use Rattle.law_parts.proofs.Protected as laws

-- what holds before each event of a list holds so of its first event, and of the list after that
module _ (X : State → ℕ → Type 0) (s : State) (m : List ℕ) (e : ℕ) (es : List ℕ) (h : BeforeEach X s m (e ∷ es)) where
  before_first : X s e
  unfolding run_of
  before_first = h [] es e refl

  before_rest : BeforeEach X (event_of s m e).state (event_of s m e).memory es
  unfolding run_of
  before_rest done rest f q = h (e ∷ done) rest f (ap (λ (z : List ℕ). e ∷ z) q)

pub protected_kept : ProtectedKept
protected_kept s m es a h =
    rw (run_held s m es) at
    (laws.protected_kept memory_size slave_names companion30 (held s m) es a
    (λ done rest e q. rw (run_held s m done) (h done rest e q)))

-- a clock that serves the companion
module _ (c : Desk) (k b : ℕ) (d : Bool) where
  -- a byte that it receives, but where the byte is taken and that changes the protection
  received_guard : (R : Receiver Desk) → (k ≡ 7 → guard_of (R.take c (pushed b d)).next ≡ guard_of c)
      → guard_of (received R c k b d).part ≡ guard_of c
  received_guard R taken = by_test (ltb k 7) (λ l. rw (received_inside R c k b d (ltb-true k 7 l)) refl)
      (λ l. by_test (eqb k 7)
      (λ q. rw (received_last R c k b d (eqb-true k 7 q)) (taken (eqb-true k 7 q)))
      (λ q. rw (received_ack R c k b d (ltb-false k 7 l) (eqb-false k 7 q)) refl))

  read_guard : guard_of (sent (companion_read load_of loaded_of) c k b d).part ≡ guard_of c
  read_guard =
      let S = companion_read load_of loaded_of in
      by_test (eqb k 0) (λ z. rw (sent_first S c k b d (eqb-true k 0 z)) refl)
      (λ z. by_test (ltb k 7) (λ l. rw (sent_within S c k b d (eqb-false k 0 z) (ltb-true k 7 l)) refl)
      (λ l. by_test (eqb k 7)
      (λ q. rw (sent_last S c k b d (eqb-true k 7 q)) (loaded_guard c b))
      (λ q. rw (sent_ack S c k b d (ltb-false k 7 l) (eqb-false k 7 q)) refl)))

clock_guard : (s : State) (m : List ℕ) (d : Bool) (p : Phase) → s.phase ≡ p → (Protecting s (on_wire (clock d)) → ⊥)
    → guard_of (clocked fm3130 p (lent m s.address) s.companion d).state.companion ≡ guard_of s.companion
unfolding clocked
clock_guard s m d Idle e n = refl
clock_guard s m d (Slave k b) e n = refl
clock_guard s m d (AddressHigh k b) e n = refl
clock_guard s m d (AddressLow h k b) e n = refl
clock_guard s m d (Pointer k b) e n =
    received_guard s.companion k b d (pointer_byte aims) (λ q. aim_guard s.companion (pushed b d))
clock_guard s m d (Write Memory k b) e n = refl
clock_guard s m d (Write Companion k b) e n =
    received_guard s.companion k b d (companion_byte stores)
    (λ q. absurd (n (written b d (e ∙ ap (λ (j : ℕ). Write Companion j b) q))))
clock_guard s m d (Read Memory k b) e n = refl
clock_guard s m d (Read Companion k b) e n = read_guard s.companion k b d

event_guard : (p : Power) (x : Happening) (s : State) (m : List ℕ) → (Protecting s x → ⊥)
    → guard_of (event_on p x s m).state.companion ≡ guard_of s.companion
unfolding event_on lined returned_of
event_guard On (on_wire start) s m n = refl
event_guard On (on_wire stop) s m n = refl
event_guard On (on_wire (clock d)) s m n = clock_guard s m d s.phase refl n
event_guard On (beat t') s m n = tick_guard s.companion
event_guard On lost s m n = refl
event_guard On gone s m n = absurd (n dark)
event_guard On returned s m n = refl
event_guard Backup (on_wire x) s m n = refl
event_guard Backup (beat t') s m n = tick_guard s.companion
event_guard Backup lost s m n = refl
event_guard Backup gone s m n = absurd (n dark)
event_guard Backup returned s m n = refl
event_guard Off (on_wire x) s m n = refl
event_guard Off (beat t') s m n = refl
event_guard Off lost s m n = refl
event_guard Off gone s m n = refl
event_guard Off returned s m n = refl

pub only_these_protect : OnlyTheseProtect
only_these_protect s m e n = event_guard s.power (happening e) s m n

abbrev NotProtecting : State → ℕ → Type 0
NotProtecting t e = Protecting t (happening e) → ⊥

-- the events that were done left the protection as it was
guard_stays : (s : State) (m es : List ℕ) → BeforeEach NotProtecting s m es
    → guard_of (after s m es).companion ≡ guard_of s.companion
unfolding run_of
guard_stays s m [] h = refl
guard_stays s m (e ∷ es) h =
    guard_stays (event_of s m e).state (event_of s m e).memory es (before_rest NotProtecting s m e es h)
    ∙ only_these_protect s m e (before_first NotProtecting s m e es h)

pub protection_stays : ProtectionStays
protection_stays s m es a p h done rest e q =
    let k = guard_stays s m done
    (λ d r f w. h d (r ++ (e ∷ rest)) f
    (q ∙ (ap (λ (z : List ℕ). z ++ (e ∷ rest)) w ∙ append_assoc d (f ∷ r) (e ∷ rest)))) in
    ap (λ (g : ℕ). is_protected memory_size g a) k ∙ p
