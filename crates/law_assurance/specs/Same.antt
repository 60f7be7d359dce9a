-- SPDX-License-Identifier: Apache-2.0
-- A read that sets its address gives the same bytes whatever the other master did before (02, number 8).
--   marked                            a companion address was set, acknowledged, in this transaction
--   ReadSet, ReadsSet                 a master's companion reads had it set
--   Harmless, HarmlessIn              what the other does not do
--   Allowed, Fair                     the same through a whole session
--   ReadsIn                           a transaction whose reads all have their address set, among the bytes in question
--   SameAnswers                       the statement
-- A read from the current address has no such assurance: both addresses are what the other left.
use Rattle.std.specs.Prelude.{ℕ, zero, suc, ◌≡◌, Bool, true, false, cond, List, [], ◌∷◌, leb, eqb}
use Rattle.wire.specs.Memory.{next}
use Rattle.wire.specs.Machine.{start, stop, clock}
use Rattle.wire.specs.declared.Side.TheVariants.{Memory, Companion}
use Rattle.wire.specs.declared.Phase.{Phase}
use Rattle.wire.specs.declared.Phase.TheVariants.{Idle, Slave, AddressHigh, AddressLow, Pointer, Write, Read}
use Rattle.fm3130.specs.Chip.{memory_size}
use Rattle.fm3130.specs.Event.{Happening, on_wire, beat, lost, gone, returned, happening, event_of}
use Rattle.fm3130.specs.declared.State.{State}
use Rattle.fm3130_list.specs.Run.{run_of}
use Rattle.masters_hold.specs.Bus.{same_master, frees}
use Rattle.masters_hold.specs.declared.Master.{Master}
use Rattle.law_assurance.specs.Session.{World, Act, asks, calls, is_answered, after_act, after_acts, own_of, begin}

-- "Its address set, acknowledged, earlier in the same transaction": at the ninth clock of a companion address byte that
-- was not refused; until the transaction's Stop, or power is lost.
abbrev pub ninth_of : Bool → Phase → Bool
ninth_of t Idle = t
ninth_of t (Slave k b) = t
ninth_of t (AddressHigh k b) = t
ninth_of t (AddressLow h k b) = t
ninth_of t (Pointer k b) = cond (leb 8 k) true t
ninth_of t (Write s k b) = t
ninth_of t (Read s k b) = t

abbrev pub marked : Bool → Phase → Happening → Bool
marked t p (on_wire start) = t
marked t p (on_wire stop) = false
marked t p (on_wire (clock d)) = ninth_of t p
marked t p (beat t') = t
marked t p lost = false
marked t p gone = false
marked t p returned = t

-- A Clock of a companion read comes only where the address was set. (Of memory reads less is asked than 02 grants: one
-- from the current address changes nothing that a later read with its address set can see.)
abbrev pub ReadAt : Bool → Phase → Type 0
ReadAt t Idle = Unit {0}
ReadAt t (Slave k b) = Unit {0}
ReadAt t (AddressHigh k b) = Unit {0}
ReadAt t (AddressLow h k b) = Unit {0}
ReadAt t (Pointer k b) = Unit {0}
ReadAt t (Write s k b) = Unit {0}
ReadAt t (Read Memory k b) = Unit {0}
ReadAt t (Read Companion k b) = t ≡ true

abbrev pub ReadSet : Bool → Phase → Happening → Type 0
ReadSet t p (on_wire start) = Unit {0}
ReadSet t p (on_wire stop) = Unit {0}
ReadSet t p (on_wire (clock d)) = ReadAt t p
ReadSet t p (beat t') = Unit {0}
ReadSet t p lost = Unit {0}
ReadSet t p gone = Unit {0}
ReadSet t p returned = Unit {0}

abbrev pub ReadsSet : Bool → State → List ℕ → List ℕ → Type 0
ReadsSet t s m [] = Unit {0}
ReadsSet t s m (e ∷ es) =
    ReadSet t s.phase (happening e)
    × ReadsSet (marked t s.phase (happening e)) (event_of s m e).state (event_of s m e).memory es

-- Auxiliary: the same, of where the transaction then stands.
abbrev pub marked_after : Bool → State → List ℕ → List ℕ → Bool
marked_after t s m [] = t
marked_after t s m (e ∷ es) = marked_after (marked t s.phase (happening e)) (event_of s m e).state (event_of s m e).memory es

-- "The other wrote none of those bytes and no register and read no 00h": a Clock that would end such a byte, its eighth.
abbrev pub HarmlessAt : (ℕ → Bool) → State → Phase → Type 0
HarmlessAt A s Idle = Unit {0}
HarmlessAt A s (Slave k b) = Unit {0}
HarmlessAt A s (AddressHigh k b) = Unit {0}
HarmlessAt A s (AddressLow h k b) = Unit {0}
HarmlessAt A s (Pointer k b) = Unit {0}
HarmlessAt A s (Write Memory k b) = k ≡ 7 → A s.address ≡ false
HarmlessAt A s (Write Companion k b) = k ≡ 7 → ⊥
HarmlessAt A s (Read Memory k b) = Unit {0}
HarmlessAt A s (Read Companion k b) = k ≡ 7 → s.companion.address ≡ 0 → ⊥

abbrev pub Harmless : (ℕ → Bool) → State → Happening → Type 0
Harmless A s (on_wire start) = Unit {0}
Harmless A s (on_wire stop) = Unit {0}
Harmless A s (on_wire (clock d)) = HarmlessAt A s s.phase
Harmless A s (beat t') = Unit {0}
Harmless A s lost = Unit {0}
Harmless A s gone = Unit {0}
Harmless A s returned = Unit {0}

abbrev pub HarmlessIn : (ℕ → Bool) → State → List ℕ → List ℕ → Type 0
HarmlessIn A s m [] = Unit {0}
HarmlessIn A s m (e ∷ es) = Harmless A s (happening e) × HarmlessIn A (event_of s m e).state (event_of s m e).memory es

-- Auxiliary: what is asked of an answered call, by whose it is.
abbrev pub AskedOf : Bool → Bool → (ℕ → Bool) → Bool → State → List ℕ → List ℕ → Type 0
AskedOf answered mine A t s m es =
    cond {A = Type 0} answered (cond {A = Type 0} mine (ReadsSet t s m es) (HarmlessIn A s m es)) (Unit {0})

-- Where the master's transaction stands after a call: one that frees the bus, whoever made it, has ended it.
abbrev pub mark_after_act : Master → Bool → World → Act → Bool
mark_after_act me t w (asks x) = t
mark_after_act me t w (calls x es) =
    cond (is_answered w.holder x es)
    (cond (same_master me x) (marked_after t w.state w.memory es) (cond (frees false es) false t))
    t

-- What is asked of an act. ("This master got no number 7" is asked by `Alongside`: a refused call has no events there.)
abbrev pub Allowed : Master → (ℕ → Bool) → Bool → World → Act → Type 0
Allowed me A t w (asks x) = Unit {0}
Allowed me A t w (calls x es) = AskedOf (is_answered w.holder x es) (same_master me x) A t w.state w.memory es

abbrev pub Fair : Master → (ℕ → Bool) → Bool → World → List Act → Type 0
Fair me A t w [] = Unit {0}
Fair me A t w (x ∷ l) = Allowed me A t w x × Fair me A (mark_after_act me t w x) (after_act w x) l

-- "Those bytes": the n from an address on.
abbrev pub among : ℕ → ℕ → ℕ → Bool
among a zero x = false
among a (suc n) x = cond (eqb x a) true (among (next memory_size a) n x)

-- The answers to a list of events after a session.
abbrev pub answers_after : World → List ℕ → List ℕ
answers_after w es = (run_of w.state w.memory es).answers

-- Two sessions from one state between transfers, in which this master's answered calls have the same events and the same
-- ticks and power events fall among them: "this master got no number 7 .. and ticks and power events are the same".
pub record Alongside (me : Master) (A : ℕ → Bool) (s : State) (m : List ℕ) (x y : List Act) : Type 0 where
  pub between : s.phase ≡ Idle
  pub one : Fair me A false (begin s m) x
  pub two : Fair me A false (begin s m) y
  pub alike : own_of me (begin s m) x ≡ own_of me (begin s m) y

-- Auxiliary: the same of the memory address: set, acknowledged, at the ninth clock of its second byte.
abbrev pub ninth_low : Bool → Phase → Bool
ninth_low v Idle = v
ninth_low v (Slave k b) = v
ninth_low v (AddressHigh k b) = v
ninth_low v (AddressLow h k b) = cond (leb 8 k) true v
ninth_low v (Pointer k b) = v
ninth_low v (Write s k b) = v
ninth_low v (Read s k b) = v

abbrev pub placed_by : Bool → Phase → Happening → Bool
placed_by v p (on_wire start) = v
placed_by v p (on_wire stop) = false
placed_by v p (on_wire (clock d)) = ninth_low v p
placed_by v p (beat t') = v
placed_by v p lost = false
placed_by v p gone = false
placed_by v p returned = v

-- A Clock of a read comes only where the address was set; and a memory byte that is read is one of "those bytes".
abbrev pub ReadInAt : (ℕ → Bool) → Bool → Bool → State → Phase → Type 0
ReadInAt A t v s Idle = Unit {0}
ReadInAt A t v s (Slave k b) = Unit {0}
ReadInAt A t v s (AddressHigh k b) = Unit {0}
ReadInAt A t v s (AddressLow h k b) = Unit {0}
ReadInAt A t v s (Pointer k b) = Unit {0}
ReadInAt A t v s (Write x k b) = Unit {0}
ReadInAt A t v s (Read Memory k b) = (v ≡ true) × (k ≡ 0 → A s.address ≡ true)
ReadInAt A t v s (Read Companion k b) = t ≡ true

abbrev pub ReadIn : (ℕ → Bool) → Bool → Bool → State → Happening → Type 0
ReadIn A t v s (on_wire start) = Unit {0}
ReadIn A t v s (on_wire stop) = Unit {0}
ReadIn A t v s (on_wire (clock d)) = ReadInAt A t v s s.phase
ReadIn A t v s (beat t') = Unit {0}
ReadIn A t v s lost = Unit {0}
ReadIn A t v s gone = Unit {0}
ReadIn A t v s returned = Unit {0}

abbrev pub ReadsIn : (ℕ → Bool) → Bool → Bool → State → List ℕ → List ℕ → Type 0
ReadsIn A t v s m [] = Unit {0}
ReadsIn A t v s m (e ∷ es) =
    ReadIn A t v s (happening e)
    × ReadsIn A (marked t s.phase (happening e)) (placed_by v s.phase (happening e)) (event_of s m e).state (event_of s m e).memory es

-- "A read that sets its address and reads in the same transaction gives the same bytes whatever the other did before":
-- events from a Start on, all of whose reads have their address set since that Start, and read of the memory only those
-- bytes, are answered the same.
abbrev pub SameAnswers : Type 0
SameAnswers =
    (me : Master) (A : ℕ → Bool) (s : State) (m : List ℕ) (x y : List Act) (es : List ℕ)
    → Alongside me A s m x y
    → ReadsIn A false false (after_acts (begin s m) x).state (after_acts (begin s m) x).memory (0 ∷ es)
    → answers_after (after_acts (begin s m) x) (0 ∷ es) ≡ answers_after (after_acts (begin s m) y) (0 ∷ es)
