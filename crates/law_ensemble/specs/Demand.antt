-- SPDX-License-Identifier: Apache-2.0
-- 02, number 12: "Demand 3 then speaks of each device with its own lists, merged with those of the others; inside a
-- transaction of one device, of the others' lists only ticks and counter edges fall."
--   On, Device                  a device on the line
--   Tock, tock_byte              ticks, which reach all, and edges, which name their device
--   bench                       the set as devices on a wire (`law_wired`)
--   word_byte, word_bytes         a merged list as event bytes of the set
--   own_byte_of, own_bytes         a device's list as its own event bytes
--   WritesSteadyIn              writes leave the protection bits unchanged
--   Demanded, DemandThree
--   DemandThreeMerged           the same, the protection asked for of all that the device hears
use Rattle.std.specs.Prelude.{ℕ, ◌+◌, ◌*◌, ◌≡◌, Bool, true, false, ◌&&◌, List, [], ◌∷◌, map, ltb}
use Rattle.wire.specs.Machine.{Parts, Event, line, tick}
use Rattle.fm31_counters.specs.Part.{guard_of}
use Rattle.bus.specs.Desk.{part_of}
use Rattle.bus.specs.declared.Beat.{Beat}
use Rattle.bus.specs.declared.Beat.TheVariants.{Second, Cnt1, Cnt2}
use Rattle.bus.specs.declared.Power.TheVariants as power
use Rattle.law_parts.specs.Events.{beat_byte}
use Rattle.fm31.specs.Chip.{companion31}
use Rattle.law_merging.specs.Merge.{between}
use Rattle.law_merging.specs.Party.{is_memory, is_companion}
use Rattle.law_merging.specs.Demand.{IfWritten}
use Rattle.law_wired.specs.Wire.{Heard, nothing, this, Bench, Seat, Word, says, ticks, Turns, picked_for, memory_list}
use Rattle.law_wired.specs.Wire.{companion_list, heard_list}
use Rattle.set_event.specs.Set.{Held, Together, Place, first, second, third, fourth, number_of, at, size_in, select_in}
use Rattle.set_event.specs.Set.{after_own, after_events, lines_to}
use Rattle.law_ensemble.specs.Alone.{alone, alone_lines, counters_in}
use Rattle.law_ensemble.specs.Transaction.{line_byte, same_place, Between, Unlike}
use Rattle.bus.specs.Select.{slave_names_for}

-- Auxiliary: what a test says, as a type.
abbrev pub Told : Bool → Type 0
Told true = Unit {0}
Told false = ⊥

-- A device on the line, of n.
pub record Device (n : ℕ) : Type 0 where
  pub place : Place
  pub here : Told (ltb (number_of place) n)

pub data Tock : Type 0 where
  second_passed : Tock
  edge_one : Place → Tock
  edge_two : Place → Tock

-- "Ticks .. reach all four, and a counter edge names its device."
abbrev pub only_if : Bool → Beat → Heard Beat
only_if true t = this t
only_if false t = nothing

abbrev pub hear_at : Place → Tock → Heard Beat
hear_at v second_passed = this Second
hear_at v (edge_one w) = only_if (same_place w v) Cnt1
hear_at v (edge_two w) = only_if (same_place w v) Cnt2

-- Event bytes 8 and 9 are edges of the first device, 10 and 11 of the second, and so on (docs/RULES.md).
abbrev pub tock_byte : Tock → ℕ
tock_byte second_passed = 4
tock_byte (edge_one v) = 8 + 2 * number_of v
tock_byte (edge_two v) = 9 + 2 * number_of v

-- Auxiliary: what a device leaves of the line, if it is on it.
abbrev pub among : (b : Bool) → (Told b → Bool) → Bool
among true f = f tt
among false f = true

abbrev pub all_of : (n : ℕ) → (Device n → Bool) → Bool
all_of n f =
    among (ltb 0 n) (λ h. f (record { place = first; here = h }))
    && (among (ltb 1 n) (λ h. f (record { place = second; here = h }))
    && (among (ltb 2 n) (λ h. f (record { place = third; here = h }))
    && among (ltb 3 n) (λ h. f (record { place = fourth; here = h }))))

abbrev pub part_at : Together → Place → Parts
part_at t v = part_of (size_in (at v t)) (slave_names_for (select_in (at v t))) companion31

abbrev pub bench : Together → Bench
bench t =
    record {
      Dev = Device t.set.count;
      same = λ v w. same_place v.place w.place;
      part = λ v. part_at t v.place;
      Tock = Tock;
      hear = λ v. hear_at v.place;
      all = all_of t.set.count;
    }

-- A merged list of the set, as event bytes.
abbrev pub word_byte : {n : ℕ} → Word (Device n) Tock → ℕ
word_byte (says a x) = line_byte x
word_byte (ticks t) = tock_byte t

abbrev pub word_bytes : {n : ℕ} → List (Word (Device n) Tock) → List ℕ
word_bytes l = map word_byte l

-- A device's own list, as its own event bytes.
abbrev pub own_byte_of : Event Beat → ℕ
own_byte_of (line x) = line_byte x
own_byte_of (tick b) = beat_byte b

abbrev pub own_bytes : List (Event Beat) → List ℕ
own_bytes es = map own_byte_of es

abbrev pub WritesSteadyIn : Held → List (Event Beat) → Type 0
WritesSteadyIn h [] = Unit {0}
WritesSteadyIn h (e ∷ es) =
    IfWritten h.member.state.bus.phase e (guard_of (counters_in (after_own h (own_byte_of e))) ≡ guard_of
    (counters_in h))
    × WritesSteadyIn (after_own h (own_byte_of e)) es

-- Every device on the line has main power.
abbrev pub Powered : Together → Type 0
Powered t = (v : Device t.set.count) → (at v.place t).member.state.bus.power ≡ power.On

-- Of a merged list: memory, memory address and the set's lines in the memory transactions of a device are as if its
-- first list had run on that device alone; its companion, with its address, and the set's lines in its companion
-- transactions and at its ticks
-- and edges, as if its second list had.
pub record Demanded (t : Together) (v : Device t.set.count) (l : List (Word (Device t.set.count) Tock)) :
    Type 0 where
  pub memory :
      (at v.place (after_events t (word_bytes l))).memory
      ≡ (alone (at v.place t) (own_bytes (memory_list (bench t) v l))).memory
  pub memory_address :
      (at v.place (after_events t (word_bytes l))).member.state.bus.address
      ≡ (alone (at v.place t) (own_bytes (memory_list (bench t) v l))).member.state.bus.address
  pub memory_lines :
      picked_for (bench t) v is_memory l (lines_to t (word_bytes l))
      ≡ alone_lines (at v.place t) (own_bytes (memory_list (bench t) v l))
  pub companion :
      counters_in (at v.place (after_events t (word_bytes l)))
      ≡ counters_in (alone (at v.place t) (own_bytes (companion_list (bench t) v l)))
  pub companion_lines :
      picked_for (bench t) v is_companion l (lines_to t (word_bytes l))
      ≡ alone_lines (at v.place t) (own_bytes (companion_list (bench t) v l))

abbrev pub DemandThree : Type 0
DemandThree =
    (t : Together) (v : Device t.set.count) (a : Seat (Device t.set.count)) (l : List (Word (Device t.set.count) Tock))
    → Powered t → Between t → Unlike t → Turns (bench t) a between l
    → WritesSteadyIn (at v.place t) (companion_list (bench t) v l)
    → Demanded t v l

abbrev pub DemandThreeMerged : Type 0
DemandThreeMerged =
    (t : Together) (v : Device t.set.count) (a : Seat (Device t.set.count)) (l : List (Word (Device t.set.count) Tock))
    → Powered t → Between t → Unlike t → Turns (bench t) a between l
    → WritesSteadyIn (at v.place t) (heard_list (bench t) v l)
    → Demanded t v l
