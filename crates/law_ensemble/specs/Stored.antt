-- SPDX-License-Identifier: Apache-2.0
-- Demand 2's two sentences about memory for each device of a set, at its size and its select bits (02, number 12: "5)'s statements
-- hold for each device"); the first on the line that all of them share.
--   NoStart           no Start is among some events
--   SetStores         the line low at the ninth clock, the master high: the byte is stored in the device that writes
--   SetKeeps          an address of a device that is protected before each event that it hears
use Rattle.std.specs.Prelude.{ℕ, ◌≡◌, Bool, true, false, List, [], ◌∷◌, ◌++◌, get_or}
use Rattle.wire.specs.Memory.{is_protected}
use Rattle.fm31_counters.specs.Part.{guard_of}
use Rattle.fm31.specs.Chip.{companion31}
use Rattle.law_parts.specs.Events.{clock_event}
use Rattle.law_parts.specs.Stored.{Byte, AtData, StoredAt}
use Rattle.set_event.specs.Set.{Together, Place, number_of, at, size_in, after_events, line_to}
use Rattle.set_event.specs.Outcome.{SetFit}
use Rattle.law_ensemble.specs.Alone.{heard_by, alone, counters_in}
use Rattle.law_ensemble.specs.Transaction.{Here, Unlike}
use Rattle.law_ensemble.specs.Stand.{bus_in, Stands}

abbrev pub NoStart : List ℕ → Type 0
NoStart [] = Unit {0}
NoStart (e ∷ es) = (e ≡ 0 → ⊥) × NoStart es

-- In a set as a made one stands, within its limits: where a data byte of a memory write begins in the device at v, its eight clocks
-- come, with ticks and edges of any device among them, and the line of the set is low at the ninth clock, where the master leaves it
-- high. Then the device's memory is as it was but for that byte at its address.
abbrev pub SetStores : Type 0
SetStores =
    (t : Together) (v : Place) (byte : List ℕ) (w : ℕ) (d : Bool) → Unlike t → Stands t → SetFit t → Here t v
    → AtData (bus_in (at v t)) → NoStart byte → Byte companion31 w (heard_by t.set.count (number_of v) byte)
    → line_to (after_events t byte) 3 ≡ false
    → StoredAt (at v t).memory (bus_in (at v t)).address w (at v (after_events t (byte ++ (clock_event d ∷ [])))).memory

-- However what the device hears is parted into events that were done, the next, and the rest.
abbrev pub SetKeeps : Type 0
SetKeeps =
    (t : Together) (v : Place) (es : List ℕ) (a : ℕ)
    → ((done rest : List ℕ) (e : ℕ) → heard_by t.set.count (number_of v) es ≡ done ++ (e ∷ rest)
    → is_protected (size_in (at v t)) (guard_of (counters_in (alone (at v t) done))) a ≡ true)
    → get_or (at v (after_events t es)).memory a 0 ≡ get_or (at v t).memory a 0
