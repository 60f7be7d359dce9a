-- SPDX-License-Identifier: Apache-2.0
-- The nine Clocks of a byte, before a list.
--   clocks, clocks_by   Clocks with these data lines        bits_of   the data lines of a byte
use Rattle.std.specs.Prelude.{ℕ, Bool, true, List, [], ◌∷◌}
use Rattle.wire.specs.Bits.{sent_bit}
use Rattle.wire.specs.Machine.{clock, Event, line}
use Rattle.law_merging.specs.Merge.{Said, by}

-- Auxiliary: Clocks with these data lines, before a list; the same of a party.
abbrev pub clocks : {T : Type 0} → List Bool → List (Event T) → List (Event T)
clocks [] es = es
clocks (d ∷ ds) es = line (clock d) ∷ clocks ds es

abbrev pub clocks_by : {I T : Type 0} → I → List Bool → List (Said I T) → List (Said I T)
clocks_by i [] l = l
clocks_by i (d ∷ ds) l = by i (line (clock d)) ∷ clocks_by i ds l

-- "Bits come high bit first; the ninth clock is the acknowledge": there the master leaves the line high.
abbrev pub bits_of : ℕ → List Bool
bits_of b =
    sent_bit 0 b ∷ sent_bit 1 b ∷ sent_bit 2 b ∷ sent_bit 3 b
    ∷ sent_bit 4 b ∷ sent_bit 5 b ∷ sent_bit 6 b ∷ sent_bit 7 b
    ∷ true ∷ []
