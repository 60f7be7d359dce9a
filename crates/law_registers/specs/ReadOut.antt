-- SPDX-License-Identifier: Apache-2.0
-- A register read over the wire (01, Transfers): with what a written byte leaves (Written), bytes written and read back.
--   open_read   Start, D0h, the register's address, Start, D1h
--   ReadOut    the eight Clocks after it send the register, high bit first, whatever was under way
use Rattle.std.specs.Prelude.{ℕ, ◌≤◌, ◌≡◌, true, List, ◌∷◌, ◌++◌, get_or}
use Rattle.wire.specs.HighFirst.{sent_bits}
use Rattle.wire.specs.Whole.{eight}
use Rattle.bus.specs.declared.Power.TheVariants.{On}
use Rattle.fm3130_companion.specs.Registers.{register_bytes}
use Rattle.fm3130.specs.declared.State.{State}
use Rattle.fm3130_list.specs.Run.{run_of}
use Rattle.wire_clocks.specs.Clocks.{clocks_of, nine_clocks, lines_of}

-- 01, Transfers: "Slave byte .. 1101 000x the companion; x = 1 reads".
abbrev pub open_read : ℕ → List ℕ
open_read a = 0 ∷ (nine_clocks 0xD0 true ++ (nine_clocks a true ++ (0 ∷ nine_clocks 0xD1 true)))

abbrev pub ReadOut : Type 0
ReadOut =
    (s : State) (m : List ℕ) (a : ℕ) → s.power ≡ On → a ≤ 14
    → lines_of (run_of (run_of s m (open_read a)).state m (clocks_of (eight true true true true true true true true))).answers
    ≡ sent_bits (get_or (register_bytes s.companion.registers) a 0)
