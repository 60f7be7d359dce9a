-- SPDX-License-Identifier: Apache-2.0
-- A worked merge: a memory transaction that writes 5Ah at 0005h, and a companion transaction that writes 15h to 09h
-- (alarm seconds), with one tick inside each.
--   stored, register, value                         what is written
--   memory_list, companion_list, merged_list           the two lists and their merge
--   started                                         a running device between transfers
use Rattle.std.specs.Prelude.{ℕ, Bool, List, [], ◌∷◌, ◌++◌}
use Rattle.wire.specs.Machine.{start, stop, line, tick}
use Rattle.wire.specs.declared.Side.TheVariants.{Memory, Companion}
use Rattle.wire.specs.declared.Phase.TheVariants.{Idle}
use Rattle.bus.specs.declared.Power.TheVariants.{On}
use Rattle.fm3130_companion.specs.Power.{lost_date}
use Rattle.fm3130.specs.Chip.{fm3130}
use Rattle.fm3130.specs.declared.State.{State}
use Rattle.law_merging.specs.Merge.{by}
use Rattle.law_merging.specs.Clocks.{clocks, clocks_by, bits_of}
use Rattle.law_merging.specs.Party.{to, BusEvent, PartyEvent}

-- Auxiliary: the two address bytes and the data byte of the memory transaction; the register that the companion
-- transaction writes, and its data byte.
abbrev pub stored : List Bool
stored = bits_of 0x00 ++ bits_of 0x05 ++ bits_of 0x5A

abbrev pub register : ℕ
register = 0x09

abbrev pub value : ℕ
value = 0x15

abbrev pub memory_list : List (BusEvent fm3130)
memory_list = line start ∷ clocks (bits_of 0xA0) (clocks stored (line stop ∷ []))

abbrev pub companion_list : List (BusEvent fm3130)
companion_list =
    tick tt
    ∷ line start ∷ clocks (bits_of 0xD0) (clocks (bits_of register) (tick tt ∷ clocks (bits_of value) (line stop ∷ [])))

-- The first tick falls inside the memory transaction, the second inside the companion's.
abbrev pub merged_list : List (PartyEvent fm3130)
merged_list =
    let m = to Memory in
    let c = to Companion in
    by m (line start) ∷ clocks_by m (bits_of 0xA0) (by c (tick tt) ∷ clocks_by m stored (by m (line stop)
    ∷ by c (line start) ∷ clocks_by c (bits_of 0xD0) (clocks_by c (bits_of register) (by c (tick tt)
    ∷ clocks_by c (bits_of value) (by c (line stop) ∷ [])))))

-- Main power present, no transfer, the oscillator running, no memory protected.
abbrev pub started : State
started =
    record {
      power = On;
      phase = Idle;
      address = 0;
      companion =
          record {
            registers =
                record {
                  control = 0;
                  trim = 0;
                  time = lost_date;
                  alarm = record { seconds = 0; minutes = 0; hours = 0; date = 0; month = 0 };
                  setup = 0;
                };
            core = lost_date;
            address = 0;
          };
    }
