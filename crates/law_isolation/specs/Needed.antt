-- SPDX-License-Identifier: Apache-2.0
-- Two lists that demand 3 must not be claimed of: one in which a write changes the protection, and one in which a
-- transaction falls inside another.
--   protecting_list, protected_list   a companion transaction that protects all memory, and then a memory transaction
--   broken_list                      a companion transaction between the address and the data of a memory transaction
use Rattle.std.specs.Prelude.{List, [], ◌∷◌, ◌++◌}
use Rattle.wire.specs.Machine.{start, stop, line, tick}
use Rattle.wire.specs.declared.Side.TheVariants.{Memory, Companion}
use Rattle.fm3130.specs.Chip.{fm3130}
use Rattle.law_merging.specs.Merge.{by}
use Rattle.law_merging.specs.Party.{to, BusEvent, PartyEvent}
use Rattle.law_merging.specs.Clocks.{clocks, clocks_by, bits_of}
use Rattle.law_isolation.specs.Example.{stored, register, value}

-- 18h to 0Eh: WP1 WP0 become 11.
abbrev pub protecting_list : List (BusEvent fm3130)
protecting_list = line start ∷ clocks (bits_of 0xD0) (clocks (bits_of 0x0E ++ bits_of 0x18) (line stop ∷ []))

-- A merge of `memory_list` and `protecting_list`.
abbrev pub protected_list : List (PartyEvent fm3130)
protected_list =
    let m = to Memory in
    let c = to Companion in
    by c (line start) ∷ clocks_by c (bits_of 0xD0) (clocks_by c (bits_of 0x0E ++ bits_of 0x18) (by c (line stop)
    ∷ by m (line start) ∷ clocks_by m (bits_of 0xA0) (clocks_by m stored (by m (line stop) ∷ []))))

-- The events of `memory_list` and of `companion_list`, each in their order, and no merge.
abbrev pub broken_list : List (PartyEvent fm3130)
broken_list =
    let m = to Memory in
    let c = to Companion in
    by m (line start) ∷ clocks_by m (bits_of 0xA0) (clocks_by m (bits_of 0x00 ++ bits_of 0x05) (by c (tick tt)
    ∷ by c (line start) ∷ clocks_by c (bits_of 0xD0) (clocks_by c (bits_of register) (by c (tick tt)
    ∷ clocks_by c (bits_of value) (by c (line stop) ∷ clocks_by m (bits_of 0x5A) (by m (line stop) ∷ []))))))
