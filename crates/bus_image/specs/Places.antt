-- SPDX-License-Identifier: Apache-2.0
-- Where the image of every part holds what all parts have, and the numbers of phases and supplies there (docs/IMAGE.md).
--   COMPANION_ADDRESS_AT ADDRESS-HIGH-AT ADDRESS-LOW-AT   the companion's address; the memory address, high byte first
--   SUPPLIES_AT PHASE-AT CLOCKS-AT BYTE-AT FIRST-AT       the supplies; the phase, the clocks done, the byte, the first
--                                                         address byte
--   IDLE SLAVE ADDRESS-HIGH ADDRESS-LOW POINTER           the phases: no transfer, slave byte, address bytes
--   WRITE_MEMORY WRITE-COMPANION                          data bytes that come in
--   READ_MEMORY READ-COMPANION                            data bytes that go out
use Rattle.std.specs.Prelude.{ℕ}

abbrev pub COMPANION_ADDRESS_AT : ℕ
COMPANION_ADDRESS_AT = 22

abbrev pub ADDRESS_HIGH_AT : ℕ
ADDRESS_HIGH_AT = 23

abbrev pub ADDRESS_LOW_AT : ℕ
ADDRESS_LOW_AT = 24

abbrev pub SUPPLIES_AT : ℕ
SUPPLIES_AT = 25

abbrev pub PHASE_AT : ℕ
PHASE_AT = 26

abbrev pub CLOCKS_AT : ℕ
CLOCKS_AT = 27

abbrev pub BYTE_AT : ℕ
BYTE_AT = 28

abbrev pub FIRST_AT : ℕ
FIRST_AT = 29

abbrev pub IDLE : ℕ
IDLE = 0

abbrev pub SLAVE : ℕ
SLAVE = 1

abbrev pub ADDRESS_HIGH : ℕ
ADDRESS_HIGH = 2

abbrev pub ADDRESS_LOW : ℕ
ADDRESS_LOW = 3

abbrev pub POINTER : ℕ
POINTER = 4

abbrev pub WRITE_MEMORY : ℕ
WRITE_MEMORY = 5

abbrev pub WRITE_COMPANION : ℕ
WRITE_COMPANION = 6

abbrev pub READ_MEMORY : ℕ
READ_MEMORY = 7

abbrev pub READ_COMPANION : ℕ
READ_COMPANION = 8
