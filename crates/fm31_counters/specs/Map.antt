-- SPDX-License-Identifier: Apache-2.0
-- The register map 09h to 18h, in the data sheet's spelling (document 003, Register Map; 02, number 5).
--   FIRST COUNTING TOP   the addresses that a rule names: 09h Watchdog Restart/Flags (the first of all), 0Ch Event
--   SERIAL LAST          Count Control, 10h Event Counter 2 MSB, 11h Serial Number 0, 18h Serial Number 7 (the last)
--   COUNT                how many registers there are
--   WTR POR LB           bits 7 to 5 of 09h
--   SNL WP0              bits 7 and 3 of 0Bh; WP1 is the bit above WP0
--   RC CC                bits 3 and 2 of 0Ch
use Rattle.std.specs.Prelude.{ℕ, ◌+◌, ◌-◌}

-- 02, number 5: "Its registers are 09h to 18h as those documents show".
abbrev pub FIRST : ℕ
FIRST = 9

abbrev pub COUNTING : ℕ
COUNTING = 12

abbrev pub TOP : ℕ
TOP = 16

abbrev pub SERIAL : ℕ
SERIAL = 17

abbrev pub LAST : ℕ
LAST = 24

-- "These 16 registers."
abbrev pub COUNT : ℕ
COUNT = LAST - FIRST + 1

-- 003: "09h WTR POR LB - WR3 WR2 WR1 WR0".
abbrev pub WTR : ℕ
WTR = 128

abbrev pub POR : ℕ
POR = 64

abbrev pub LB : ℕ
LB = 32

-- 003: "0Bh SNL - - WP1 WP0 VBC VTP1 VTP0".
abbrev pub SNL : ℕ
SNL = 128

abbrev pub WP0 : ℕ
WP0 = 8

-- 003: "0Ch - - - - RC CC C2P C1P".
abbrev pub RC : ℕ
RC = 8

abbrev pub CC : ℕ
CC = 4
