-- SPDX-License-Identifier: Apache-2.0
-- The register map: each bit by its weight, in the data sheet's spelling (01, Registers; document 000's register table for
-- 0Eh).
--   CONTROL TRIM YEARS LAST    the addresses that a rule names: 00h RTC/Alarm Control, 01h CAL/Control, 08h RTC Years
--                              (the last of the calendar's, 02h to 08h), 0Eh Alarm & WP Control (the last of all)
--   COUNT next_address          how many registers there are; the address after one
--   LB AF CF POR AEN CAL W R   the bits of 00h, high bit first
--   OSCEN                      bit 7 of 01h
--   MATCH                      bit 7 of 09h to 0Dh
--   ALSW WP0                   bits 7 and 3 of 0Eh; WP1 is the bit above WP0
use Rattle.std.specs.Prelude.{ℕ, ◌+◌, ◌%◌}

-- 01, The part we play: "15 registers 00h to 0Eh".
abbrev pub CONTROL : ℕ
CONTROL = 0

abbrev pub TRIM : ℕ
TRIM = 1

abbrev pub YEARS : ℕ
YEARS = 8

abbrev pub LAST : ℕ
LAST = 14

abbrev pub COUNT : ℕ
COUNT = LAST + 1

-- 01, Transfers (ruling): the address steps on, "the companion from 0Eh to 00h".
abbrev pub next_address : ℕ → ℕ
next_address a = (a + 1) % COUNT

-- 01, Registers: "00h, high bit first: LB AF CF POR AEN CAL W R".
abbrev pub LB : ℕ
LB = 128

abbrev pub AF : ℕ
AF = 64

abbrev pub CF : ℕ
CF = 32

abbrev pub POR : ℕ
POR = 16

abbrev pub AEN : ℕ
AEN = 8

abbrev pub CAL : ℕ
CAL = 4

abbrev pub W : ℕ
W = 2

abbrev pub R : ℕ
R = 1

-- 01, Registers: "01h: OSCEN, 0, CALS, five CAL bits".
abbrev pub OSCEN : ℕ
OSCEN = 128

-- 01, Registers: "bit 7 is Match".
abbrev pub MATCH : ℕ
MATCH = 128

-- 01, Transfers: "Bit places in 0Eh are those of document 000's register table". AL/SW is bit 7, WP1 WP0 are bits 4
-- and 3.
abbrev pub ALSW : ℕ
ALSW = 128

abbrev pub WP0 : ℕ
WP0 = 8
