-- SPDX-License-Identifier: Apache-2.0
-- What 00h and 0Eh show outside: the ACS pin (01, Event bytes and answer bytes).
--   RELEASED ALARM SQUARE CALIBRATION   the pin's functions      number_of   the number of one
--   function_of                          the function that the registers choose
--   pin_by                               bits 3 to 1 of an answer, as a number
use Rattle.std.specs.Prelude.{ℕ, ◌+◌, cond, ◌&&◌, eqb}
use Rattle.bits.specs.Weight.{has, only}
use Rattle.fm3130_registers.specs.Map.{AF, AEN, CAL, ALSW}
use Rattle.fm3130_registers.specs.declared.pin.Function.{Function}
use Rattle.fm3130_registers.specs.declared.pin.Function.TheVariants.{Released, Alarm, Square, Calibration}

-- 01, Event bytes and answer bytes: "0 released, 1 alarm, 2 square wave, 3 calibration".
abbrev pub RELEASED : ℕ
RELEASED = 0

abbrev pub ALARM : ℕ
ALARM = 1

abbrev pub SQUARE : ℕ
SQUARE = 2

abbrev pub CALIBRATION : ℕ
CALIBRATION = 3

-- Auxiliary: the number of a function.
abbrev pub number_of : Function → ℕ
number_of Released = RELEASED
number_of Alarm = ALARM
number_of Square = SQUARE
number_of Calibration = CALIBRATION

-- 01, Event bytes and answer bytes: "CAL = 1 gives calibration; CAL = 0 and AL/SW = 0 square wave; CAL = 0, AEN = 1,
-- AL/SW = 1 alarm; CAL = 0, AEN = 0, AL/SW = 1 released (ruling)".
abbrev pub function_of : ℕ → ℕ → ℕ
function_of control setup =
    cond (has control CAL) CALIBRATION (cond (has setup ALSW) (cond (has control AEN) ALARM RELEASED) SQUARE)

-- 01, Event bytes and answer bytes: "Bits 2 and 1 are the ACS pin's function .. Bit 3 is 1 exactly when the function
-- is alarm and AF is 1".
abbrev pub pin_by : ℕ → ℕ → ℕ
pin_by control setup =
    function_of control setup + only (eqb (function_of control setup) ALARM && has control AF) 4
