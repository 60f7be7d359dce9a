-- SPDX-License-Identifier: Apache-2.0
-- Event bytes and answer bytes, in the words of 01's section of that name.
--   EventBytes                 what each event byte says
--   function_by, function_seen       the pin's function, by the three bits that choose it; by the supplies too
--   AnswerBits, EveryAnswer    an answer byte, bit by bit
--   LineBits                   the line of a Clock, and of any other event
use Rattle.std.specs.Prelude.{ℕ, ◌/◌, ◌%◌, ◌<◌, ◌≡◌, Bool, true, false, cond, ◌&&◌, List, [], ◌∷◌, map, eqb}
use Rattle.bits.specs.Weight.{has}
use Rattle.wire.specs.Machine.{start, stop, clock}
use Rattle.fm3130_registers.specs.Map.{AF, AEN, CAL, ALSW}
use Rattle.fm3130.specs.Power.{is_supplied}
use Rattle.fm3130.specs.Event.{on_wire, second, lost, gone, returned, happening, event_of}
use Rattle.fm3130.specs.Answer.{answer_byte}
use Rattle.fm3130.specs.declared.State.{State}

-- "0 Start; 1 Stop; 2 Clock with the master's data line low; 3 Clock with it high; 4 one-second tick; 5 main power
-- lost, backup present; 6 main power lost, no backup; 7 main power returned."
abbrev pub EventBytes : Type 0
EventBytes =
    map happening (0 ∷ 1 ∷ 2 ∷ 3 ∷ 4 ∷ 5 ∷ 6 ∷ 7 ∷ [])
    ≡ on_wire start ∷ on_wire stop ∷ on_wire (clock false) ∷ on_wire (clock true) ∷ second ∷ lost ∷ gone ∷ returned ∷ []

-- By CAL, AL/SW and AEN: "CAL = 1 gives calibration; CAL = 0 and AL/SW = 0 square wave; CAL = 0, AEN = 1, AL/SW = 1
-- alarm; CAL = 0, AEN = 0, AL/SW = 1 released (ruling)", with "0 released, 1 alarm, 2 square wave, 3 calibration".
abbrev pub function_by : Bool → Bool → Bool → ℕ
function_by true alsw aen = 3
function_by false false aen = 2
function_by false true true = 1
function_by false true false = 0

-- "Released whenever power is lost with no backup."
abbrev pub function_seen : State → ℕ
function_seen s =
    let r = s.companion.registers in
    cond (is_supplied s.power) (function_by (has r.control CAL) (has r.setup ALSW) (has r.control AEN)) 0

-- The answer byte of an event that leaves this state and this line.
pub record AnswerBits (s : State) (line : Bool) : Type 0 where
  -- "Bit 0 is the line"
  pub bit0 : answer_byte s line % 2 ≡ cond line 1 0
  -- "Bits 2 and 1 are the ACS pin's function after the event"
  pub bits21 : answer_byte s line / 2 % 4 ≡ function_seen s
  -- "Bit 3 is 1 exactly when the function is alarm and AF is 1"
  pub bit3 : answer_byte s line / 8 % 2 ≡ cond (eqb (function_seen s) 1 && has s.companion.registers.control AF) 1 0
  -- "Bits 4 to 7 are 0"
  pub bits74 : answer_byte s line < 16

abbrev pub EveryAnswer : Type 0
EveryAnswer = (s : State) (line : Bool) → AnswerBits s line

-- "For a Clock, low if the master or the device pulls it low; for other events 1." (What the device does is seen at
-- event 3.)
pub record LineBits : Type 0 where
  pub low : (s : State) (m : List ℕ) → (event_of s m 2).line ≡ false
  pub other : (s : State) (m : List ℕ) (e : ℕ) → (e ≡ 2 → ⊥) → (e ≡ 3 → ⊥) → (event_of s m e).line ≡ true
