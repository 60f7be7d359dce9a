-- SPDX-License-Identifier: Apache-2.0
-- The refusals by their numbers (`Numbers`), and what a host program is told of a call that was accepted or refused.
use Rattle.std.specs.Prelude.{ℕ, Result, Ok, Err}
use Rattle.c_master.specs.Numbers.{accepted, too_many, read_of_none, wrong_address, little_room, wrong_answers}
use Rattle.c_master.specs.declared.refusals.Refusal.{Refusal}
use Rattle.c_master.specs.declared.refusals.Refusal.TheVariants.{TooMany, ReadOfNone, WrongAddress, LittleRoom, WrongAnswers}
use Rattle.c_master.specs.declared.Filled.{Filled}

abbrev pub number_of : Refusal → ℕ
number_of TooMany = too_many
number_of ReadOfNone = read_of_none
number_of WrongAddress = wrong_address
number_of LittleRoom = little_room
number_of WrongAnswers = wrong_answers

-- Under 0 how many bytes were written, or the refusal's number and none.
abbrev pub filled_told : Result ℕ Refusal → Filled
filled_told (Ok n) = record { number = accepted; count = n }
filled_told (Err r) = record { number = number_of r; count = 0 }
