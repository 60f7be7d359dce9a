-- SPDX-License-Identifier: Apache-2.0
-- The refusals by their numbers (`Numbers`): what a host program is told of a call that was accepted or refused.
use Rattle.std.specs.Prelude.{ℕ, Result, Ok, Err}
use Rattle.numbers.specs.Numbers.{
  accepted,
  wrong_memory,
  wrong_state,
  unknown_event,
  short_answers,
  unknown_selector,
  past_the_end,
  not_held,
  too_many_ticks,
  wrong_count,
  equal_selects,
  in_transfer,
}
use Rattle.numbers.specs.declared.Refusal.{Refusal}
use Rattle.numbers.specs.declared.Refusal.TheVariants.{
  WrongMemory,
  WrongState,
  UnknownEvent,
  ShortAnswers,
  UnknownSelector,
  PastTheEnd,
  NotHeld,
  TooManyTicks,
  WrongCount,
  EqualSelects,
  InTransfer,
}

abbrev pub number_of : Refusal → ℕ
number_of WrongMemory = wrong_memory
number_of WrongState = wrong_state
number_of UnknownEvent = unknown_event
number_of ShortAnswers = short_answers
number_of UnknownSelector = unknown_selector
number_of PastTheEnd = past_the_end
number_of NotHeld = not_held
number_of TooManyTicks = too_many_ticks
number_of WrongCount = wrong_count
number_of EqualSelects = equal_selects
number_of InTransfer = in_transfer

-- 0, or the number of the refusal.
abbrev pub number_told : Result (Unit {0}) Refusal → ℕ
number_told (Ok _) = accepted
number_told (Err r) = number_of r
