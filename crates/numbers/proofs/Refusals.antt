-- SPDX-License-Identifier: Apache-2.0
-- No refusal has the number of what is accepted.
use Rattle.std.specs.Prelude.{◌≡◌}
use Rattle.std.proofs.Common.{arith}
use Rattle.numbers.specs.Numbers.{accepted}
use Rattle.numbers.specs.Refusal.{number_of}
use Rattle.numbers.specs.declared.Refusal.{Refusal}
use Rattle.numbers.specs.declared.Refusal.TheVariants.{
  WrongMemory,
  WrongState,
  UnknownEvent,
  ShortAnswers,
  UnknownSelector,
  PastTheEnd,
  NotHeld,
  TooManyTicks,
  WrongCount,
  EqualSelects,
  InTransfer,
}

pub refusal_not_accepted : (r : Refusal) → number_of r ≡ accepted → ⊥
refusal_not_accepted WrongMemory e = omega arith
refusal_not_accepted WrongState e = omega arith
refusal_not_accepted UnknownEvent e = omega arith
refusal_not_accepted ShortAnswers e = omega arith
refusal_not_accepted UnknownSelector e = omega arith
refusal_not_accepted PastTheEnd e = omega arith
refusal_not_accepted NotHeld e = omega arith
refusal_not_accepted TooManyTicks e = omega arith
refusal_not_accepted WrongCount e = omega arith
refusal_not_accepted EqualSelects e = omega arith
refusal_not_accepted InTransfer e = omega arith
