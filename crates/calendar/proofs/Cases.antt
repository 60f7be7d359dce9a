-- SPDX-License-Identifier: Apache-2.0
-- K1 to K7 hold, as one statement over the list: each is computed.
use mathlib.Core.Path.{refl}
use Rattle.calendar.specs.Field.{in_field, step_of}
use Rattle.calendar.specs.Month.{month_length}
use Rattle.calendar.specs.Next.{is_valid, tick_of, next_of}
use Rattle.calendar.specs.Cases.{cases, AllHold}

pub cases_hold : AllHold cases
unfolding next_of tick_of is_valid in_field step_of month_length
cases_hold =
    ((refl, refl), ((refl, refl), ((refl, refl), ((refl, refl), ((refl, refl), ((refl, refl), ((refl, refl), tt)))))))
