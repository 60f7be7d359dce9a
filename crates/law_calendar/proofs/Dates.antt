-- SPDX-License-Identifier: Apache-2.0
-- The date of each month put right: each case is a computation.
use mathlib.Core.Path.{refl}
use Rattle.calendar.specs.Field.{in_field}
use Rattle.calendar.specs.Month.{month_length}
use Rattle.calendar.specs.Mend.{ranged_of, mended_of}
use Rattle.law_calendar.specs.Dates.{DatesMended}

pub dates_mended : DatesMended
unfolding mended_of ranged_of in_field month_length
dates_mended seconds minutes hours day = refl
