-- SPDX-License-Identifier: Apache-2.0
-- `calendar_days::ahead` meets its contract: the calendar at the second n later.
use mathlib.Core.Path.{◌≡◌, ap}
use Rattle.calendar.specs.Instant.{day_number, time_of}
use Rattle.calendar_days.specs.declared.places.Moment.{Moment}
use Rattle.calendar_days.proofs.Later.{after_reached}
use Rattle.calendar_days.proofs.ahead.Goals as goal

pub returns : goal.returns
returns c =
    let a = c.args in
    let day : a.from.day ≡ day_number a.calendar = ap (λ (m : Moment). m.day) c.requires.1 in
    let second : a.from.second ≡ time_of a.calendar = ap (λ (m : Moment). m.second) c.requires.1 in
    rw (day, second)
    (after_reached a.calendar c.requires.0 a.n c.at.result (rw (day, second, c.number.ensures.0) at c.at.ensures))
