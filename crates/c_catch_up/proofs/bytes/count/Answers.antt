-- SPDX-License-Identifier: Apache-2.0
-- `c_catch_up::bytes::count` meets its contract: what is written over the image is what Written says, of an invalid core and of
-- a valid one.
use mathlib.Core.Path.{sym, ◌∙◌}
use Rattle.c_catch_up.proofs.Written.{counted_invalid, counted_valid}
use Rattle.c_catch_up.proofs.bytes.count.Goals as goal

pub returns-then-not-is_valid : goal.returns-then-not-is_valid
returns-then-not-is_valid c =
    counted_invalid c.args.n c.args.image.now _ _ c.calendar_at-core.ensures
    (sym c.is_valid.ensures ∙ c.if-not-is_valid.true) c.let_time_follow.ensures

pub returns : goal.returns
returns c =
    counted_valid c.args.n c.args.image.now _ _ c.calendar_at-core.ensures _ c.alarm_at.ensures _ c.advanced-last.ensures _
    c.write_left.ensures c.let_time_follow-2.ensures
