-- SPDX-License-Identifier: Apache-2.0
-- Each number at the case that the match found; the bit that comes last does not matter to the companion.
use mathlib.Core.Path.{◌∙◌}
use borrow.Author.Tests.{ne_eqb}
use Rattle.c_line.specs.Code.Line.{is_taken}
use Rattle.c_line.proofs.Lines.{last_bit}
use Rattle.c_line.proofs.ByNumber.{answered_low, answered_high}
use Rattle.c_line.proofs.taken_pulls.Goals as goal

pub returns-in-1 : goal.returns-in-1
unfolding is_taken
returns-in-1 c =
    let t = c in
    rw (c.in-1.is, answered_low _ t.requires.1, answered_high _ t.requires.1) c.both.ensures

pub returns-in-4 : goal.returns-in-4
unfolding is_taken
returns-in-4 c = rw c.in-4.is c.pointer_pulls.ensures

pub returns-in-5 : goal.returns-in-5
unfolding is_taken
returns-in-5 c =
    rw c.in-5.is
    (c.both-in-5.ensures ∙ rw (c.is_protected.ensures, c.pair.ensures))

pub returns-in-6 : goal.returns-in-6
unfolding is_taken
returns-in-6 c =
    rw (c.in-6.is, last_bit _ _)
    (c.both-in-6.ensures ∙ rw (c.loads_bad_date.ensures, c.push.ensures))

pub returns-in_default : goal.returns-in_default
unfolding is_taken
returns-in_default c =
    rw (
      ne_eqb _ _ c.in_default.in_default-own.rest.1,
      ne_eqb _ _ c.in_default.in_default-own.rest.0.1,
      ne_eqb _ _ c.in_default.in_default-own.rest.0.0.1,
      ne_eqb _ _ c.in_default.in_default-own.rest.0.0.0.1,
    )
