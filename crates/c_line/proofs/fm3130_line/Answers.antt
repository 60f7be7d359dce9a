-- SPDX-License-Identifier: Apache-2.0
-- Refused by the number of the first test that fails; else what the two lines are.
use borrow.Author.Tests.{eq-eqb}
use Rattle.c_line.specs.Line.{line_of}
use Rattle.fm3130_image.proofs.Accepts.{image_read}
use Rattle.c_line.proofs.Admitted.{refused_at_once}
use Rattle.c_line.proofs.fm3130_line.Goals as goal

pub returns-in-Ok : goal.returns-in-Ok
unfolding line_of
returns-in-Ok c =
    let a = c.in-Ok.ensures.ok in rw (eq-eqb _ _ a.0, image_read _ a.1) c.pulls_of.ensures

pub returns-in-Err : goal.returns-in-Err
returns-in-Err c = rw c.from.ensures (refused_at_once _ _ _ c.in-Err.ensures.admitted)
