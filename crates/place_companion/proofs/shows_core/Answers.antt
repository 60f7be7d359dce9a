-- SPDX-License-Identifier: Apache-2.0
-- By R, and else by W.
use mathlib.Core.Path.{sym, ◌∙◌}
use Rattle.place_companion.proofs.shows_core.Goals as goal

pub returns-then-has : goal.returns-then-has
returns-then-has c = rw (sym c.has.ensures ∙ c.if-has.true, c.has-then-has.ensures)

pub returns : goal.returns
returns c = rw (sym c.has.ensures ∙ c.if-has.false, c.has-2.ensures)
