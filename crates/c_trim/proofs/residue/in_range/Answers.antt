-- SPDX-License-Identifier: Apache-2.0
-- `c_trim::residue::in_range` meets its contract: the bits of the error read back as the error, and the range holds what
-- is neither below its begin nor above its end.
use mathlib.Core.Path.{◌∙◌}
use mathlib.Core.Bool.{◌&&◌}
use lib.IntN.{pos, negsuc}
use Rattle.c_trim.specs.Residue.{in_range}
use Rattle.c_trim.proofs.Signed.{read_back, compared}
use Rattle.c_trim.proofs.residue.in_range.Goals as goal

pub returns : goal.returns
unfolding in_range
returns c =
    let e = c.args.error in
    rw (c.new.ensures.start, c.new.ensures.end, c.new.ensures.exhausted, read_back c.ranges.error) at c.contains.ensures.value
    ∙ (λ i. compared (negsuc 19999) e i && compared e (pos 20000) i)
