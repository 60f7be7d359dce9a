-- SPDX-License-Identifier: Apache-2.0
-- The comparison of std is the definition's.
use mathlib.Core.Path.{◌∙◌}
use Rattle.bus_image.proofs.Lists.{pointwise_same}
use Rattle.bus_image.proofs.bytes.same.Goals as goal

pub returns : goal.returns
returns c = c.eq.ensures ∙ pointwise_same c.args.a.now c.args.b.now
