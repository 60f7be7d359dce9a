-- SPDX-License-Identifier: Apache-2.0
-- The companion and the bus by their places.
use Rattle.fm3130_image.specs.Image.{candidate}
use Rattle.fm3130_image.proofs.read.state_at.Goals as goal

pub returns : goal.returns
unfolding candidate
returns c = simp (c.companion_at.ensures, c.bus_at-power.ensures)
