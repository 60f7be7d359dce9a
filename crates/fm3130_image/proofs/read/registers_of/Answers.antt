-- SPDX-License-Identifier: Apache-2.0
-- Fifteen reads, seven of them as a calendar.
use Rattle.fm3130_image.specs.Image.{calendar_at}
use Rattle.fm3130_image.proofs.read.registers_of.Goals as goal

pub returns : goal.returns
unfolding calendar_at
returns c = simp c.calendar_at.ensures
