-- SPDX-License-Identifier: Apache-2.0
-- Seven reads, each inside the image.
use mathlib.Core.Path.{refl}
use Rattle.fm3130_image.specs.Image.{calendar_at}
use Rattle.fm3130_image.proofs.read.calendar_at.Goals as goal

pub returns : goal.returns
unfolding calendar_at
returns c = refl
