-- SPDX-License-Identifier: Apache-2.0
-- The part that was found, or an empty one.
use mathlib.Core.Path.{refl}
use Rattle.c_view.proofs.Views.{viewed}
use Rattle.c_view.proofs.chosen.Viewed.view.Goals as goal

pub returns : goal.returns
returns c = viewed _ _ _ _ _ _ _ _ c.part.ensures _ _ refl refl c.unwrap_or.ensures
