-- SPDX-License-Identifier: Apache-2.0
-- The limits of a state, one by one.
use mathlib.Core.Path.{◌∙◌}
use Rattle.fm3130.specs.Limits.{well_formed}
use Rattle.fm3130.proofs.Entry.{lone_phase}
use Rattle.fm3130.proofs.State.is_well_formed.Goals as goal

pub returns : goal.returns
unfolding well_formed
returns c =
    let p = c in
    rw (
      c.power_within.ensures,
      p.phase_within.ensures ∙ lone_phase _,
      p.is_within.ensures,
    )
