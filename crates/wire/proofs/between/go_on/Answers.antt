-- SPDX-License-Identifier: Apache-2.0
-- A high ninth bit ends the transfer, as a byte that is not acknowledged does.
use mathlib.Core.Path.{◌≡◌, refl}
use mathlib.Core.Bool.{Bool, true, false, not}
use Rattle.wire.specs.Clock.{kept, more}
use Rattle.wire.specs.declared.Phase.{Phase}
use Rattle.wire.proofs.between.go_on.Goals as goal

kept_more : (d : Bool) (p : Phase) → kept (not d) p ≡ more d p
unfolding kept more
kept_more true p = refl
kept_more false p = refl

pub returns : goal.returns
returns c = rw c.keep.ensures (kept_more c.args.high c.args.phase)
