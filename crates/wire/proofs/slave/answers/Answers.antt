-- SPDX-License-Identifier: Apache-2.0
-- A slave byte is acknowledged exactly where it names somebody.
use mathlib.Core.Path.{◌≡◌, refl}
use mathlib.Core.Bool.{true}
use Rattle.wire.specs.Slave.{answers}
use Rattle.wire.specs.declared.Named.{Named}
use Rattle.wire.specs.declared.Named.TheVariants.{Nobody, Reads, Writes}
use Rattle.wire.proofs.slave.answers.Goals as goal
use Rattle.wire.proofs.slave.answers.Goals.{in-Nobody, in_default}

somebody : (n : Named) → (n ≡ Nobody → ⊥) → answers n ≡ true
unfolding answers
somebody Nobody h = absurd (h refl)
somebody (Reads s) h = refl
somebody (Writes s) h = refl

pub returns : goal.returns
unfolding answers
returns c =
    elim c.match-matches.branch [
      | in-Nobody w ↦ rw (w.in-Nobody.is, w.matches-is)
      | in_default w ↦ rw (somebody _ w.in_default.not-Nobody, w.matches-is)
    ]
