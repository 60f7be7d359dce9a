-- SPDX-License-Identifier: Apache-2.0
-- The first that is not sound, or none.
use mathlib.Core.Path.{sym, ◌∙◌}
use native.Mathlib.Omega.{arith}
use Rattle.capture_table.proofs.Sound.{first_fault, no_fault}
use Rattle.capture_table.proofs.faults.first_faulty.Goals as goal

pub returns-then-not-sound : goal.returns-then-not-sound
returns-then-not-sound c =
    sym (first_fault c.args.file.now c.loop-n.n (omega arith) c.loop-n.invariant
    (sym (rw c.from.ensures at c.sound.ensures) ∙ c.if-not-sound.true))

pub returns : goal.returns
returns c = sym (no_fault c.args.file.now (λ j l. c.loop-n.invariant j (omega arith)))
