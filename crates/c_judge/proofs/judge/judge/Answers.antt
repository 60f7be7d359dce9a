-- SPDX-License-Identifier: Apache-2.0
-- The tests in their order.
use mathlib.Core.Path.{sym, ap, ◌∙◌}
use Rattle.c_judge.specs.Verdict.{figures_of}
use Rattle.c_judge.proofs.Verdicts.{verdict_too_long, verdict_by}
use Rattle.c_judge.proofs.judge.judge.Goals as goal

pub returns-then-file-gt-LIMIT : goal.returns-then-file-gt-LIMIT
returns-then-file-gt-LIMIT c = ap figures_of (verdict_too_long c.args.file.now c.if-file-gt-LIMIT.true)

pub returns-in-Some : goal.returns-in-Some
returns-in-Some c =
    ap figures_of (verdict_by c.args.file.now c.if-file-gt-LIMIT.false _ (sym c.in-Some.is ∙ c.first_faulty.ensures))

pub returns-in-None : goal.returns-in-None
returns-in-None c =
    ap figures_of
    (c.judge_sound.ensures ∙ verdict_by c.args.file.now c.if-file-gt-LIMIT.false _ (sym c.in-None.is ∙ c.first_faulty.ensures))
