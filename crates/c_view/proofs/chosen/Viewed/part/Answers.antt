-- SPDX-License-Identifier: Apache-2.0
-- The refusal of the bytes, or what the test of the end makes of them.
use Rattle.std.proofs.lemmas.Result.{err_from_is_err_and}
use Rattle.c_view.proofs.Views.{found_in}
use Rattle.c_view.proofs.chosen.Viewed.part.Goals as goal

pub returns-in_err-bytes : goal.returns-in_err-bytes
returns-in_err-bytes c =
    let p = err_from_is_err_and c.from_residual.result c.from_residual.ensures.1 in
    let w = c.args.window in
    rw (p.1, p.2) (c.in_err-bytes.ensures w.start w.length)

pub returns : goal.returns
returns c = found_in _ _ _ _ _ _ _ c.in_ok-bytes.ensures _ c.within.ensures
