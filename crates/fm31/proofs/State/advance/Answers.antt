-- SPDX-License-Identifier: Apache-2.0
-- `fm31::State::advance` meets its contract. The law `split` of `bus` puts the two halves together.
use Rattle.fm31.proofs.Advance.{advanced}
use Rattle.fm31.proofs.State.advance.Goals as goal

pub returns : goal.returns
returns c =
    let h = c in
    let v = h in
    let g = v in
    let a = g.args in
    advanced a.size a.select a.self _ _ a.event _ _ _ _ _ g.guard-guard.ensures v.deed_of.ensures
    v.serve-served.ensures h.happen-went.ensures c.answer_byte.ensures
