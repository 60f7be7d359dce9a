-- SPDX-License-Identifier: Apache-2.0
-- `c_trim::checker::is_nearest` meets its contract: the neighbours are settings, so what they leave can be asked for, and
-- a setting is nearest exactly if neither of them leaves less.
use mathlib.Core.Path.{refl, sym, subst}
use borrow.Author.Rules.{rules}
use Rattle.c_trim.specs.Residue.{Coded}
use Rattle.c_trim.proofs.Left.{left_read}
use Rattle.c_trim.proofs.Nearest.{further_coded, back_coded, neighbours_tested}
use Rattle.c_trim.proofs.checker.is_nearest.Goals as goal

pub distance_left-further_on-requires : goal.distance_left-further_on-requires
distance_left-further_on-requires c =
    let s = c in
    (search rules, subst Coded (sym c.further.ensures) (further_coded s.args.setting s.requires.1))

pub distance_left-one_back-requires : goal.distance_left-one_back-requires
distance_left-one_back-requires c =
    let s = c in
    (search rules, subst Coded (sym c.back.ensures) (back_coded s.args.setting s.requires.1))

pub returns : goal.returns
returns c =
    let s = c in
    let f = s.ranges.error in
    neighbours_tested s.args.error s.args.setting _ _ _ s.requires.1
    (left_read f refl c.distance_left-own.ensures)
    (left_read f c.further.ensures c.distance_left-further_on.ensures)
    (left_read f c.back.ensures c.distance_left-one_back.ensures)
