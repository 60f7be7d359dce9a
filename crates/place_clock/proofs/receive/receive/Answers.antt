-- SPDX-License-Identifier: Apache-2.0
-- Inside the byte, at its eighth clock, at its acknowledge: each by its law.
use native.Mathlib.Omega.{arith}
use lib.ListN.{length-set}
use Rattle.place_clock.proofs.Incomings.{accepted_long, accepted_lies, inside_left, acknowledged_left}
use Rattle.place_clock.proofs.receive.receive.Goals as goal

pub bounds-image-27 : goal.bounds-image-27
bounds-image-27 c = let l = accepted_long c.requires.accepted in omega arith

pub bounds-image-28 : goal.bounds-image-28
bounds-image-28 c = let l = accepted_long c.requires.accepted in omega arith

pub bounds-image-27-then-clocks-lt7 : goal.bounds-image-27-then-clocks-lt7
bounds-image-27-then-clocks-lt7 c = let l = accepted_long c.requires.accepted in omega arith

pub bounds-image-28-then-clocks-lt7 : goal.bounds-image-28-then-clocks-lt7
bounds-image-28-then-clocks-lt7 c =
    let l = accepted_long c.requires.accepted in
    simp length-set (omega arith)

pub returns-then-clocks-lt7 : goal.returns-then-clocks-lt7
returns-then-clocks-lt7 c =
    inside_left _ _ _ _ (accepted_lies c.requires.accepted) _ c.requires.number_value.0 c.requires.number_value.1 c.requires.number_value.2 _ c.push.ensures
    c.if-clocks-lt7.true

pub begin-requires : goal.begin-requires
begin-requires c = accepted_long c.requires.accepted

pub returns : goal.returns
returns c =
    acknowledged_left _ _ _ _ (accepted_lies c.requires.accepted) _ c.requires.number_value.0 c.requires.number_value.1 c.requires.number_value.2 _ _ _
    c.follows.ensures c.keeps.ensures c.begin.ensures c.if-clocks-lt7.false c.if-clocks-eq7.false
