-- SPDX-License-Identifier: Apache-2.0
-- The byte was taken, or refused: what the law of the eighth clock says of the bytes 26 to 29.
use native.Mathlib.Omega.{arith}
use lib.ListN.{length-set}
use Rattle.place_clock.proofs.Incomings.{accepted_long, accepted_lies, taken_left, refused_left}
use Rattle.place_clock.proofs.receive.eighth.Goals as goal

pub bounds-image-28 : goal.bounds-image-28
bounds-image-28 c = let l = accepted_long c.requires.accepted in omega arith

pub bounds-image-27 : goal.bounds-image-27
bounds-image-27 c =
    let l = accepted_long c.requires.accepted in
    omega arith

pub bounds-image-28-then-takes : goal.bounds-image-28-then-takes
bounds-image-28-then-takes c =
    let l = accepted_long c.requires.accepted in
    simp length-set (omega arith)

pub returns-then-takes : goal.returns-then-takes
returns-then-takes c =
    let e = accepted_lies c.requires.accepted in
    taken_left _ _ _ _ e _ c.requires.number_value.0 c.requires.number_value.1 c.requires.number_value.2 _ _ _ _ c.push-byte.ensures c.requires.number_value.3
    (c.takes.ensures _ e) c.if-takes.true

pub begin-requires : goal.begin-requires
begin-requires c =
    let l = accepted_long c.requires.accepted in
    omega arith

pub returns : goal.returns
returns c =
    let e = accepted_lies c.requires.accepted in
    refused_left _ _ _ _ e _ c.requires.number_value.0 c.requires.number_value.1 c.requires.number_value.2 _ _ _ _ c.push-byte.ensures c.requires.number_value.3
    (c.takes.ensures _ e) _ c.begin.ensures c.if-takes.false
