-- SPDX-License-Identifier: Apache-2.0
-- The protection and the address as they lie in the image; the address steps on either way.
use native.Mathlib.Omega.{arith}
use Rattle.place_clock.proofs.Incomings.{accepted_long, accepted_places, refused_whole, stored_whole}
use Rattle.place_clock.proofs.receive.put.Goals as goal

pub bounds-image-14 : goal.bounds-image-14
bounds-image-14 c = let l = accepted_long c.requires in omega arith

pub bounds-image-23 : goal.bounds-image-23
bounds-image-23 c = let l = accepted_long c.requires in omega arith

pub bounds-image-24 : goal.bounds-image-24
bounds-image-24 c = let l = accepted_long c.requires in omega arith

pub overflow_add-next : goal.overflow_add-next
overflow_add-next c =
    let a = (accepted_places c.requires).1 in
    let e = c.pair-address.ensures in
    omega arith

pub move_to-requires : goal.move_to-requires
move_to-requires c = accepted_long c.requires

pub returns-then-is_protected : goal.returns-then-is_protected
returns-then-is_protected c s e =
    refused_whole s _ _ _ e _ _ _ c.pair-address.ensures c.is_protected.ensures c.move_to.ensures
    c.if-is_protected.true

pub bounds-memory-at : goal.bounds-memory-at
bounds-memory-at c =
    let a = (accepted_places c.requires).1 in
    let l = c.requires.memory in
    let e = c.pair-address.ensures in
    omega arith

pub returns : goal.returns
returns c s e =
    stored_whole s _ _ _ e _ _ _ c.pair-address.ensures c.is_protected.ensures c.move_to.ensures
    c.if-is_protected.false
