-- SPDX-License-Identifier: Apache-2.0
-- Each phase's byte by its own law: a slave byte, the second address byte, and what serves a device.
use mathlib.Core.Path.{refl}
use native.Mathlib.Omega.{arith}
use borrow.Author.Tests.{ne_eqb}
use Rattle.place_clock.specs.Code.Incoming.{whole_by}
use Rattle.place_clock.proofs.Incomings.{accepted_long, accepted_places, slave_whole, low_whole}
use Rattle.place_clock.proofs.receive.takes.Goals as goal

pub bounds-image-29 : goal.bounds-image-29
bounds-image-29 c = let l = accepted_long c.requires in omega arith

pub move_to-requires : goal.move_to-requires
move_to-requires c = accepted_long c.requires

pub aim-requires : goal.aim-requires
aim-requires c = accepted_long c.requires

pub store-requires : goal.store-requires
store-requires c =
    let p = c.requires in (accepted_long p, (accepted_places p).0)

pub returns-in-1 : goal.returns-in-1
returns-in-1 c s e = rw c.in-1.is (slave_whole s _ _ _ e _ (rw c.opens.ensures refl))

pub returns-in-2 : goal.returns-in-2
unfolding whole_by
returns-in-2 c s e = rw c.in-2.is (record { acknowledged = refl; image = e; memory = refl })

pub returns-in-3 : goal.returns-in-3
returns-in-3 c s e =
    rw c.in-3.is
    (low_whole s _ _ _ e _ _ c.pair-address.ensures c.move_to.ensures)

pub returns-in-4 : goal.returns-in-4
unfolding whole_by
returns-in-4 c s e =
    let t = c.aim.ensures s e in
    rw c.in-4.is (record { acknowledged = t.acknowledged; image = t.image; memory = refl })

pub returns-in-5 : goal.returns-in-5
returns-in-5 c s e =
    rw c.in-5.is (c.put.ensures s e)

pub returns-in_default : goal.returns-in_default
unfolding whole_by
returns-in_default c s e =
    let t = c.store.ensures s e in
    let r = c.in_default.in_default-own.rest in
    rw (
      ne_eqb _ _ r.1,
      ne_eqb _ _ r.0.1,
      ne_eqb _ _ r.0.0.1,
      ne_eqb _ _ r.0.0.0.1,
      ne_eqb _ _ r.0.0.0.0.1,
    )
    (record { acknowledged = t.acknowledged; image = t.image; memory = refl })
