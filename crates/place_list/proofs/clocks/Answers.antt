-- SPDX-License-Identifier: Apache-2.0
-- The phase's number and the clocks done choose the way.
use native.Mathlib.Omega.{arith}
use Rattle.fm3130_image.proofs.Accepts.{image_long}
use Rattle.place_list.proofs.Striding.{row_done, row_sent}
use Rattle.place_list.proofs.clocks.Goals as goal

pub bounds-image-26 : goal.bounds-image-26
bounds-image-26 c = omega (arith, image_long _ c.requires.accepted.image)

pub idle_row-requires : goal.idle_row-requires
idle_row-requires c =
    record { image_value = (c.requires.accepted.image, c.if-number-eq-IDLE.true); from_in_bounds = (omega (arith, c.requires.from_in_bounds.0), c.requires.from_in_bounds.1) }

pub returns-then-number-eq-IDLE : goal.returns-then-number-eq-IDLE
returns-then-number-eq-IDLE c =
    let e = c.idle_row.ensures in
    row_done _ _ _ _ _ c.requires.accepted c.requires.from_in_bounds.0 _ _ _ e.0 (e.1 c.requires.from_in_bounds.0 c.requires.from_in_bounds.2)

pub bounds-image-27 : goal.bounds-image-27
bounds-image-27 c =
    omega (arith, image_long _ c.requires.accepted.image)

pub one_clock-requires : goal.one_clock-requires
one_clock-requires c =
    record { accepted = c.requires.accepted; bound = omega (arith, c.if-number-eq-IDLE.false); from_in_bounds = c.requires.from_in_bounds }

pub returns-then-done-gt6 : goal.returns-then-done-gt6
returns-then-done-gt6 c = c.one_clock.ensures

pub receive_row-requires : goal.receive_row-requires
receive_row-requires c =
    record { image_value = c.requires.accepted.image; bound = (omega (arith, c.if-number-eq-IDLE.false), c.if-number-lt-READ_MEMORY.true, omega (arith, c.if-done-gt6.false)); from_in_bounds = (omega (arith, c.requires.from_in_bounds.0), c.requires.from_in_bounds.1) }

pub returns-then-number-lt-READ_MEMORY : goal.returns-then-number-lt-READ_MEMORY
returns-then-number-lt-READ_MEMORY c =
    let e = c.receive_row.ensures in
    row_done _ _ _ _ _ c.requires.accepted c.requires.from_in_bounds.0 _ _ _ e.0 (e.1 c.requires.from_in_bounds.0 c.requires.from_in_bounds.2)

pub first_sent-next-requires : goal.first_sent-next-requires
first_sent-next-requires c =
    record { accepted = c.requires.accepted; bound = (omega (arith, c.if-number-lt-READ_MEMORY.false), omega (arith, c.if-done-gt6.false)); from_in_bounds = c.requires.from_in_bounds }

pub send_row-requires : goal.send_row-requires
send_row-requires c =
    let b = c.first_sent-next.ensures in record { image_value = b.along.image; bound = (b.sends, b.some, b.few); from_in_bounds = (b.along.led.inside, omega (arith, b.along.led.room, c.requires.from_in_bounds.1)) }

pub returns : goal.returns
returns c =
    row_sent _ _ _ _ _ c.requires.accepted c.requires.from_in_bounds.0 _ _ _ _ _ _ c.requires.from_in_bounds.2 c.first_sent-next.ensures c.send_row.ensures
