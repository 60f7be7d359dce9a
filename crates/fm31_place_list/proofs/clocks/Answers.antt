-- SPDX-License-Identifier: Apache-2.0
-- The phase's number and the clocks done choose the way.
use native.Mathlib.Omega.{arith}
use Rattle.fm31_image.proofs.Accepts.{image_long}
use Rattle.fm31_place_list.proofs.Striding.{idle_row, receive_row, send_row}
use Rattle.fm31_place_list.proofs.clocks.Goals as goal

pub bounds-image-26 : goal.bounds-image-26
bounds-image-26 c = omega (arith, image_long _ _ _ c.requires.accepted.0.image)

pub idle_row-requires : goal.idle_row-requires
idle_row-requires c =
    let s = c in record { pin_bound = omega arith; from_in_bounds = (omega (arith, s.requires.events_value.1), s.requires.events_value.2) }

pub returns-then-number-eq0 : goal.returns-then-number-eq0
returns-then-number-eq0 c =
    let s = c in
    let e = c.idle_row.ensures in
    idle_row _ s.requires.accepted.1 _ _ _ _ _ s.requires.accepted.0 s.requires.events_value.2 c.if-number-eq0.true _ _ e
    (e.row.some s.requires.events_value.1 s.requires.events_value.3)

pub bounds-image-27 : goal.bounds-image-27
bounds-image-27 c = omega (arith, image_long _ _ _ c.requires.accepted.0.image)

pub single-requires : goal.single-requires
single-requires c =
    let s = c in
    record { accepted = s.requires.accepted; events_value = (s.requires.events_value.0, s.requires.events_value.1, s.requires.events_value.2) }

pub returns-then-done-gt6 : goal.returns-then-done-gt6
returns-then-done-gt6 c = c.single.ensures

pub receive_row-requires : goal.receive_row-requires
receive_row-requires c =
    let at3 = c in
    let s = at3 in record { image_len = (image_long _ _ _ s.requires.accepted.0.image, omega (arith, at3.if-done-gt6.false), omega arith); from_in_bounds = (omega (arith, s.requires.events_value.1), s.requires.events_value.2) }

pub returns-then-number-lt7 : goal.returns-then-number-lt7
returns-then-number-lt7 c =
    let at4 = c in
    let s = at4 in
    let e = at4.receive_row.ensures in
    receive_row _ s.requires.accepted.1 _ _ _ _ _ s.requires.accepted.0 s.requires.events_value.2 (omega (arith, at4.if-number-eq0.false))
    at4.if-number-lt7.true _ _ _ e (e.row.some s.requires.events_value.1 s.requires.events_value.3)

pub single-requires-then-done-eq0 : goal.single-requires-then-done-eq0
single-requires-then-done-eq0 c =
    let s = c in
    record { accepted = s.requires.accepted; events_value = (s.requires.events_value.0, s.requires.events_value.1, s.requires.events_value.2) }

pub returns-then-done-eq0 : goal.returns-then-done-eq0
returns-then-done-eq0 c = c.single-then-done-eq0.ensures

pub send_row-requires : goal.send_row-requires
send_row-requires c =
    let at4 = c in
    let s = at4 in record { image_len = (image_long _ _ _ s.requires.accepted.0.image, omega (arith, at4.if-done-gt6.false), omega arith); from_in_bounds = (omega (arith, s.requires.events_value.1), s.requires.events_value.2) }

pub returns : goal.returns
returns c =
    let at4 = c in
    let s = at4 in
    let e = at4.send_row.ensures in
    send_row _ s.requires.accepted.1 _ _ _ _ _ s.requires.accepted.0 s.requires.events_value.2 (omega (arith, at4.if-number-eq0.false))
    (omega (arith, at4.if-number-lt7.false)) (omega (arith, at4.if-done-eq0.false)) _ _ _ e
    (e.row.some s.requires.events_value.1 s.requires.events_value.3)
