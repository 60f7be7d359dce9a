-- SPDX-License-Identifier: Apache-2.0
-- Each place of a byte by its law.
use mathlib.Core.Path.{sym}
use native.Mathlib.Omega.{arith}
use lib.ListN.{length-set}
use Rattle.fm3130_image.specs.Image.{candidate}
use Rattle.fm3130_image.proofs.Accepts.{image_long, image_written}
use Rattle.fm3130_image.proofs.Lies.{image_places}
use Rattle.place_clock.proofs.Outgoings.{clocks_below, at_first, at_within, at_last_lem, at_ack}
use Rattle.place_clock.proofs.send.send.Goals as goal

pub bounds-image-27 : goal.bounds-image-27
bounds-image-27 c = let l = image_long _ c.requires.accepted.image in omega arith

pub fetched-first-requires : goal.fetched-first-requires
fetched-first-requires c =
    record { image_len = (image_long _ c.requires.accepted.image, c.requires.accepted.memory); image_bound = image_places _ c.args.memory.now c.requires.accepted.memory c.requires.accepted.image }

pub bounds-image-27-then-clocks-eq0 : goal.bounds-image-27-then-clocks-eq0
bounds-image-27-then-clocks-eq0 c =
    let l = image_long _ c.requires.accepted.image in
    omega arith

pub bounds-image-28 : goal.bounds-image-28
bounds-image-28 c =
    let l = image_long _ c.requires.accepted.image in
    simp length-set (omega arith)

pub shape_of-image-then-clocks-eq0 : goal.shape_of-image-then-clocks-eq0
shape_of-image-then-clocks-eq0 c = simp length-set

pub returns-then-clocks-eq0 : goal.returns-then-clocks-eq0
returns-then-clocks-eq0 c =
    let e = c.fetched-first.ensures (candidate c.args.image.now) (sym (image_written _ c.requires.accepted.image)) in
    rw (c.sending_line.ensures, e)
    (at_first c.requires.accepted c.requires.number_value c.args.high c.if-clocks-eq0.true)

pub close-requires : goal.close-requires
close-requires c = image_long _ c.requires.accepted.image

pub returns-then-clocks-eq8 : goal.returns-then-clocks-eq8
returns-then-clocks-eq8 c =
    rw c.close.ensures
    (at_ack c.requires.accepted c.requires.number_value c.args.high c.if-clocks-eq8.true)

pub bounds-image-28-2 : goal.bounds-image-28-2
bounds-image-28-2 c =
    let l = image_long _ c.requires.accepted.image in
    omega arith

pub finish-requires : goal.finish-requires
finish-requires c =
    record { image_len = image_long _ c.requires.accepted.image; image_bound = image_places _ c.args.memory.now c.requires.accepted.memory c.requires.accepted.image }

pub bounds-image-27-then-clocks-eq7 : goal.bounds-image-27-then-clocks-eq7
bounds-image-27-then-clocks-eq7 c =
    let l = image_long _ c.requires.accepted.image in
    omega arith

pub shape_of-image-then-clocks-eq7 : goal.shape_of-image-then-clocks-eq7
shape_of-image-then-clocks-eq7 c = simp length-set (omega arith)

pub returns-then-clocks-eq7 : goal.returns-then-clocks-eq7
returns-then-clocks-eq7 c =
    let e = c.finish.ensures (candidate c.args.image.now) (sym (image_written _ c.requires.accepted.image)) in
    rw c.sending_line-then-clocks-eq7.ensures
    (at_last_lem c.requires.accepted c.requires.number_value c.args.high _ c.if-clocks-eq7.true e)

pub overflow_add-image : goal.overflow_add-image
overflow_add-image c =
    let l = clocks_below c.requires.accepted c.requires.number_value in
    omega arith

pub bounds-image-27-2 : goal.bounds-image-27-2
bounds-image-27-2 c =
    let l = image_long _ c.requires.accepted.image in
    omega arith

pub sending_line-requires-2 : goal.sending_line-requires-2
sending_line-requires-2 c =
    let l = clocks_below c.requires.accepted c.requires.number_value in
    omega arith

pub shape_of-image : goal.shape_of-image
shape_of-image c = simp length-set

pub returns : goal.returns
returns c =
    let l = clocks_below c.requires.accepted c.requires.number_value in
    rw c.sending_line-2.ensures
    (at_within c.requires.accepted c.requires.number_value c.args.high c.if-clocks-eq0.false (omega arith))
