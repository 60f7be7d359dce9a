-- SPDX-License-Identifier: Apache-2.0
-- By the event's number.
use mathlib.Core.Path.{◌≡◌, refl, sym}
use Rattle.wire.specs.Machine as Machine
use Rattle.fm3130.specs.Event.{on_wire, second, lost, gone, returned, happening}
use Rattle.fm3130.proofs.Cases.{happening_returned}
use Rattle.fm3130_image.proofs.Accepts.{image_written, image_long}
use Rattle.place_event.proofs.Quiets.{quiet_left}
use Rattle.place_event.proofs.event.quiet.Goals as goal

pub start-requires : goal.start-requires
start-requires c = image_long _ c.requires.image_value

pub stop-requires : goal.stop-requires
stop-requires c = image_long _ c.requires.image_value

pub second-requires : goal.second-requires
second-requires c = image_long _ c.requires.image_value

pub lose-requires : goal.lose-requires
lose-requires c = image_long _ c.requires.image_value

pub restore-requires : goal.restore-requires
restore-requires c = image_long _ c.requires.image_value

pub returns-in-0 : goal.returns-in-0
unfolding happening
returns-in-0 c m =
    let h = c.requires.image_value in
    let e = c.args.event in
    let x : happening e ≡ on_wire Machine.start = rw c.in-0.is refl in
    quiet_left _ m e (on_wire Machine.start) _ x tt
    (c.start.ensures _ (sym (image_written _ h)))

pub returns-in-1 : goal.returns-in-1
unfolding happening
returns-in-1 c m =
    let h = c.requires.image_value in
    let e = c.args.event in
    let x : happening e ≡ on_wire Machine.stop = rw c.in-1.is refl in
    quiet_left _ m e (on_wire Machine.stop) _ x tt
    (c.stop.ensures _ (sym (image_written _ h)))

pub returns-in-4 : goal.returns-in-4
unfolding happening
returns-in-4 c m =
    let h = c.requires.image_value in
    let e = c.args.event in
    let x : happening e ≡ second = rw c.in-4.is refl in
    quiet_left _ m e second _ x tt
    (c.second.ensures.1 _ (sym (image_written _ h)))

pub returns-in-5 : goal.returns-in-5
unfolding happening
returns-in-5 c m =
    let h = c.requires.image_value in
    let e = c.args.event in
    let x : happening e ≡ lost = rw c.in-5.is refl in
    quiet_left _ m e lost _ x tt
    (c.lose.ensures _ (sym (image_written _ h)))

pub returns-in-6 : goal.returns-in-6
unfolding happening
returns-in-6 c m =
    let h = c.requires.image_value in
    let e = c.args.event in
    let x : happening e ≡ gone = rw c.in-6.is refl in
    quiet_left _ m e gone _ x tt
    (c.lose_all.ensures _ (sym (image_written _ h)))

pub returns-in_default : goal.returns-in_default
returns-in_default c m =
    let p = c.requires in
    let n = c.in_default.in_default-own.rest in
    quiet_left _ m _ returned _ (happening_returned _ p.event_bound.0 p.event_bound.1 n.0.0.0.0.1 n.0.0.0.1
    n.0.0.1 n.0.1 n.1) tt
    (c.restore.ensures _ (sym (image_written _ p.image_value)))
