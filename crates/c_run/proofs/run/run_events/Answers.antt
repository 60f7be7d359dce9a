-- SPDX-License-Identifier: Apache-2.0
-- The loop's invariant: the image is accepted, and the events so far lead from the first place to this one. The measure is
-- what is left.
use mathlib.Core.Path.{sym, ◌∙◌}
use native.Mathlib.Omega.{arith}
use Rattle.fm3130_image.proofs.Accepts.{image_long}
use Rattle.place_rows.proofs.Ledger.{begun, led_on, led_through}
use Rattle.c_run.proofs.run.run_events.Goals as goal

pub loop-i-init : goal.loop-i-init
loop-i-init c =
    let s = c in
    (s.requires.accepted.image, begun _ _ _ _ _ s.requires.accepted.image s.requires.accepted.memory (omega arith))

pub stride-i-requires : goal.stride-i-requires
stride-i-requires c =
    let l = c.loop-i in
    let s = c in
    let d = l.invariant.1 in record { accepted = record { image = l.invariant.0; memory = d.memory }; events_value = (s.requires.events_value.0, c.loop-i-test.true, omega (arith, s.requires.events_value.1, d.room)) }

pub loop-i-smaller : goal.loop-i-smaller
loop-i-smaller c =
    let w = c.stride-i.ensures in
    omega (arith, w.further, w.led.inside)

pub loop-i-preserved : goal.loop-i-preserved
loop-i-preserved c =
    let w = c.stride-i.ensures in
    let l = c.loop-i in
    (w.image, led_on _ _ _ _ _ _ _ _ _ _ _ _ _ l.invariant.1 w.led)

pub shape_of-image : goal.shape_of-image
shape_of-image c =
    let s = c in
    image_long _ c.loop-i.invariant.0 ∙ sym (image_long _ s.requires.accepted.image)

pub returns : goal.returns
returns c =
    let l = c.loop-i in
    led_through _ _ _ _ _ _ _ _ c.loop-i-test.false l.invariant.0 l.invariant.1
