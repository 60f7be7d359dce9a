-- SPDX-License-Identifier: Apache-2.0
-- The seconds alone, or the calendar's own tick.
use Rattle.std.proofs.Common.{sym, refl, ap, ◌∙◌, length-set}
use Rattle.calendar.specs.declared.Advanced.{Advanced}
use Rattle.fm3130.specs.Code.Bus.{with_companion}
use Rattle.fm3130_image.specs.Image.{image_of}
use Rattle.place_companion.specs.Code.Desk.{with_core}
use Rattle.place_tick.specs.Code.Tick.{one_more}
use Rattle.place_tick.proofs.Ticks.{with_seconds, seconds_next, seconds_parts}
use Rattle.place_tick.proofs.counted.Goals as goal

pub returns-then-seconds-eq89 : goal.returns-then-seconds-eq89
returns-then-seconds-eq89 c s e v =
    c.carried.ensures s e v

pub rings-rung-requires : goal.rings-rung-requires
rings-rung-requires c = simp length-set c.requires

pub tell-requires : goal.tell-requires
tell-requires c = simp length-set c.requires

pub shape_of-image : goal.shape_of-image
shape_of-image c = rw c.image-2-1.given (simp length-set)

pub returns : goal.returns
unfolding image_of
returns c s e v =
    let n = seconds_next s.companion.core v (λ z. c.if-seconds-eq89.false (rw e z)) in
    let m = with_seconds s.companion.core (one_more s.companion.core.seconds) in
    let q = with_companion s (with_core s.companion m) in
    let g = c.rings-rung.ensures q (rw (c.one_more.ensures, e) refl) in
    let t = c.tell.ensures q (rw (c.one_more.ensures, e) refl) in
    (ap (λ (x : Advanced). x.rolled) (sym n), t ∙ rw g (seconds_parts s v n))
