-- SPDX-License-Identifier: Apache-2.0
-- Refused, or 00h and the core by their stores.
use mathlib.Core.Path.{◌≡◌, refl, sym, ◌∙◌}
use mathlib.Core.Bool.{true, false}
use Rattle.calendar.specs.Next.{is_valid}
use Rattle.fm3130.specs.Code.Bus.{with_companion}
use Rattle.fm3130_image.specs.Image.{image_of, calendar_at}
use Rattle.place_companion.specs.Code.Desk.{control_put}
use Rattle.place_companion.proofs.Desks.{load_refused, load_taken}
use lib.ListN.{length-set}
use Rattle.place_companion.proofs.load_control.Goals as goal

pub returns-then-not-is_valid : goal.returns-then-not-is_valid
unfolding image_of calendar_at
returns-then-not-is_valid c s e =
    let v : is_valid s.companion.registers.time ≡ false =
    rw (c.calendar_at-time.ensures, e) at (sym c.is_valid.ensures ∙ c.if-not-is_valid.true) in
    rw e (load_refused s _ v)

pub load_core-requires : goal.load_core-requires
load_core-requires c = simp length-set c.requires

pub shape_of-image : goal.shape_of-image
shape_of-image c = rw c.image-1.given (simp length-set)

pub returns : goal.returns
unfolding image_of calendar_at
returns c s e =
    let v : is_valid s.companion.registers.time ≡ true =
    rw (c.calendar_at-time.ensures, e) at (sym c.is_valid.ensures ∙ c.if-not-is_valid.false) in
    load_taken s _ v
    (c.load_core.ensures (with_companion s (control_put s.companion c.args.byte))
    (rw (c.control_after.ensures, e) refl))
