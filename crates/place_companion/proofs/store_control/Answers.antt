-- SPDX-License-Identifier: Apache-2.0
-- By W; and where it does not fall by whether 02h to 08h take the core.
use mathlib.Core.Path.{◌≡◌, refl, sym, ◌∙◌}
use mathlib.Core.Bool.{true, false}
use Rattle.fm3130_registers.specs.Control.{w_falls}
use Rattle.fm3130.specs.Code.Bus.{with_companion}
use Rattle.fm3130_image.specs.Image.{image_of}
use Rattle.place_companion.specs.Code.Desk.{shows_core, control_put, core_shown}
use Rattle.place_companion.proofs.Desks.{took_as, took_whole, loaded_taken, put_taken, shown_taken}
use lib.ListN.{length-set}
use Rattle.place_companion.proofs.store_control.Goals as goal

pub returns-then-w_falls : goal.returns-then-w_falls
unfolding image_of
returns-then-w_falls c s e =
    let w : w_falls s.companion.registers.control c.args.byte ≡ true =
    rw e at (sym c.w_falls.ensures ∙ c.if-w_falls.true) in
    took_as (loaded_taken s.companion _ w) (c.load_control.ensures s e)

pub shape_of-image-then-not-shows_core : goal.shape_of-image-then-not-shows_core
shape_of-image-then-not-shows_core c = simp length-set

pub returns-then-not-shows_core : goal.returns-then-not-shows_core
unfolding image_of
returns-then-not-shows_core c s e =
    let w : w_falls s.companion.registers.control c.args.byte ≡ false =
    rw e at (sym c.w_falls.ensures ∙ c.if-w_falls.false) in
    let h : shows_core s.companion.registers.control c.args.byte ≡ false =
    rw e at (sym c.shows_core.ensures ∙ c.if-not-shows_core.true) in
    took_as (put_taken s.companion _ w h)
    (took_whole s (control_put s.companion c.args.byte) (rw (c.control_after.ensures, e) refl))

pub show_core-requires : goal.show_core-requires
show_core-requires c = simp length-set c.requires

pub shape_of-image : goal.shape_of-image
shape_of-image c = rw c.image-2-1.given (simp length-set)

pub returns : goal.returns
unfolding image_of
returns c s e =
    let w : w_falls s.companion.registers.control c.args.byte ≡ false =
    rw e at (sym c.w_falls.ensures ∙ c.if-w_falls.false) in
    let h : shows_core s.companion.registers.control c.args.byte ≡ true =
    rw e at (sym c.shows_core.ensures ∙ c.if-not-shows_core.false) in
    took_as (shown_taken s.companion _ w h)
    (took_whole s (core_shown (control_put s.companion c.args.byte))
    (c.show_core.ensures (with_companion s (control_put s.companion c.args.byte))
    (rw (c.control_after.ensures, e) refl)))
