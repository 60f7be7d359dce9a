-- SPDX-License-Identifier: Apache-2.0
use Prim.Native.Nat.{ℕ, ◌+◌}
use mathlib.Core.Path.{sym, ap, ◌∙◌}
use Rattle.fm3130_image.specs.Image.{candidate}
use Rattle.fm3130_image.proofs.Accepts.{image_long, image_written}
use Rattle.c_pins.proofs.Ways.{line_asked}
use Rattle.c_pins.proofs.ask.Goals as goal

pub pulls_of-told-requires : goal.pulls_of-told-requires
pulls_of-told-requires c = (c.requires.image, c.requires.memory)

pub shown-requires : goal.shown-requires
shown-requires c = image_long _ c.requires.image

pub lined-requires : goal.lined-requires
lined-requires c = c.shown.ensures.1

pub returns : goal.returns
returns c =
    let t = c in
    let i = t.args.image.now in
    c.asked.ensures
    ∙ line_asked i t.args.memory.now t.args.t _ _ c.pulls_of-told.ensures
    (c.lined.ensures
    ∙ ap (λ (x : ℕ). x + 1) (c.shown.ensures.0 (candidate i) (sym (image_written i t.requires.image))))
