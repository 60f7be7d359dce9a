-- SPDX-License-Identifier: Apache-2.0
-- The tests decide; what was read is the candidate.
use mathlib.Core.Path.{sym, ap, ◌∙◌}
use mathlib.Core.Bool.{true}
use Rattle.std.specs.Prelude.{Some, None}
use Rattle.fm3130_image.specs.Code.Accepting.{is_image}
use Rattle.fm3130_image.proofs.Images.{decode_settled}
use Rattle.fm3130_image.proofs.Accepts.{image_long, image_read, image_not_read}
use Rattle.fm3130_accept.proofs.decode.Goals as goal

pub returns-then-not-is_image : goal.returns-then-not-is_image
returns-then-not-is_image c =
    decode_settled _ None (image_not_read _ (sym c.is_image.ensures ∙ c.if-not-is_image.true))

pub state_at-requires : goal.state_at-requires
state_at-requires c = image_long _ ((sym c.is_image.ensures ∙ c.if-not-is_image.false))

pub returns : goal.returns
returns c =
    decode_settled _ (Some c.state_at.result) (image_read _ ((sym c.is_image.ensures ∙ c.if-not-is_image.false)) ∙ ap Some (sym c.state_at.ensures))
