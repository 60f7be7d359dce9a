-- SPDX-License-Identifier: Apache-2.0
-- The tests decide; what was read is the candidate.
use mathlib.Core.Path.{sym, ap, ◌∙◌}
use Rattle.std.specs.Prelude.{Some, None}
use Rattle.fm31_image.proofs.Accepts.{image_long, image_read, image_not_read}
use Rattle.fm31_image.proofs.Images.{decode_settled}
use Rattle.fm31_image.proofs.image.decode.Goals as goal

pub returns-then-not-is_image : goal.returns-then-not-is_image
returns-then-not-is_image c =
    decode_settled _ _ _ None (image_not_read _ _ _ (sym c.is_image.ensures ∙ c.if-not-is_image.true))

pub read-requires : goal.read-requires
read-requires c = image_long _ _ _ ((sym c.is_image.ensures ∙ c.if-not-is_image.false))

pub returns : goal.returns
returns c =
    decode_settled _ _ _ (Some c.read.result)
    (image_read _ _ _ ((sym c.is_image.ensures ∙ c.if-not-is_image.false)) ∙ ap Some (sym c.read.ensures))
