-- SPDX-License-Identifier: Apache-2.0
-- `set_image::write::write_at` meets its contract: the image over its place, or none where the place is not on the line.
use Rattle.std.proofs.Common.{arith, rules, ◌≡◌, ◌*◌, sym}
use Rattle.std.proofs.lemmas.Slice.{put_mid-paste}
use borrow.Author.Tests.{lt-ltb, le-ltb}
use Rattle.fm31_image.specs.Image.{image_size, image_of}
use Rattle.fm31_image.proofs.Images.{image_length}
use Rattle.set_image.specs.Write.{image_in}
use Rattle.set_image.proofs.write.write_at.Goals as goal

pub returns-then-place-count : goal.returns-then-place-count
unfolding image_in
returns-then-place-count c =
    let a = c.args in
    let written : c.copy.new.to ≡ image_of a.state = search rules in
    rw (lt-ltb a.place a.count c.if-place-count.true)
    (put_mid-paste (image_size * a.place) _ a.images.now _ (image_of a.state) image_size written (omega arith)
    (sym (image_length a.state)))

pub returns-else-place-count : goal.returns-else-place-count
unfolding image_in
returns-else-place-count c = rw (le-ltb c.args.place c.args.count c.if-place-count.false)
