-- SPDX-License-Identifier: Apache-2.0
-- The images of a set's devices, each over its own place among them.
use Rattle.std.specs.Prelude.{ℕ, ◌*◌, cond, List, ltb}
use Rattle.std.proofs.Math.Seq.{paste}
use Rattle.fm31.specs.declared.State.{State}
use Rattle.set_event.specs.declared.Set.{Set}
use Rattle.fm31_image.specs.Image.{image_size, image_of}

-- Of n devices, the image of the one at place v; what is not on the line has none.
unfoldable pub image_in : ℕ → ℕ → State → List ℕ → List ℕ
image_in n v s images = cond (ltb v n) (paste images (image_size * v) (image_of s) image_size) images

abbrev pub images_of : ℕ → Set → List ℕ → List ℕ
images_of n s images =
    image_in n 3 s.fourth.state
    (image_in n 2 s.third.state (image_in n 1 s.second.state (image_in n 0 s.first.state images)))
