-- SPDX-License-Identifier: Apache-2.0
-- The fresh image, one for both sizes (02, number 5: "a fresh device has 0 elsewhere"; 01, Ticks, alarm, power: "power
-- on, no transfer").
use Rattle.std.specs.Prelude.{ℕ, ◌≡◌, List}
use Rattle.bus_list.specs.Fresh.{fresh_of}
use Rattle.fm31.specs.Chip.{fresh}
use Rattle.fm31_image.specs.Image.{image_size, image_of}

-- The contract of `fm31_fresh`, its whole outcome.
abbrev pub FreshSettled : List ℕ → ℕ → List ℕ → Type 0
FreshSettled i n i' = record { number = n; image = i' } ≡ fresh_of image_size (image_of fresh) i
