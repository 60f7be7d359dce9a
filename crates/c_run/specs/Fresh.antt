-- SPDX-License-Identifier: Apache-2.0
-- The fresh image (01, Ticks, alarm, power: "The fresh state has these registers and core, power on, no transfer, both
-- addresses 0.").
use Rattle.std.specs.Prelude.{ℕ, ◌≡◌, List}
use Rattle.bus_list.specs.Fresh.{fresh_of}
use Rattle.fm3130.specs.Power.{fresh}
use Rattle.fm3130_image.specs.Image.{image_size, image_of}

-- The contract of `fm3130_fresh`, its whole outcome.
abbrev pub FreshSettled : List ℕ → ℕ → List ℕ → Type 0
FreshSettled i n i' = record { number = n; image = i' } ≡ fresh_of image_size (image_of fresh) i
