-- SPDX-License-Identifier: Apache-2.0
-- The set that a plan and images hold (02, number 12: "each with its two select bits (slave byte bits 2 and 1) in
-- its record"). A plan has one byte a device: bits 1 and 0 are its select bits, bit 2 is 1 for the 256Kb size, the
-- others 0.
--   count_of, mark_size           how many devices a plan has; the size that a byte of it chooses
--   image_at                     a device's image among the images
--   absent, unread, got_of       what is not on the line; a device without, and with, what its image gave
--   device_at, place_of           the device at a place that the plan has; at any place
--   reading_of                   the set
use Rattle.std.specs.Prelude.{ℕ, ◌*◌, ◌/◌, ◌%◌, Bool, true, false, cond, ◌&&◌, List, eqb, ltb, length, take, drop, get_or, Option, Some, None}
use Rattle.bus.specs.Select.{lone}
use Rattle.fm31.specs.Chip.{size_of, fresh}
use Rattle.fm31.specs.declared.Size.{Size}
use Rattle.fm31.specs.declared.Size.TheVariants.{Kb64, Kb256}
use Rattle.fm31_image.specs.Image.{image_size, decode_of}
use Rattle.fm31.specs.declared.State.{State}
use Rattle.set_image.specs.declared.Got.{Got}
use Rattle.set_image.specs.declared.Reading.{Reading}

-- Five stands for more than four: no set has so many.
unfoldable pub count_of : List ℕ → ℕ
count_of plan = cond (ltb (length plan) 5) (length plan) 5

unfoldable pub mark_size : ℕ → Size
mark_size mark = cond (eqb (mark / 4 % 2) 1) Kb256 Kb64

-- "State image (64 bytes)", one after the other.
abbrev pub image_at : ℕ → List ℕ → List ℕ
image_at v images = take image_size (drop (image_size * v) images)

-- Auxiliary: a device of which no image tells.
abbrev pub untold : Bool → Size → ℕ → Got
untold g k z = record { good = g; member = record { size = k; select = z; state = fresh } }

-- A place that is not on the line is never looked at.
abbrev pub absent : Got
absent = untold true Kb64 lone

abbrev pub unread : Size → ℕ → Got
unread k z = untold false k z

abbrev pub got_of : Bool → Size → ℕ → Option State → Got
got_of fits k z (Some s) = record { good = fits; member = record { size = k; select = z; state = s } }
got_of fits k z None = unread k z

unfoldable pub device_at : List ℕ → List ℕ → ℕ → Got
device_at plan images v =
    let mark = get_or plan v 0 in
    let k = mark_size mark in
    let z = mark % 4 in
    got_of (ltb mark 8) k z (decode_of (size_of k) z (image_at v images))

unfoldable pub place_of : List ℕ → List ℕ → ℕ → Got
place_of plan images v = cond (ltb v (length plan)) (device_at plan images v) absent

-- Good if there is an image for each device and no more, and each device is.
unfoldable pub reading_of : List ℕ → List ℕ → Reading
reading_of plan images =
    let a = place_of plan images 0 in
    let b = place_of plan images 1 in
    let c = place_of plan images 2 in
    let d = place_of plan images 3 in
    record {
      good = eqb (length images) (image_size * count_of plan) && (a.good && (b.good && (c.good && d.good)));
      set =
          record {
            count = count_of plan;
            first = a.member;
            second = b.member;
            third = c.member;
            fourth = d.member;
          };
    }
