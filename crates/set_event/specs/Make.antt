-- SPDX-License-Identifier: Apache-2.0
-- Which sets are refused when they are made (02, number 12: "Equal selects, or a device not between transfers, are
-- refused when the set is made"), by the first number that fits:
--   9   a count that is not 1 to 4: without one to four devices no memory and no image has a meaning
--   1   a memory of the wrong length for its device's size
--   2   a device outside its limits, its select bits above 3 too
--   10  equal selects
--   11  a device not between transfers
-- Only the devices on the line are tested.
--   is_lent, is_within, is_between   what is tested of one device
--   places_are, pairs_are           a test of each device on the line, of each two of them
--   is_count, count_fits, selects_differ    what is tested of them together
--   make_number                    the number
use Rattle.std.specs.Prelude.{ℕ, Bool, true, cond, ◌&&◌, not, eqb, ltb, leb, length}
use Rattle.bus_limits.specs.Limits.{is_idle}
use Rattle.numbers.specs.Numbers.{accepted, wrong_memory, wrong_state}
use Rattle.fm31.specs.Limits.{well_formed}
use Rattle.numbers.specs.Numbers.{wrong_count, equal_selects, in_transfer}
use Rattle.set_event.specs.Set.{most}
use Rattle.set_event.specs.Set.{Held, Together, first, second, third, fourth, at, size_in, select_in}

-- All of its memory is lent.
unfoldable pub is_lent : Held → Bool
is_lent h = eqb (length h.memory) (size_in h)

-- Two select bits, and the limits of its size with them.
unfoldable pub is_within : Held → Bool
is_within h = ltb (select_in h) 4 && well_formed (size_in h) (select_in h) h.member.state

-- No transfer is under way.
unfoldable pub is_between : Held → Bool
is_between h = is_idle h.member.state.bus.phase

-- Auxiliary: a test of what is on the line only.
unfoldable pub if_here : ℕ → ℕ → Bool → Bool
if_here n v b = cond (ltb v n) b true

-- Auxiliary: the tests of the four places as one.
unfoldable pub all_here : ℕ → Bool → Bool → Bool → Bool → Bool
all_here n a b c d = if_here n 0 a && (if_here n 1 b && (if_here n 2 c && if_here n 3 d))

unfoldable pub places_are : (Held → Bool) → Together → Bool
places_are test t = all_here t.set.count (test (at first t)) (test (at second t)) (test (at third t)) (test (at
    fourth t))

-- Auxiliary: a test of each two devices on the line: of first and second, and so on.
unfoldable pub all_pairs : ℕ → Bool → Bool → Bool → Bool → Bool → Bool → Bool
all_pairs n ab ac bc ad bd cd = if_here n 1 ab && (if_here n 2 (ac && bc) && if_here n 3 (ad && (bd && cd)))

unfoldable pub pairs_are : (Held → Held → Bool) → Together → Bool
pairs_are test t =
    let a = at first t in
    let b = at second t in
    let c = at third t in
    let d = at fourth t in
    all_pairs t.set.count (test a b) (test a c) (test b c) (test a d) (test b d) (test c d)

-- "Equal selects": of each two devices on the line.
abbrev pub differ : Held → Held → Bool
differ a b = not (eqb (select_in a) (select_in b))

abbrev pub selects_differ : Together → Bool
selects_differ t = pairs_are differ t

-- "Up to four devices": one to four.
abbrev pub is_count : ℕ → Bool
is_count n = leb 1 n && leb n most

abbrev pub count_fits : Together → Bool
count_fits t = is_count t.set.count

-- "Checked in the order of the numbers", but that the count comes first.
unfoldable pub make_number : Together → ℕ
make_number t =
    cond (count_fits t)
    (cond (places_are is_lent t)
    (cond (places_are is_within t)
    (cond (selects_differ t) (cond (places_are is_between t) accepted in_transfer) equal_selects)
    wrong_state)
    wrong_memory)
    wrong_count
