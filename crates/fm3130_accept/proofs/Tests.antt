-- SPDX-License-Identifier: Apache-2.0
-- An image is told by tests of its bytes: bytes 30 to 63 are those of every image, bytes 25 to 29 are written by some
-- supplies and some phase, and the candidate is well-formed; what else it holds the candidate has by its place.
use Prim.Native.Nat.{ℕ, ◌+◌, ◌*◌, ◌/◌, ◌%◌, ◌<◌}
use mathlib.Core.Path.{◌≡◌, refl, sym, ◌∙◌}
use mathlib.Core.Bool.{Bool, true, false, ◌&&◌, and-false, and_assoc}
use mathlib.Core.List.{List, ◌++◌}
use native.Mathlib.Omega.{arith}
use lib.Dec.{leb, ltb}
use lib.ListN.{length, drop, get_or}
use borrow.Author.Tests.{lt-ltb, ltb-true}
use Rattle.calendar.specs.Width as width
use Rattle.wire.specs.Slave.{slave_names}
use Rattle.wire.specs.Limits.{phase_within}
use Rattle.wire.specs.declared.Phase.{Phase}
use Rattle.wire.proofs.Tests.{and_split, and_join}
use Rattle.bus_limits.specs.Limits.{power_within}
use Rattle.fm3130_companion.specs.Limits.{registers_within, alarm_within}
use Rattle.fm3130_companion.specs.Part.{is_within}
use Rattle.fm3130.specs.Chip.{memory_size}
use Rattle.fm3130.specs.Limits.{is_legal, well_formed}
use Rattle.fm3130.specs.declared.State.{State}
use Rattle.bus_image.specs.Layout.{power_of, phase_of}
use Rattle.bus_image.specs.Bytes.{same_bytes}
use Rattle.bus_image.proofs.Lists.{same_self, same_equal}
use Rattle.fm3130_image.specs.Image.{image_size, image_of, calendar_at, candidate}
use Rattle.fm3130_image.specs.Code.Accepting.{is_image, the_end}
use Rattle.fm3130_image.proofs.Accepts.{listed, front_end, image_end}
use Rattle.fm3130_accept.specs.Code.Tests.{places_within}
use Rattle.bus.specs.Select.{lone, slave_names_for}
use Rattle.bus.proofs.Lone.{lone_is}
use Rattle.bus_limits.specs.Limits.{is_between}
use Rattle.bus_limits.proofs.Keeps.{from_zero}
use Rattle.fm3130_registers.specs.Map.{LAST}
use Rattle.bus_accept.specs.Tests.{word_at, stands_for, bus_within, bus_tested}
use Rattle.bus_accept.proofs.BusBytes.{same_truth, bus_tested_lem}
use Rattle.bus_accept.proofs.Stands.{power_stands, transfer_stands_lem, power_written, transfer_written}
use Rattle.bus_accept.proofs.Words.{byte_0, below_0, byte_1, below_1, byte_2, byte_3}

module _ (i : List ℕ) (b : (k : ℕ) → get_or i k 0 < 256) where
  address_within : ltb (get_or i 23 0) 0x20 ≡ ltb (get_or i 23 0 * 256 + get_or i 24 0) memory_size
  address_within = let l = b 24 in same_truth _ _
      (λ t. let n = ltb-true (get_or i 23 0) 0x20 t in lt-ltb (get_or i 23 0 * 256 + get_or i 24 0) memory_size (omega arith))
      (λ t. let n = ltb-true (get_or i 23 0 * 256 + get_or i 24 0) memory_size t in lt-ltb (get_or i 23 0) 0x20 (omega arith))

  -- what the code tests of bytes 0 to 24
  pub places_tested :
      (ltb (get_or i 23 0) 0x20
      && (leb (get_or i 22 0) 14
      && (((((((ltb (word_at i 0 / 0x100 % 0x80) 0x40 && ltb (word_at i 0 / 0x10000 % 0x100) 0x80)
      && ltb (word_at i 0 / 0x1000000) 0x80)
      && (((ltb (word_at i 4 % 0x100) 0x40 && ltb (word_at i 4 / 0x100 % 0x100) 8)
      && ltb (word_at i 4 / 0x10000 % 0x100) 0x40) && ltb (word_at i 4 / 0x1000000) 0x20))
      && ltb (word_at i 8 / 0x1000000 % 0x80) 0x40)
      && ((ltb (word_at i 12 % 0x80) 0x40 && ltb (word_at i 12 / 0x100 % 0x80) 0x20) && ltb (word_at i 12 / 0x1000000) 0x80))
      && (((ltb (word_at i 16 % 0x100) 0x80 && ltb (word_at i 16 / 0x100 % 0x100) 0x40)
      && ltb (word_at i 16 / 0x10000 % 0x100) 8) && ltb (word_at i 16 / 0x1000000) 0x40))
      && ltb (word_at i 18 / 0x10000 % 0x100) 0x20))) ≡ places_within i
  unfolding is_within registers_within alarm_within width.is_within calendar_at
  places_tested =
      rw (
        below_1 i b 0,
        byte_2 i b 0,
        byte_3 i b 0,
        byte_0 i b 4,
        byte_1 i b 4,
        byte_2 i b 4,
        byte_3 i b 4,
        byte_3 i b 8,
        below_0 i b 12,
        below_1 i b 12,
        byte_3 i b 12,
        byte_0 i b 16,
        byte_1 i b 16,
        byte_2 i b 16,
        byte_3 i b 16,
        byte_2 i b 18,
        address_within,
      )
      (simp and_assoc)

-- bytes 25 to 29 of an image
abbrev stands_in : List ℕ → Bool
stands_in i = stands_for (get_or i 25 0) (get_or i 26 0) (get_or i 27 0) (get_or i 28 0) (get_or i 29 0)

abbrev bus_in : List ℕ → Bool
bus_in i =
    bus_tested (slave_names_for lone) (is_between 0 LAST) (get_or i 25 0) (get_or i 26 0) (get_or i 27 0) (get_or i 28 0)
    (get_or i 29 0)

abbrev phase_in : List ℕ → Phase
phase_in i = phase_of (get_or i 26 0) (get_or i 27 0) (get_or i 28 0) (get_or i 29 0)

-- the candidate writes the bytes that were tested
front_image : (i : List ℕ) → get_or i 24 0 < 256 → stands_in i ≡ true → image_of (candidate i) ≡ listed 30 0 i ++ the_end
unfolding image_of candidate calendar_at listed stands_for
front_image i b t =
    let s = and_split (leb (get_or i 25 0) 2) _ t in
    let high : (get_or i 23 0 * 256 + get_or i 24 0) / 256 ≡ get_or i 23 0 = omega arith in
    let low : (get_or i 23 0 * 256 + get_or i 24 0) % 256 ≡ get_or i 24 0 = omega arith in
    rw (high, low, power_stands (get_or i 25 0) s.0, transfer_stands_lem _ _ _ _ s.1)

-- what a state writes passes the tests
image_stands : (s : State) → stands_in (image_of s) ≡ true
unfolding image_of stands_for
image_stands s = and_join _ _ (power_written s.power) (transfer_written s.phase)

-- the tests are those of the definition
image_by_parts : (i : List ℕ) → length i ≡ image_size → get_or i 24 0 < 256
    → ((same_bytes (drop 30 i) the_end && stands_in i) && well_formed (candidate i)) ≡ is_image i
unfolding is_image
image_by_parts i l b = same_truth _ _
    (λ t.
    let p = and_split (same_bytes (drop 30 i) the_end && stands_in i) (well_formed (candidate i)) t in
    let q = and_split (same_bytes (drop 30 i) the_end) (stands_in i) p.0 in
    let e = front_image i b q.1 ∙ front_end i l (same_equal _ _ q.0) in
    and_join _ _ p.1 (rw e (same_self i)))
    (λ t.
    let p = and_split (well_formed (candidate i)) _ t in
    let e : image_of (candidate i) ≡ i = same_equal _ _ p.1 in
    let f : same_bytes (drop 30 i) the_end ≡ true = rw (rw e at (image_end (candidate i))) (same_self the_end) in
    and_join _ _ (and_join _ _ f (rw e at (image_stands (candidate i)))) p.0)

regroup : (e s p f w : Bool) → (e && (p && ((s && f) && w))) ≡ ((e && s) && ((p && f) && w))
regroup false s p f w = refl
regroup true false p f w = and-false p
regroup true true p f w = sym (and_assoc p f w)

limits_by_places : (i : List ℕ)
    → ((places_within i && phase_within slave_names is_legal (phase_in i)) && power_within (power_of (get_or i 25 0)) (phase_in i))
    ≡ well_formed (candidate i)
unfolding well_formed candidate
limits_by_places i = refl

module _ (i : List ℕ) (l : length i ≡ image_size) (b : (k : ℕ) → get_or i k 0 < 256) where
  image_tested :
      (same_bytes (drop 30 i) the_end
      && (places_within i && bus_in i)) ≡ is_image i
  unfolding bus_within
  image_tested =
      rw (
        bus_tested_lem (slave_names_for lone) (is_between 0 LAST) (get_or i 25 0) (get_or i 26 0) (get_or i 27 0) (get_or i 28 0)
            (get_or i 29 0) (b 28),
        lone_is,
        from_zero LAST,
      )
      (regroup (same_bytes (drop 30 i) the_end) (stands_in i) (places_within i) (phase_within slave_names is_legal (phase_in i)) _
      ∙ rw (limits_by_places i) (image_by_parts i l (b 24)))

  -- one test after the other
  pub wrong_end : same_bytes (drop 30 i) the_end ≡ false → false ≡ is_image i
  wrong_end e = rw e at image_tested

  pub wrong_places : same_bytes (drop 30 i) the_end ≡ true → places_within i ≡ false → false ≡ is_image i
  wrong_places e p = rw (e, p) at image_tested

  pub right_so_far : same_bytes (drop 30 i) the_end ≡ true → places_within i ≡ true
      → bus_in i ≡ is_image i
  right_so_far e p = rw (e, p) at image_tested
