-- SPDX-License-Identifier: Apache-2.0
-- An image is told by tests of its bytes: those that all images have alike, bytes 25 to 29 written by some supplies and some
-- phase, and the limits of the candidate; what else it holds the candidate has by its place.
use Prim.Native.Nat.{ℕ, ◌+◌, ◌*◌, ◌/◌, ◌%◌, ◌<◌}
use mathlib.Core.Path.{◌≡◌, refl, sym, ap, ◌∙◌}
use mathlib.Core.Bool.{Bool, true, false, ◌&&◌, and-true, and-false}
use mathlib.Core.List.{List, ◌++◌}
use native.Mathlib.Omega.{arith}
use lib.Dec.{eqb, leb, ltb}
use lib.ListN.{length, drop, get_or}
use borrow.Author.Tests.{eqb-true}
use Rattle.wire.specs.Limits.{phase_within}
use Rattle.wire.specs.declared.Phase.{Phase}
use Rattle.wire.proofs.Tests.{and_split, and_join}
use Rattle.bus.specs.Select.{slave_names_for}
use Rattle.bus_limits.specs.Limits.{is_between, power_within, bus_within}
use Rattle.fm31_counters.specs.Map.{FIRST, LAST}
use Rattle.fm31_counters.specs.Limits.{registers_within}
use Rattle.fm31_counters.specs.Part.{is_within}
use Rattle.fm31.specs.Limits.{well_formed}
use Rattle.fm31.specs.declared.State.{State}
use Rattle.bus_image.specs.Bytes.{same_bytes}
use Rattle.bus_image.specs.Layout.{power_of, phase_of}
use Rattle.bus_image.proofs.Lists.{same_lengths, same_self, same_equal}
use Rattle.bus_accept.specs.Tests.{word_at, the_end, stands_for, bus_tested}
use Rattle.bus_accept.specs.Tests as tests
use Rattle.bus_accept.proofs.BusBytes.{same_truth, bus_tested_lem}
use Rattle.bus_accept.proofs.Stands.{power_stands, transfer_stands_lem, power_written, transfer_written}
use Rattle.bus_accept.proofs.Words.{listed, listed_split, fourth_0, below_1, below_2, byte_3}
use Rattle.fm31_image.specs.Image.{image_size, image_of, counts_at, counters_at, candidate, decode_of}
use Rattle.fm31_image.specs.Accepting.{is_image, same_in_all, places_within}
use Rattle.std.specs.Prelude.{Some, None}
use Rattle.fm31_image.proofs.Images.{image_length}

-- bytes 25 to 29 of an image
abbrev stands_in : List ℕ → Bool
stands_in i = stands_for (get_or i 25 0) (get_or i 26 0) (get_or i 27 0) (get_or i 28 0) (get_or i 29 0)

abbrev phase_in : List ℕ → Phase
phase_in i = phase_of (get_or i 26 0) (get_or i 27 0) (get_or i 28 0) (get_or i 29 0)

-- the candidate writes the bytes that were tested
front_image : (i : List ℕ) → get_or i 24 0 < 256 → get_or i 20 0 ≡ 0 → get_or i 21 0 ≡ 0 → stands_in i ≡ true
    → image_of (candidate i) ≡ listed 30 0 i ++ the_end 0x31 0xCC 0x01
unfolding image_of candidate counts_at listed stands_for
front_image i b y z t =
    let s = and_split (leb (get_or i 25 0) 2) _ t in
    let high : (get_or i 23 0 * 256 + get_or i 24 0) / 256 ≡ get_or i 23 0 = omega arith in
    let low : (get_or i 23 0 * 256 + get_or i 24 0) % 256 ≡ get_or i 24 0 = omega arith in
    rw (high, low, power_stands (get_or i 25 0) s.0, transfer_stands_lem _ _ _ _ s.1, y, z)

front_end : (i : List ℕ) → length i ≡ image_size → drop 30 i ≡ the_end 0x31 0xCC 0x01
    → listed 30 0 i ++ the_end 0x31 0xCC 0x01 ≡ i
front_end i l e = rw (← e) (listed_split 30 0 i 30 refl (omega arith))

-- what a state writes passes the tests
image_same : (s : State) → same_in_all (image_of s) ≡ true
unfolding image_of same_in_all
image_same s = same_self (the_end 0x31 0xCC 0x01)

image_stands : (s : State) → stands_in (image_of s) ≡ true
unfolding image_of stands_for
image_stands s = and_join _ _ (power_written s.bus.power) (transfer_written s.bus.phase)

module _ (size select : ℕ) where
  -- the tests are those of the definition
  image_by_parts : (i : List ℕ) → length i ≡ image_size → get_or i 24 0 < 256
      → ((same_in_all i && stands_in i) && well_formed size select (candidate i)) ≡ is_image size select i
  unfolding is_image same_in_all
  image_by_parts i l b = same_truth _ _
      (λ t.
      let p = and_split (same_in_all i && stands_in i) (well_formed size select (candidate i)) t in
      let q = and_split (same_in_all i) (stands_in i) p.0 in
      let z = and_split (eqb (get_or i 20 0) 0 && eqb (get_or i 21 0) 0) (same_bytes (drop 30 i) (the_end 0x31 0xCC 0x01)) q.0 in
      let y = and_split (eqb (get_or i 20 0) 0) (eqb (get_or i 21 0) 0) z.0 in
      let e = front_image i b (eqb-true _ _ y.0) (eqb-true _ _ y.1) q.1
      ∙ front_end i l (same_equal _ _ z.1) in
      and_join _ _ p.1 (rw e (same_self i)))
      (λ t.
      let p = and_split (well_formed size select (candidate i)) _ t in
      let e : image_of (candidate i) ≡ i = same_equal _ _ p.1 in
      and_join _ _ (and_join _ _ (rw e at (image_same (candidate i))) (rw e at (image_stands (candidate i)))) p.0)

  regroup : (e s a f w c : Bool) → (e && ((a && c) && ((s && f) && w))) ≡ ((e && s) && (((a && f) && w) && c))
  regroup false s a f w c = refl
  regroup true false a f w c = and-false (a && c)
  regroup true true false f w c = refl
  regroup true true true f w true = sym (and-true (f && w))
  regroup true true true f w false = sym (and-false (f && w))

  module _ (i : List ℕ) (l : length i ≡ image_size) (b : (k : ℕ) → get_or i k 0 < 256) where
    abbrev tested : Bool
    tested =
        bus_tested (slave_names_for select) (is_between FIRST LAST) (get_or i 25 0) (get_or i 26 0) (get_or i 27 0) (get_or i 28 0)
        (get_or i 29 0)

    -- the limits of the candidate, part by part
    limits :
        (((ltb (get_or i 23 0 * 256 + get_or i 24 0) size
        && phase_within (slave_names_for select) (is_between FIRST LAST) (phase_in i))
        && power_within (power_of (get_or i 25 0)) (phase_in i)) && is_within (counters_at i))
        ≡ well_formed size select (candidate i)
    unfolding well_formed bus_within candidate
    limits = refl

    image_tested : (same_in_all i && (places_within size i && tested)) ≡ is_image size select i
    unfolding tests.bus_within places_within
    image_tested =
        rw (bus_tested_lem (slave_names_for select) (is_between FIRST LAST) (get_or i 25 0) (get_or i 26 0) (get_or i 27 0) (get_or i 28 0)
        (get_or i 29 0) (b 28))
        (regroup (same_in_all i) (stands_in i) (ltb (get_or i 23 0 * 256 + get_or i 24 0) size)
        (phase_within (slave_names_for select) (is_between FIRST LAST) (phase_in i))
        (power_within (power_of (get_or i 25 0)) (phase_in i)) (is_within (counters_at i))
        ∙ rw limits (image_by_parts i l (b 24)))

    -- one test after the other
    pub wrong_same : same_in_all i ≡ false → false ≡ is_image size select i
    wrong_same e = rw e at image_tested

    pub wrong_places : same_in_all i ≡ true → places_within size i ≡ false → false ≡ is_image size select i
    wrong_places e p = rw (e, p) at image_tested

    pub right_so_far : same_in_all i ≡ true → places_within size i ≡ true → tested ≡ is_image size select i
    right_so_far e p = rw (e, p) at image_tested

  pub image_not_long : (i : List ℕ) → (length i ≡ image_size → ⊥) → is_image size select i ≡ false
  unfolding is_image
  image_not_long i h =
      rw (same_lengths (image_of (candidate i)) i (λ e. h (sym e ∙ image_length (candidate i))))
      (and-false (well_formed size select (candidate i)))

  -- what an accepted image is
  module _ (i : List ℕ) (h : is_image size select i ≡ true) where
    pub image_well : well_formed size select (candidate i) ≡ true
    unfolding is_image
    image_well = (and_split (well_formed size select (candidate i)) (same_bytes (image_of (candidate i)) i) h).0

    pub image_written : image_of (candidate i) ≡ i
    unfolding is_image
    image_written =
        same_equal _ _ (and_split (well_formed size select (candidate i)) (same_bytes (image_of (candidate i)) i) h).1

    pub image_read : decode_of size select i ≡ Some (candidate i)
    unfolding is_image decode_of
    image_read = rw h

    pub image_long : length i ≡ image_size
    image_long = ap length (sym image_written) ∙ image_length (candidate i)

  pub image_not_read : (i : List ℕ) → is_image size select i ≡ false → decode_of size select i ≡ None
  unfolding is_image decode_of
  image_not_read i h = rw h

-- what the code tests of bytes 0 to 24
pub places_tested : (size : ℕ) (i : List ℕ) → ((k : ℕ) → get_or i k 0 < 256)
    → (ltb (get_or i 23 0 * 256 + get_or i 24 0) size
    && ((leb FIRST (get_or i 22 0) && leb (get_or i 22 0) LAST)
    && (((eqb (word_at i 0 / 16 % 2) 0 && ltb (word_at i 0 / 0x100 % 0x80) 0x20)
    && ltb (word_at i 0 / 0x10000 % 0x80) 0x20) && ltb (word_at i 0 / 0x1000000) 0x10))) ≡ places_within size i
unfolding places_within is_within registers_within
places_tested size i b = rw (fourth_0 i b 0, below_1 i b 0, below_2 i b 0, byte_3 i b 0) refl
