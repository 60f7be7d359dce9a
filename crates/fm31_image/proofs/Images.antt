-- SPDX-License-Identifier: Apache-2.0
-- Image and state go both ways without loss (01, Entries). A state that writes an image is the state that the image's
-- fields give (`candidate_of`, the one law about the layout); the rest holds since what was read is written again and
-- compared.
use Prim.Native.Nat.{ℕ, ◌<◌}
use mathlib.Core.Path.{◌≡◌, refl, sym, ap, ◌∙◌}
use mathlib.Core.Bool.{true, false, ◌&&◌, and-false}
use mathlib.Core.List.{List}
use native.Mathlib.Omega.{arith}
use lib.ListN.{length, take}
use Rattle.wire.proofs.Tests.{by_test, and_split}
use Rattle.fm31_counters.specs.Registers.{register_bytes}
use Rattle.fm31.specs.Chip.{fresh}
use Rattle.fm31.specs.Limits.{well_formed}
use Rattle.fm31.proofs.Entry.{fresh_well_formed}
use Rattle.fm31.specs.declared.State.{State}
use Rattle.bus_image.specs.Bytes.{same_bytes}
use Rattle.bus_image.proofs.Lists.{same_lengths, same_self, same_equal}
use Rattle.bus_image.proofs.Back.{power_of_number, phase_of_transfer, address_of_bytes}
use Rattle.fm31_image.specs.Image.{image_size, image_of, counts_at, candidate, decode_of}
use Rattle.fm31_image.specs.Reading.{WrittenBy, DecodeSettled}
use Rattle.std.specs.Prelude.{Option, Some, None}

pub image_length : (s : State) → length (image_of s) ≡ image_size
unfolding image_of
image_length s = refl

-- "The image begins with these 16 registers"
pub image_registers : (s : State) → take 16 (image_of s) ≡ register_bytes s.counters.registers
unfolding image_of
image_registers s = refl

-- a state that writes an image is that image's candidate
pub candidate_of : (s : State) → candidate (image_of s) ≡ s
unfolding candidate image_of counts_at
candidate_of s = simp (power_of_number, phase_of_transfer, address_of_bytes)

module _ (size select : ℕ) where
  -- the ways through the tests of `decode`
  module _ (i : List ℕ) (s : State) (e : s ≡ candidate i) where
    pub decode_good : well_formed size select s ≡ true → same_bytes (image_of s) i ≡ true → decode_of size select i ≡ Some s
    unfolding decode_of
    decode_good f w = rw (← e, f, w)

    pub decode_limits : well_formed size select s ≡ false → decode_of size select i ≡ None
    unfolding decode_of
    decode_limits f = rw (← e, f)

    pub decode_differs : same_bytes (image_of s) i ≡ false → decode_of size select i ≡ None
    unfolding decode_of
    decode_differs w = rw (← e, w, and-false (well_formed size select s))

  pub decode_length : (i : List ℕ) → (length i ≡ image_size → ⊥) → decode_of size select i ≡ None
  decode_length i h =
      decode_differs i (candidate i) refl (same_lengths _ _ (λ e. h (sym e ∙ image_length (candidate i))))

  -- reading what a well-formed state writes gives that state
  pub decode_image : (s : State) → well_formed size select s ≡ true → decode_of size select (image_of s) ≡ Some s
  decode_image s f = decode_good (image_of s) s (sym (candidate_of s)) f (same_self (image_of s))

  -- the fresh image is accepted
  pub decode_fresh : 0 < size → decode_of size select (image_of fresh) ≡ Some fresh
  decode_fresh z = decode_image fresh (fresh_well_formed size select z)

  good_not_bad : (s : State) → Some s ≡ None → ⊥
  good_not_bad s e = let z : ◌≡◌ {A = ℕ} 0 1 = cc in omega arith

  -- an accepted image is that of a well-formed state, and is written back byte for byte
  pub image_decode : (i : List ℕ) (s : State) → decode_of size select i ≡ Some s → WrittenBy size select i s
  unfolding decode_of
  image_decode i s h = by_test (well_formed size select (candidate i) && same_bytes (image_of (candidate i)) i)
      (λ t.
      let e : Some (candidate i) ≡ Some s = rw t at h in
      let c : candidate i ≡ s = cc in
      let w = and_split (well_formed size select (candidate i)) (same_bytes (image_of (candidate i)) i) t in
      (rw c at w.0, rw c at (same_equal _ _ w.1)))
      (λ t. absurd (good_not_bad s (sym (rw t at h))))

  pub decoded_length : (i : List ℕ) (s : State) → decode_of size select i ≡ Some s → length i ≡ image_size
  decoded_length i s d = ap length (sym (image_decode i s d).1) ∙ image_length s

  -- a refused image is written by no well-formed state
  pub image_refused : (i : List ℕ) → decode_of size select i ≡ None → (s : State) → WrittenBy size select i s → ⊥
  image_refused i b s w =
      let d : decode_of size select i ≡ Some s = rw w.1 at (decode_image s w.0) in good_not_bad s (sym d ∙ b)

  -- the answer that is computed is the one that the words describe, and no other is
  pub decode_settled : (i : List ℕ) (r : Option State) → decode_of size select i ≡ r → DecodeSettled size select i r
  decode_settled i (Some s) e = image_decode i s e
  decode_settled i None e = image_refused i e

  pub settled_decode : (i : List ℕ) (r : Option State) → DecodeSettled size select i r → decode_of size select i ≡ r
  settled_decode i (Some s) h = rw h.1 at (decode_image s h.0)
  settled_decode i None h = none (decode_of size select i) refl where
    none : (d : Option State) → decode_of size select i ≡ d → d ≡ None
    none None e = refl
    none (Some s) e = let w = image_decode i s e in absurd (h s w)
