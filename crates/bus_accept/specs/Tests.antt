-- SPDX-License-Identifier: Apache-2.0
-- The tests of bytes that every image has in common. All is auxiliary: the contracts of the entries speak of the state that
-- writes an image.
--   word_at                      four bytes as one number
--   the_end                      bytes 30 to 63: zeros, and the three bytes of a mark
--   stands_for, bus_within        bytes 25 to 29 are written by some supplies and some phase, within their limits
--   bus_tested                   the same, by the tests that the code makes
-- The last two are over whom a slave byte names, and which companion addresses are legal.
use Rattle.std.specs.Prelude.{ℕ, ◌+◌, ◌*◌, ◌/◌, ◌^◌, Bool, true, false, cond, not, ◌&&◌, ◌||◌, List, [], ◌∷◌, ◌++◌, eqb, leb, ltb, get_or, replicate}
use Rattle.wire.specs.Slave.{answers}
use Rattle.wire.specs.Limits.{phase_within}
use Rattle.wire.specs.declared.Named.{Named}
use Rattle.bus_limits.specs.Limits.{power_within}
use Rattle.bus_image.specs.Layout.{power_of, phase_of}

-- Low byte first.
abbrev pub word_at : List ℕ → ℕ → ℕ
word_at i n = get_or i n 0 + get_or i (n + 1) 0 * 0x100 + get_or i (n + 2) 0 * 0x10000 + get_or i (n + 3) 0 * 0x1000000

abbrev pub the_end : ℕ → ℕ → ℕ → List ℕ
the_end x y z = replicate 31 0 ++ (x ∷ y ∷ z ∷ [])

-- Some phase writes these four numbers: a phase's first byte is 0 but in the second address byte of a memory write.
unfoldable pub transfer_stands : ℕ → ℕ → ℕ → ℕ → Bool
transfer_stands n k b f =
    cond (eqb n 0) (eqb k 0 && eqb b 0 && eqb f 0) (cond (eqb n 3) true (leb n 8 && eqb f 0))

-- Some supplies and some phase write these five.
unfoldable pub stands_for : ℕ → ℕ → ℕ → ℕ → ℕ → Bool
stands_for p n k b f = leb p 2 && transfer_stands n k b f

module _ (names : ℕ → Named) (legal : ℕ → Bool) where
  -- And they are within their limits.
  unfoldable pub bus_within : ℕ → ℕ → ℕ → ℕ → ℕ → Bool
  bus_within p n k b f =
      stands_for p n k b f && phase_within names legal (phase_of n k b f) && power_within (power_of p) (phase_of n k b f)

  -- By the code's tests: a byte that comes in; a transfer under way; any phase.
  unfoldable pub incoming_within : ℕ → ℕ → ℕ → Bool
  incoming_within n k b =
      cond (ltb k 8) (eqb (b / 2 ^ k) 0)
      (cond (eqb n 1) (answers (names b)) (cond (eqb n 4) (legal b) true))

  unfoldable pub transfer_within : ℕ → ℕ → ℕ → ℕ → Bool
  transfer_within n k b f =
      cond (ltb 8 n || ltb 8 k) false
      (cond (not (eqb f 0) && not (eqb n 3)) false (cond (leb 7 n) (not (eqb k 0) || eqb b 0) (incoming_within n k b)))

  unfoldable pub bus_tested : ℕ → ℕ → ℕ → ℕ → ℕ → Bool
  bus_tested p n k b f =
      cond (eqb n 0) (leb p 2 && (eqb k 0 && eqb b 0 && eqb f 0)) (cond (eqb p 0) (transfer_within n k b f) false)
