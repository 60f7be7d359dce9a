-- SPDX-License-Identifier: Apache-2.0
-- The bits of a report: bit k is lamp k's, since a report is the number that its eight lamps write, the first one lowest.
use Prim.Native.Nat.{ℕ, zero, suc, ◌+◌, ◌*◌, ◌/◌, ◌%◌, ◌^◌, ◌≤◌, ◌<◌}
use mathlib.Core.Path.{◌≡◌, refl, sym, ap, ◌∙◌}
use mathlib.Core.Bool.{Bool, true, false, cond}
use mathlib.Core.List.{List, [], ◌∷◌}
use native.Mathlib.Omega.{arith}
use native.Mathlib.Nat.{pow-succ', div-div-eq-div-mul, zero-div}
use Rattle.lamps_eight.specs.Eight.{bit}
use Rattle.lamps_eight.specs.Lit.{is_lit}
use Rattle.lamps.specs.Statement.{deserved, logged}
use Rattle.lamps_eight.specs.declared.Mark.{Mark}
use Rattle.lamps.proofs.Proven.{proven}
use Rattle.law_maintenance.specs.Maintenance.{Bits}

abbrev one : Bool → ℕ
one b = cond b 1 0

one_le : (b : Bool) → one b ≤ 1
one_le true = omega arith
one_le false = omega arith

weighed : (b : Bool) (w : ℕ) → bit b w ≡ w * one b
weighed true w = omega arith
weighed false w = omega arith

-- the number that a list of bits writes, the first one lowest, and the bit at a place
abbrev number_of : List Bool → ℕ
number_of [] = 0
number_of (b ∷ bs) = one b + 2 * number_of bs

abbrev bit_of : List Bool → ℕ → ℕ
bit_of [] k = 0
bit_of (b ∷ bs) zero = one b
bit_of (b ∷ bs) (suc k) = bit_of bs k

bit_at : (bs : List Bool) (k : ℕ) → number_of bs / 2 ^ k % 2 ≡ bit_of bs k
bit_at [] k = ap (λ (n : ℕ). n % 2) (zero-div (2 ^ k))
bit_at (b ∷ bs) zero = let l = one_le b in omega arith
bit_at (b ∷ bs) (suc k) =
    let l = one_le b in
    let half : (one b + 2 * number_of bs) / 2 ≡ number_of bs = omega arith in
    ap (λ (w : ℕ). (one b + 2 * number_of bs) / w % 2) (pow-succ' 2 k)
    ∙ ap (λ (n : ℕ). n % 2) (sym (div-div-eq-div-mul (one b + 2 * number_of bs) 2 (2 ^ k)))
    ∙ ap (λ (n : ℕ). n / 2 ^ k % 2) half
    ∙ bit_at bs k

module _ (l : List Mark) where
  abbrev lit : List Bool
  lit = is_lit 0 l ∷ is_lit 1 l ∷ is_lit 2 l ∷ is_lit 3 l ∷ is_lit 4 l ∷ is_lit 5 l ∷ is_lit 6 l ∷ is_lit 7 l ∷ []

  summed : deserved l ≡ number_of lit
  summed =
      let x₀ = weighed (is_lit 0 l) 1 in let x₁ = weighed (is_lit 1 l) 2 in let x₂ = weighed (is_lit 2 l) 4 in
      let x₃ = weighed (is_lit 3 l) 8 in let x₄ = weighed (is_lit 4 l) 16 in let x₅ = weighed (is_lit 5 l) 32 in
      let x₆ = weighed (is_lit 6 l) 64 in let x₇ = weighed (is_lit 7 l) 128 in omega arith

  lamp_at : (k : ℕ) → k < 8 → bit_of lit k ≡ one (is_lit k l)
  lamp_at zero h = refl
  lamp_at (suc zero) h = refl
  lamp_at (suc (suc zero)) h = refl
  lamp_at (suc (suc (suc zero))) h = refl
  lamp_at (suc (suc (suc (suc zero)))) h = refl
  lamp_at (suc (suc (suc (suc (suc zero))))) h = refl
  lamp_at (suc (suc (suc (suc (suc (suc zero)))))) h = refl
  lamp_at (suc (suc (suc (suc (suc (suc (suc zero))))))) h = refl
  lamp_at (suc (suc (suc (suc (suc (suc (suc (suc k)))))))) h = absurd (omega arith)

pub bits : Bits
bits k s m es i h =
    ap (λ (n : ℕ). n / 2 ^ k % 2) (proven s m es i ∙ summed (logged s m es))
    ∙ bit_at (lit (logged s m es)) k
    ∙ lamp_at (logged s m es) k h
