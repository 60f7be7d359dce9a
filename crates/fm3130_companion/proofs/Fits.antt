-- SPDX-License-Identifier: Apache-2.0
-- Register widths. `fits a b` says that the byte b has 0 wherever the register at a has no bit. What a register
-- stores of any byte fits it, by one law for a remainder and one for bit 7 with a remainder, both over the width.
-- Registers are within their limits exactly if each byte fits; so a byte that fits may be put at its address.
use Prim.Native.Nat.{ℕ, zero, ◌+◌, ◌-◌, ◌*◌, ◌/◌, ◌%◌, ◌≤◌, ◌<◌}
use mathlib.Core.Path.{◌≡◌, refl, sym, ◌∙◌, ap, subst}
use mathlib.Core.Bool.{Bool, true, false}
use mathlib.Core.List.{[], ◌∷◌}
use native.Mathlib.Nat.{mod-lt}
use native.Mathlib.Omega.{arith}
use lib.Dec.{T, ltb, leb, eqb, lit<, lit≤}
use lib.ListN.{get_or}
use borrow.Author.Tests.{lt-ltb, ltb-true, eqb-true, eqb-false}
use Rattle.bits.proofs.Cases.{Below, none, ◌then◌, below}
use Rattle.calendar.proofs.Width.{Within, within_facts, within_test}
use Rattle.fm3130_companion.specs.declared.Registers.{Registers}
use Rattle.fm3130_registers.specs.Stored.{top_and_below, stored_at}
use Rattle.fm3130_companion.specs.Registers.{register_at, put_at}
use Rattle.fm3130_companion.specs.Limits.{fixed_clear}
use Rattle.fm3130_companion.proofs.Bytes.{put_same, put_other}
use Rattle.fm3130_companion.proofs.LimitFacts.{RegistersWithin}

-- a remainder, at any width
pub rest_fits : (span b : ℕ) → zero < span → ltb (b % span) span ≡ true
rest_fits span b h = lt-ltb (b % span) span (mod-lt b h)

-- bit 7 with a number below the width, and with a remainder
pub top_fits : (span top n : ℕ) → n < span → span ≤ 128 → fixed_clear span (top * 128 + n) ≡ true
top_fits span top n h l = lt-ltb ((top * 128 + n) % 128) span (omega arith)

pub top_and_rest_fits : (span b : ℕ) → zero < span → span ≤ 128 → fixed_clear span (top_and_below span b) ≡ true
top_and_rest_fits span b h l = top_fits span (b / 128) (b % span) (mod-lt b h) l

-- the limits' test of a byte at each address
abbrev pub fits : ℕ → ℕ → Bool
fits a b =
    get_or
    (true ∷ fixed_clear 64 b
    ∷ ltb b 128 ∷ ltb b 128 ∷ ltb b 64 ∷ ltb b 8 ∷ ltb b 64 ∷ ltb b 32 ∷ true
    ∷ true ∷ true ∷ fixed_clear 64 b ∷ fixed_clear 64 b ∷ fixed_clear 32 b
    ∷ true ∷ [])
    a true

pub stored_fits : (a b : ℕ) → 1 < a → a < 15 → fits a (stored_at a b) ≡ true
stored_fits a b g h =
    let e : a - 2 + 2 ≡ a = omega arith in
    subst (λ (n : ℕ). fits n (stored_at n b) ≡ true) e (below (λ k. fits (k + 2) (stored_at (k + 2) b) ≡ true) each (a - 2) (omega arith))
  where
    rest : (span : ℕ) → T (ltb zero span) → ltb (b % span) span ≡ true
    rest span t = rest_fits span b (lit< t)

    top : (span : ℕ) → T (ltb zero span) → T (leb span 128) → fixed_clear span (top_and_below span b) ≡ true
    top span t u = top_and_rest_fits span b (lit< t) (lit≤ u)

    each : Below (λ k. fits (k + 2) (stored_at (k + 2) b) ≡ true) 13
    each =
        none then rest 128 tt then rest 128 tt then rest 64 tt then rest 8 tt then rest 64 tt then rest 32 tt then refl
        then refl then refl then top 64 tt tt then top 64 tt tt then top 32 tt tt
        then refl

abbrev pub Fits : Registers → Type 0
Fits r = (a : ℕ) → a < 15 → fits a (register_at r a) ≡ true

pub within_fits : (r : Registers) → RegistersWithin r → Fits r
within_fits r w = below (λ a. fits a (register_at r a) ≡ true) each
  where
    t : Within r.time
    t = within_facts r.time w.time

    each : Below (λ a. fits a (register_at r a) ≡ true) 15
    each =
        none then refl then w.trim
        then lt-ltb _ _ t.seconds then lt-ltb _ _ t.minutes then lt-ltb _ _ t.hours
        then lt-ltb _ _ t.day then lt-ltb _ _ t.date then lt-ltb _ _ t.month then refl
        then refl then refl then w.hours then w.date then w.month
        then refl

pub fits_within : (r : Registers) → Fits r → RegistersWithin r
fits_within r f =
    record {
      trim = f 1 (lit< tt);
      time =
          within_test r.time
          (record {
            seconds = ltb-true _ _ (f 2 (lit< tt));
            minutes = ltb-true _ _ (f 3 (lit< tt));
            hours = ltb-true _ _ (f 4 (lit< tt));
            day = ltb-true _ _ (f 5 (lit< tt));
            date = ltb-true _ _ (f 6 (lit< tt));
            month = ltb-true _ _ (f 7 (lit< tt));
          });
      hours = f 11 (lit< tt);
      date = f 12 (lit< tt);
      month = f 13 (lit< tt);
    }

pub put_fits : (r : Registers) (a b : ℕ) → a < 15 → Fits r → fits a b ≡ true → Fits (put_at r a b)
put_fits r a b h f t k l = by_place (eqb k a) refl
  where
    by_place : (p : Bool) → eqb k a ≡ p → fits k (register_at (put_at r a b) k) ≡ true
    by_place true e =
        subst (λ (n : ℕ). fits n (register_at (put_at r a b) n) ≡ true) (sym (eqb-true k a e))
        (ap (fits a) (put_same r a b h) ∙ t)
    by_place false e = ap (fits k) (put_other r a b k h (eqb-false k a e)) ∙ f k l

-- what a register stores keeps the registers within their limits
pub put_within : (r : Registers) (a b : ℕ) → 1 < a → a < 15
    → RegistersWithin r → RegistersWithin (put_at r a (stored_at a b))
put_within r a b g h w =
    fits_within (put_at r a (stored_at a b)) (put_fits r a (stored_at a b) h (within_fits r w) (stored_fits a b g h))
