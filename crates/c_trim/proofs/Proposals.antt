-- SPDX-License-Identifier: Apache-2.0
-- Our setting is always accepted. A distance rounded to whole steps is within half a step of them, so the codes beside
-- it leave no less; past the last code the last one is nearest, since each step brings the error nearer; and a step of
-- the other sign only takes it further away.
use Prim.Native.Nat.{ℕ, suc, ◌+◌, ◌*◌, ◌/◌, ◌≤◌, ◌<◌}
use mathlib.Core.Path.{◌≡◌, refl, ap, subst, ◌∙◌}
use mathlib.Core.Bool.{Bool, true, false, cond}
use native.Mathlib.Omega.{arith}
use native.Mathlib.Nat.{mul-le-mul_right, div-mul-le_self, lt-div-mul-add}
use borrow.Author.Tests.{ltb-true, ltb-false, lt-ltb, le-ltb}
use lib.Dec.{T, ltb}
use lib.IntN.{ℤ, pos, negsuc}
use lib.Signed.{lt_z}
use Rattle.std.specs.Prelude.{Some, None}
use Rattle.c_trim.specs.Residue.{in_range, last_code, Coded, distance_of, distance_left}
use Rattle.c_trim.specs.Verdict.{Acceptable}
use Rattle.c_trim.specs.Proposal.{rounded_of, setting_for, proposal_of, AlwaysAccepted}
use Rattle.c_trim.specs.declared.Sign.TheVariants.{Plus, Minus}
use Rattle.c_trim.specs.declared.Setting.{Setting}
use Rattle.c_trim.proofs.Signed.{apart}
use Rattle.c_trim.proofs.Left.{left_le}
use Rattle.c_trim.proofs.Least.{Beside}
use Rattle.c_trim.proofs.Nearest.{gap_least}

-- ---- rounding, over any step

-- q steps of t are n cycles, to the nearest
abbrev Rounded : ℕ → ℕ → ℕ → Type 0
Rounded t n q = (q * t ≤ n + t / 2) × (n + t / 2 < q * t + t)

rounded_up : (t n q : ℕ) → Rounded t n q → apart (t * q + 0) n ≤ apart (t * (q + 1) + 0) n
rounded_up t n q r = omega arith

rounded_down : (t n q p : ℕ) → q ≡ suc p → Rounded t n q → apart (t * q + 0) n ≤ apart (t * p + 0) n
rounded_down t n q p e r = rw e (omega (arith, rw e at r))

-- past the last code
last_down : (t n l p : ℕ) → l ≡ suc p → suc l * t ≤ n + t / 2 → apart (t * l + 0) n ≤ apart (t * p + 0) n
last_down t n l p e h = rw e (omega (arith, rw e at h))

rounded_beside_by : (t n q : ℕ) (b : Bool) → (b ≡ true → last_code < q) → Rounded t n q → Beside t 0 n (cond b last_code q)
rounded_beside_by t n q true l r =
    ((λ h. absurd (omega arith)), (λ p e. last_down t n last_code p e (omega (arith, r.0, mul-le-mul_right t (l refl)))))
rounded_beside_by t n q false l r = ((λ h. rounded_up t n q r), (λ p e. rounded_down t n q p e r))

rounded_beside : (t n : ℕ) → 0 < t → Beside t 0 n (rounded_of t n)
unfolding rounded_of
rounded_beside t n z =
    let q = (n + t / 2) / t in
    rounded_beside_by t n q (ltb last_code q) (ltb-true last_code q) (div-mul-le_self (n + t / 2) t, lt-div-mul-add z)

rounded_coded_by : (q : ℕ) (b : Bool) → (b ≡ false → q ≤ last_code) → cond b last_code q ≤ last_code
rounded_coded_by q true h = omega arith
rounded_coded_by q false h = h refl

rounded_coded : (t n : ℕ) → rounded_of t n ≤ last_code
unfolding rounded_of
rounded_coded t n = let q = (n + t / 2) / t in rounded_coded_by q (ltb last_code q) (ltb-false last_code q)

-- the code's test is the definition's
pub rounded_past : (t n : ℕ) → last_code < (n + t / 2) / t → rounded_of t n ≡ last_code
unfolding rounded_of
rounded_past t n h = rw (lt-ltb last_code ((n + t / 2) / t) h)

pub rounded_within : (t n : ℕ) → (n + t / 2) / t ≤ last_code → rounded_of t n ≡ (n + t / 2) / t
unfolding rounded_of
rounded_within t n h = rw (le-ltb last_code ((n + t / 2) / t) h)

-- ---- our setting

-- from the error's distance
pub setting_of_negative : (e : ℤ) (d k : ℕ) → lt_z e (pos 0) ≡ true → d ≡ distance_of e → k ≡ rounded_of 512 d
    → ◌≡◌ {A = Setting} (record { sign = Plus; code = k }) (setting_for e)
unfolding setting_for
setting_of_negative (pos n) d k t p q = absurd (omega (arith, ltb-true n 0 t))
setting_of_negative (negsuc n) d k t p q =
    ap (λ (x : ℕ). record { sign = Plus; code = x }) (q ∙ ap (rounded_of 512) p)

pub setting_of_positive : (e : ℤ) (d k : ℕ) → lt_z e (pos 0) ≡ false → d ≡ distance_of e → k ≡ rounded_of 256 d
    → ◌≡◌ {A = Setting} (record { sign = Minus; code = k }) (setting_for e)
unfolding setting_for
setting_of_positive (pos n) d k t p q =
    ap (λ (x : ℕ). record { sign = Minus; code = x }) (q ∙ ap (rounded_of 256) p)
setting_of_positive (negsuc n) d k t p q = absurd (subst T t tt)

pub setting_coded : (e : ℤ) → Coded (setting_for e)
unfolding setting_for
setting_coded (pos n) = rounded_coded 256 n
setting_coded (negsuc n) = rounded_coded 512 (suc n)

-- no steps, against the first of the other sign
none_first : (t b n k : ℕ) → k ≡ 0 → apart (t * k + 0) n ≤ apart (b * 1 + n) 0
none_first t b n k q = rw q (omega arith)

setting_least : (e : ℤ) (t : Setting) → Coded t → distance_left e (setting_for e) ≤ distance_left e t
unfolding setting_for
setting_least (pos n) t h =
    left_le (pos n) (setting_for (pos n)) t
    (gap_least (pos n) Minus t.sign (rounded_of 256 n) t.code (rounded_beside 256 n (omega arith))
    (none_first 256 512 n (rounded_of 256 n)) h)
setting_least (negsuc n) t h =
    left_le (negsuc n) (setting_for (negsuc n)) t
    (gap_least (negsuc n) Plus t.sign (rounded_of 512 (suc n)) t.code (rounded_beside 512 (suc n) (omega arith))
    (none_first 512 256 (suc n) (rounded_of 512 (suc n))) h)

pub setting_acceptable : (e : ℤ) → in_range e ≡ true → Acceptable e (setting_for e)
setting_acceptable e q =
    record { ranged = q; coded = setting_coded e; nearest = λ t h l. omega (arith, setting_least e t h) }

-- ---- our proposal

pub proposal_in_range : (e : ℤ) → in_range e ≡ true → proposal_of e ≡ Some (setting_for e)
unfolding proposal_of
proposal_in_range e q = rw q

pub proposal_out_of_range : (e : ℤ) → in_range e ≡ false → proposal_of e ≡ None
unfolding proposal_of
proposal_out_of_range e q = rw q

-- what is proposed has a code
proposed_coded_by : (e : ℤ) (s : Setting) (b : Bool) → cond b (Some (setting_for e)) None ≡ Some s → Coded s
proposed_coded_by e s true q = let n : setting_for e ≡ s = cc in subst Coded n (setting_coded e)
proposed_coded_by e s false q = let z : ◌≡◌ {A = ℕ} 0 1 = cc in absurd (omega arith)

pub proposed_coded : (e : ℤ) (s : Setting) → proposal_of e ≡ Some s → Coded s
unfolding proposal_of
proposed_coded e s q = proposed_coded_by e s (in_range e) q

pub proposal_accepted : AlwaysAccepted
proposal_accepted e q = (setting_for e, proposal_in_range e q, setting_acceptable e q)
