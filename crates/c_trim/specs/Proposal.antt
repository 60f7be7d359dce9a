-- SPDX-License-Identifier: Apache-2.0
-- The setting that we propose, in closed form (02, number 9: "Also supply a proposer of ours that is always accepted").
--   rounded_of        a distance in whole steps             setting_for       our setting for an error in range
--   ProposeSettled   the proposer's whole outcome          AlwaysAccepted   the theorem about it
use Rattle.std.specs.Prelude.{ℕ, suc, ◌+◌, ◌/◌, ◌≡◌, true, cond, ltb, ℤ, pos, negsuc, Option, Some, None}
use Rattle.c_trim.specs.Residue.{in_range, last_code}
use Rattle.c_trim.specs.Verdict.{CheckSettled}
use Rattle.c_trim.specs.declared.Sign.TheVariants.{Plus, Minus}
use Rattle.c_trim.specs.declared.Setting.{Setting}
use Rattle.c_trim.specs.declared.Verdict.TheVariants.{Accepted}

-- Auxiliary: n cycles in steps of t, to the nearest whole number of steps, but no more than the last code.
unfoldable pub rounded_of : ℕ → ℕ → ℕ
rounded_of t n = cond (ltb last_code ((n + t / 2) / t)) last_code ((n + t / 2) / t)

-- Auxiliary: too many cycles are taken away by 256, too few are added to by 512.
unfoldable pub setting_for : ℤ → Setting
setting_for (pos n) = record { sign = Minus; code = rounded_of 256 n }
setting_for (negsuc n) = record { sign = Plus; code = rounded_of 512 (suc n) }

-- 02, number 9: "Outside the range both refuse".
unfoldable pub proposal_of : ℤ → Option Setting
proposal_of e = cond (in_range e) (Some (setting_for e)) None

-- The contract of `propose`.
abbrev pub ProposeSettled : ℤ → Option Setting → Type 0
ProposeSettled e p = p ≡ proposal_of e

-- 02, number 9: "always accepted". For every error in range there is a proposal, and the verdict on it is `Accepted`.
abbrev pub AlwaysAccepted : Type 0
AlwaysAccepted =
    (e : ℤ) → in_range e ≡ true → (s : Setting) × (proposal_of e ≡ Some s) × CheckSettled e s Accepted
