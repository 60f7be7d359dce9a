-- SPDX-License-Identifier: Apache-2.0
-- The ends of the range and of the codes, in numbers (02, number 9: "a signed error from -20,000 to 20,000. A setting is a sign and
-- a code 0 to 31"; "Outside the range both refuse, as the checker does any code above 31").
--   Inside, Outside    an error in the range, and outside it; `negsuc n` is the number -(n + 1)
--   RangeEnds          what the checker and the proposer say at its ends
--   CodeEnds           and what the checker says of codes
use Rattle.std.specs.Prelude.{◌≤◌, ◌<◌, ◌≡◌, ℤ, pos, negsuc, None}
use Rattle.c_trim.specs.Verdict.{CheckSettled}
use Rattle.c_trim.specs.Proposal.{proposal_of}
use Rattle.c_trim.specs.declared.Setting.{Setting}
use Rattle.c_trim.specs.declared.Verdict.TheVariants.{ErrorOutOfRange, CodeAbove31}

abbrev pub Inside : ℤ → Type 0
Inside (pos n) = n ≤ 20000
Inside (negsuc n) = n < 20000

abbrev pub Outside : ℤ → Type 0
Outside (pos n) = 20000 < n
Outside (negsuc n) = 20000 ≤ n

-- Outside both refuse; inside neither does.
pub record RangeEnds : Type 0 where
  pub outside : (e : ℤ) (s : Setting) → Outside e → CheckSettled e s ErrorOutOfRange
  pub inside : (e : ℤ) (s : Setting) → Inside e → CheckSettled e s ErrorOutOfRange → ⊥
  pub unproposed : (e : ℤ) → Outside e → proposal_of e ≡ None
  pub proposed : (e : ℤ) → Inside e → proposal_of e ≡ None → ⊥

pub record CodeEnds : Type 0 where
  pub above : (e : ℤ) (s : Setting) → Inside e → 31 < s.code → CheckSettled e s CodeAbove31
  pub below : (e : ℤ) (s : Setting) → s.code ≤ 31 → CheckSettled e s CodeAbove31 → ⊥
