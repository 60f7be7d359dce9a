-- SPDX-License-Identifier: Apache-2.0
-- The checker (02, number 9: "A checker accepts it exactly if no setting leaves a smaller distance from zero"). What is
-- said here asks about all settings; it is not how the code finds out.
--   Nearest        no setting leaves a smaller distance     Acceptable     what is to be accepted
--   CheckSettled   the checker's whole outcome
use Rattle.std.specs.Prelude.{◌<◌, ◌≡◌, true, false, ℤ}
use Rattle.c_trim.specs.Residue.{in_range, last_code, Coded, distance_left}
use Rattle.c_trim.specs.declared.Setting.{Setting}
use Rattle.c_trim.specs.declared.Verdict.{Verdict}
use Rattle.c_trim.specs.declared.Verdict.TheVariants.{Accepted, NotNearest, ErrorOutOfRange, CodeAbove31}

-- 02, number 9: "no setting leaves a smaller distance from zero". All of both signs are asked.
abbrev pub Nearest : ℤ → Setting → Type 0
Nearest e s = (t : Setting) → Coded t → distance_left e t < distance_left e s → ⊥

-- 02, number 9: "Outside the range both refuse, as the checker does any code above 31".
pub record Acceptable (e : ℤ) (s : Setting) : Type 0 where
  pub ranged : in_range e ≡ true
  pub coded : Coded s
  pub nearest : Nearest e s

-- The contract of `check`, case by case. The range is tested before the code (ours).
abbrev pub CheckSettled : ℤ → Setting → Verdict → Type 0
CheckSettled e s Accepted = Acceptable e s
CheckSettled e s NotNearest = (in_range e ≡ true) × Coded s × (Nearest e s → ⊥)
CheckSettled e s ErrorOutOfRange = in_range e ≡ false
CheckSettled e s CodeAbove31 = (in_range e ≡ true) × (last_code < s.code)
