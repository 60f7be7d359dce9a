-- SPDX-License-Identifier: Apache-2.0
-- Checker, residue and proposer as C sees them, all in numbers (02, number 9: "Let any program propose a setting").
--   sign_number, SignOf, setting_of      a sign and a code as numbers
--   verdict_number, unknown_sign         the checker's number       CheckNumberSettled     its whole outcome
--   residue_shown                       what a setting leaves      ResidueSettled         its whole outcome
--   setting_number, proposal_number      the proposer's number      ProposeNumberSettled   its whole outcome
--   AcceptedInNumbers                  the theorem about them
use Rattle.std.specs.Prelude.{ℕ, ◌+◌, ◌*◌, ◌/◌, ◌%◌, ◌≡◌, true, cond, ◌&&◌, leb, eqb, ℤ, pos, Option, Some, None, Result, Ok, Err, MatchResult}
use Rattle.c_trim.specs.Residue.{in_range, last_code, residue_of}
use Rattle.c_trim.specs.Verdict.{CheckSettled}
use Rattle.c_trim.specs.Proposal.{proposal_of}
use Rattle.c_trim.specs.declared.Sign.{Sign}
use Rattle.c_trim.specs.declared.Sign.TheVariants.{Plus, Minus}
use Rattle.c_trim.specs.declared.Setting.{Setting}
use Rattle.c_trim.specs.declared.Verdict.{Verdict}
use Rattle.c_trim.specs.declared.Verdict.TheVariants.{Accepted, NotNearest, ErrorOutOfRange, CodeAbove31}
use Rattle.c_trim.specs.declared.UnknownSign.{UnknownSign}

-- Document 002: "Bit D5 is a Sign bit; '1' indicates positive calibration, '0' indicates negative calibration."
abbrev pub sign_number : Sign → ℕ
sign_number Plus = 1
sign_number Minus = 0

-- Auxiliary: the sign whose number n is, or none where n is no sign's.
abbrev pub SignOf : ℕ → Result Sign UnknownSign → Type 0
SignOf n r = MatchResult r (λ g. n ≡ sign_number g) (λ _. (g : Sign) → n ≡ sign_number g → ⊥)

-- Auxiliary: what a sign g and a code k name.
unfoldable pub setting_of : ℕ → ℕ → Result Setting UnknownSign
setting_of g k =
    cond (eqb g (sign_number Plus))
    (Ok (record { sign = Plus; code = k }))
    (cond (eqb g (sign_number Minus)) (Ok (record { sign = Minus; code = k })) (Err (record {})))

-- Each verdict has a number (ours).
abbrev pub verdict_number : Verdict → ℕ
verdict_number Accepted = 0
verdict_number NotNearest = 1
verdict_number ErrorOutOfRange = 3
verdict_number CodeAbove31 = 4

-- So has a sign that is none, which is found first (ours).
abbrev pub unknown_sign : ℕ
unknown_sign = 2

-- Auxiliary: n is the number of the verdict on a setting, or that of a sign that is none.
abbrev pub Told : ℤ → Result Setting UnknownSign → ℕ → Type 0
Told e (Ok s) n = (v : Verdict) × CheckSettled e s v × (n ≡ verdict_number v)
Told e (Err _) n = n ≡ unknown_sign

-- The contract of `fm3130_trim_check`.
abbrev pub CheckNumberSettled : ℤ → ℕ → ℕ → ℕ → Type 0
CheckNumberSettled e g k n = Told e (setting_of g k) n

-- What a setting leaves of an error; 0 where the checker refuses one of the two (ours).
unfoldable pub residue_shown : ℤ → Setting → ℤ
residue_shown e s = cond (in_range e && leb s.code last_code) (residue_of e s) (pos 0)

-- Auxiliary: the same of what was named.
abbrev pub named_residue : ℤ → Result Setting UnknownSign → ℤ
named_residue e (Ok s) = residue_shown e s
named_residue e (Err _) = pos 0

-- The contract of `fm3130_trim_residue`.
abbrev pub ResidueSettled : ℤ → ℕ → ℕ → ℤ → Type 0
ResidueSettled e g k z = z ≡ named_residue e (setting_of g k)

-- Document 002: "The Calibration byte occupies the five lower order bits (D4-D0)", and the sign is bit D5.
abbrev pub setting_number : Setting → ℕ
setting_number s = 32 * sign_number s.sign + s.code

-- A refusal has the number after the last setting (ours).
abbrev pub proposal_number : Option Setting → ℕ
proposal_number (Some s) = setting_number s
proposal_number None = 64

-- The contract of `fm3130_trim_propose`.
abbrev pub ProposeNumberSettled : ℤ → ℕ → Type 0
ProposeNumberSettled e n = n ≡ proposal_number (proposal_of e)

-- 02, number 9: "always accepted". The proposal's number, taken apart into sign and code, is told number 0.
abbrev pub AcceptedInNumbers : Type 0
AcceptedInNumbers =
    (e : ℤ) (n : ℕ) → in_range e ≡ true → ProposeNumberSettled e n → CheckNumberSettled e (n / 32) (n % 32) 0
