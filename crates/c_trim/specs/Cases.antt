-- SPDX-License-Identifier: Apache-2.0
-- The two examples of 02, number 9, as one list, and what it says.
--   tie, alone, cases   the examples, and the list of both
--   Holds, AllHold      an example holds; each of a list holds
use Rattle.std.specs.Prelude.{ℕ, ◌≡◌, ◌↔◌, ◌⊎◌, List, [], ◌∷◌, map, ℤ, pos, neg_ℤ}
use Rattle.c_trim.specs.Residue.{residue_of}
use Rattle.c_trim.specs.Verdict.{Acceptable}
use Rattle.c_trim.specs.declared.Sign.TheVariants.{Plus, Minus}
use Rattle.c_trim.specs.declared.Setting.{Setting}

-- Auxiliary: an error, every setting that is accepted for it, and what each of them leaves.
pub record Case : Type 0 where
  pub error : ℤ
  pub accepted : List Setting
  pub residues : List ℤ

-- Auxiliary: settings, in short.
abbrev pub plus : ℕ → Setting
plus k = record { sign = Plus; code = k }

abbrev pub minus : ℕ → Setting
minus k = record { sign = Minus; code = k }

-- 02, number 9: "error 128 accepts code 0 with either sign and minus 1".
abbrev pub tie : Case
tie =
    record {
      error = pos 128;
      accepted = plus 0 ∷ minus 0 ∷ minus 1 ∷ [];
      residues = pos 128 ∷ pos 128 ∷ neg_ℤ (pos 128) ∷ [];
    }

-- 02, number 9: "error -600 accepts plus 1 alone, leaving -88".
abbrev pub alone : Case
alone = record { error = neg_ℤ (pos 600); accepted = plus 1 ∷ []; residues = neg_ℤ (pos 88) ∷ [] }

abbrev pub cases : List Case
cases = tie ∷ alone ∷ []

-- Auxiliary: a setting is one of a list.
abbrev pub OneOf : Setting → List Setting → Type 0
OneOf s [] = ⊥
OneOf s (t ∷ ts) = (s ≡ t) ⊎ OneOf s ts

-- Of all settings just those of the example are accepted, and they leave what it says.
pub record Holds (c : Case) : Type 0 where
  pub exactly : (s : Setting) → Acceptable c.error s ↔ OneOf s c.accepted
  pub leaving : map (residue_of c.error) c.accepted ≡ c.residues

abbrev pub AllHold : List Case → Type 0
AllHold [] = Unit {0}
AllHold (c ∷ cs) = Holds c × AllHold cs
