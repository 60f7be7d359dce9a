-- SPDX-License-Identifier: Apache-2.0
-- 02, number 8: "The bus is freed when an answered call ends whose last Stop, event 5 or event 6 has no Start after it." Of every
-- call, whoever makes it, by its number and its events.
--   Frees, Quiet            an event that frees; one that does not
--   Freed                   one that frees, and no Start after it
--   KeptQuiet, KeptOpen     none that frees; a Start with none after it
--   KeptRefused             a refused call
use Rattle.std.specs.Prelude.{ℕ, ◌≡◌, List, [], ◌∷◌, ◌++◌}
use Rattle.c_masters.specs.Outcome.{call_of}
use Rattle.law_masters.specs.Each.{Each}

pub data Frees : ℕ → Type 0 where
  stop : Frees 1
  lost : Frees 5
  gone : Frees 6

pub record Quiet (e : ℕ) : Type 0 where
  pub stop : e ≡ 1 → ⊥
  pub lost : e ≡ 5 → ⊥
  pub gone : e ≡ 6 → ⊥

abbrev pub Freed : Type 0
Freed =
    (b : List ℕ) (x : ℕ) (i m a before after : List ℕ) (e : ℕ) → Frees e → Each (λ y. y ≡ 0 → ⊥) after
    → (call_of b x i m (before ++ (e ∷ after)) a).run.number ≡ 0 → (call_of b x i m (before ++ (e ∷ after)) a).bus ≡ 0 ∷ []

abbrev pub KeptQuiet : Type 0
KeptQuiet = (b : List ℕ) (x : ℕ) (i m es a : List ℕ) → Each Quiet es → (call_of b x i m es a).bus ≡ b

abbrev pub KeptOpen : Type 0
KeptOpen =
    (b : List ℕ) (x : ℕ) (i m a before after : List ℕ) → Each Quiet after
    → (call_of b x i m (before ++ (0 ∷ after)) a).bus ≡ b

abbrev pub KeptRefused : Type 0
KeptRefused =
    (b : List ℕ) (x : ℕ) (i m es a : List ℕ) → ((call_of b x i m es a).run.number ≡ 0 → ⊥) → (call_of b x i m es a).bus ≡ b
