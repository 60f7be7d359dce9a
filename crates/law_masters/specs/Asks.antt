-- SPDX-License-Identifier: Apache-2.0
-- 02, number 8: "A master asks for the bus. An ask while the other holds it .. is refused with a new number 7 .. and changes nothing."
-- All six asks. The lent byte says who holds the bus: 0 nobody, 1 the rig, 2 the handheld; the two are masters 1 and 2.
use Rattle.std.specs.Prelude.{ℕ, ◌≡◌, [], ◌∷◌}
use Rattle.c_masters.specs.Outcome.{AskOutcome, ask_of}

abbrev pub told : ℕ → ℕ → AskOutcome
told number byte = record { number = number; bus = byte ∷ [] }

pub record EveryAsk : Type 0 where
  pub rig_free : ask_of (0 ∷ []) 1 ≡ told 0 1
  pub rig_again : ask_of (1 ∷ []) 1 ≡ told 0 1
  pub rig_held : ask_of (2 ∷ []) 1 ≡ told 7 2
  pub handheld_free : ask_of (0 ∷ []) 2 ≡ told 0 2
  pub handheld_held : ask_of (1 ∷ []) 2 ≡ told 7 1
  pub handheld_again : ask_of (2 ∷ []) 2 ≡ told 0 2
