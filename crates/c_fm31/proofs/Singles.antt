-- SPDX-License-Identifier: Apache-2.0
-- The ways through the tests of the entry for one event, which are those of the list of that event; and that a byte stored
-- at the front is what is told.
use Prim.Native.Nat.{ℕ, ◌≤◌, ◌<◌}
use mathlib.Core.Path.{◌≡◌, refl}
use mathlib.Core.List.{List, [], ◌∷◌}
use native.Mathlib.Omega.{arith}
use lib.ListN.{length, drop, set}
use borrow.Author.Tests.{le-leb, lt-leb}
use Rattle.numbers.specs.Numbers.{accepted, wrong_memory, wrong_state, unknown_event, short_answers}
use Rattle.bus.specs.Select.{lone}
use Rattle.bus_list.specs.Run.{all_known}
use Rattle.fm31.specs.Chip.{last_event, event_of}
use Rattle.fm31.specs.Step.{state_of}
use Rattle.fm31.specs.Run.{answer_to, run_of}
use Rattle.fm31.specs.declared.State.{State}
use Rattle.fm31_image.specs.Image.{image_of, decode_of}
use Rattle.std.specs.Prelude.{Some, None}
use Rattle.c_fm31.specs.Single.{SingleSettled}
use Rattle.c_fm31.proofs.Runs.{told, outcome_wrong_memory, outcome_wrong_image, outcome_unknown_event}
use Rattle.c_fm31.proofs.Runs.{outcome_short_answers, outcome_written}

module _ (size : ℕ) (i m : List ℕ) (e : ℕ) (t : List ℕ) where
  pub single_wrong_memory : (length m ≡ size → ⊥) → SingleSettled size i m e t wrong_memory i m t
  single_wrong_memory h = told (outcome_wrong_memory size i m (e ∷ []) t h)

  module _ (h : length m ≡ size) where
    pub single_wrong_image : decode_of size lone i ≡ None → SingleSettled size i m e t wrong_state i m t
    single_wrong_image d = told (outcome_wrong_image size i m (e ∷ []) t h d)

    module _ (s : State) (d : decode_of size lone i ≡ Some s) where
      pub single_unknown_event : last_event < e → SingleSettled size i m e t unknown_event i m t
      unfolding all_known
      single_unknown_event l = told (outcome_unknown_event size i m (e ∷ []) t h s d (rw (lt-leb e last_event l)))

      pub single_short : e ≤ last_event → length t < 1 → SingleSettled size i m e t short_answers i m t
      unfolding all_known
      single_short k l = told (outcome_short_answers size i m (e ∷ []) t h s d (rw (le-leb e last_event k)) l)

      pub single_answered : e ≤ last_event → 1 ≤ length t → (let r = event_of size lone s m e in
          SingleSettled size i m e t accepted (image_of (state_of r)) r.memory (answer_to r ∷ drop 1 t))
      unfolding all_known run_of
      single_answered k l = told (outcome_written size i m (e ∷ []) t h s d (rw (le-leb e last_event k)) l)

-- a byte stored at the front
pub front_set : (t : List ℕ) (a : ℕ) → 1 ≤ length t → set t 0 a ≡ a ∷ drop 1 t
front_set [] a h = absurd (omega arith)
front_set (x ∷ t) a h = refl
