-- SPDX-License-Identifier: Apache-2.0
-- What the first two tests refuse, the list run refuses by the same number.
use mathlib.Core.Path.{◌≡◌, refl, sym, ap, ◌∙◌}
use mathlib.Core.List.{List}
use Prim.Native.Nat.{ℕ}
use lib.Dec.{eqb}
use lib.ListN.{length}
use borrow.Author.Tests.{eqb-true, eqb-false}
use Rattle.std.specs.Prelude.{Result, Ok, Err}
use Rattle.wire.proofs.Tests.{by_test}
use Rattle.numbers.specs.Refusal.{number_of}
use Rattle.numbers.specs.declared.Refusal.{Refusal}
use Rattle.fm3130.specs.Chip.{memory_size}
use Rattle.fm3130_image.specs.Code.Accepting.{is_image}
use Rattle.fm3130_image.proofs.Accepts.{image_not_read}
use Rattle.fm3130_accept.specs.Admitted.{admitted}
use Rattle.fm3130_list.specs.Run.{Outcome, refused, outcome_of}
use Rattle.fm3130_list.proofs.Runs.{outcome_wrong_memory, outcome_wrong_image}

module _ (i m es a : List ℕ) where
  abbrev ended : Result (Unit {0}) Refusal → Outcome
  ended (Ok _) = outcome_of i m es a
  ended (Err e) = refused (number_of e) i m a

  ends : ended (admitted i m) ≡ outcome_of i m es a
  ends =
      by_test (eqb (length m) memory_size)
      (λ t.
      by_test (is_image i) (λ u. rw (t, u) refl)
      (λ u. rw (t, u) (sym (outcome_wrong_image i m es a (eqb-true _ _ t) (image_not_read i u)))))
      (λ t. rw t (sym (outcome_wrong_memory i m es a (eqb-false _ _ t))))

  pub refused_at_once : (e : Refusal) → Err e ≡ admitted i m → refused (number_of e) i m a ≡ outcome_of i m es a
  refused_at_once e h = ap ended h ∙ ends
