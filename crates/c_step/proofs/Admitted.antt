-- SPDX-License-Identifier: Apache-2.0
-- What the first two tests refuse, the entry refuses by the same number.
use mathlib.Core.Path.{◌≡◌, refl, sym, ap, ◌∙◌}
use mathlib.Core.List.{List}
use Prim.Native.Nat.{ℕ}
use lib.Dec.{eqb}
use lib.ListN.{length}
use borrow.Author.Tests.{eqb-true, eqb-false}
use Rattle.std.specs.Prelude.{Result, Ok, Err}
use Rattle.wire.proofs.Tests.{by_test}
use Rattle.numbers.specs.Refusal.{number_of}
use Rattle.numbers.specs.declared.Refusal.{Refusal}
use Rattle.fm3130.specs.Chip.{memory_size}
use Rattle.fm3130_image.specs.Code.Accepting.{is_image}
use Rattle.fm3130_image.proofs.Accepts.{image_not_read}
use Rattle.fm3130_accept.specs.Admitted.{admitted}
use Rattle.c_step.specs.Single.{Outcome, refused, single_of}
use Rattle.c_step.proofs.Ways.{single_wrong_memory, single_wrong_image}

module _ (i m : List ℕ) (e : ℕ) (t : List ℕ) where
  abbrev ended : Result (Unit {0}) Refusal → Outcome
  ended (Ok _) = single_of i m e t
  ended (Err r) = refused (number_of r) i m t

  ends : ended (admitted i m) ≡ single_of i m e t
  ends =
      by_test (eqb (length m) memory_size)
      (λ k.
      by_test (is_image i) (λ u. rw (k, u) refl)
      (λ u. rw (k, u) (sym (single_wrong_image i m e t (eqb-true _ _ k) (image_not_read i u)))))
      (λ k. rw k (sym (single_wrong_memory i m e t (eqb-false _ _ k))))

  pub refused_at_once : (r : Refusal) → Err r ≡ admitted i m → refused (number_of r) i m t ≡ single_of i m e t
  refused_at_once r h = ap ended h ∙ ends
