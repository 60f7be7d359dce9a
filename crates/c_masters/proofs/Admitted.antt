-- SPDX-License-Identifier: Apache-2.0
-- What the first two tests refuse, a master's call refuses by the same number.
use mathlib.Core.Path.{◌≡◌, refl, sym, ap, ◌∙◌}
use mathlib.Core.List.{List}
use Prim.Native.Nat.{ℕ}
use lib.Dec.{eqb}
use lib.ListN.{length}
use borrow.Author.Tests.{eqb-true, eqb-false}
use Rattle.std.specs.Prelude.{Result, Ok, Err}
use Rattle.wire.proofs.Tests.{by_test}
use Rattle.numbers.specs.Refusal.{number_of}
use Rattle.numbers.specs.declared.Refusal.{Refusal}
use Rattle.fm3130.specs.Chip.{memory_size}
use Rattle.fm3130_image.specs.Code.Accepting.{is_image}
use Rattle.fm3130_image.proofs.Accepts.{image_not_read}
use Rattle.fm3130_accept.specs.Admitted.{admitted}
use Rattle.c_masters.specs.Outcome.{CallOutcome, refused_call, call_of}
use Rattle.c_masters.proofs.Ways.{call_wrong_memory, call_wrong_image}

module _ (b : List ℕ) (x : ℕ) (i m es a : List ℕ) where
  abbrev ended : Result (Unit {0}) Refusal → CallOutcome
  ended (Ok _) = call_of b x i m es a
  ended (Err e) = refused_call (number_of e) b i m a

  ends : ended (admitted i m) ≡ call_of b x i m es a
  ends =
      by_test (eqb (length m) memory_size)
      (λ t.
      by_test (is_image i) (λ u. rw (t, u) refl)
      (λ u. rw (t, u) (sym (call_wrong_image b x i m es a (eqb-true _ _ t) (image_not_read i u)))))
      (λ t. rw t (sym (call_wrong_memory b x i m es a (eqb-false _ _ t))))

  pub refused_at_once : (e : Refusal) → Err e ≡ admitted i m → refused_call (number_of e) b i m a ≡ call_of b x i m es a
  refused_at_once e h = ap ended h ∙ ends
