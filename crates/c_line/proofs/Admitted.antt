-- SPDX-License-Identifier: Apache-2.0
-- What the two tests refuse has that refusal's number.
use mathlib.Core.Path.{◌≡◌, ap, ◌∙◌}
use mathlib.Core.Bool.{true, false}
use mathlib.Core.List.{List}
use Prim.Native.Nat.{ℕ}
use lib.Dec.{eqb}
use lib.ListN.{length}
use Rattle.std.specs.Prelude.{Result, Ok, Err}
use Rattle.wire.proofs.Tests.{by_test}
use Rattle.numbers.specs.Numbers.{wrong_memory, wrong_state}
use Rattle.numbers.specs.Refusal.{number_of}
use Rattle.numbers.specs.declared.Refusal.{Refusal}
use Rattle.numbers.specs.declared.Refusal.TheVariants.{WrongMemory, WrongState}
use Rattle.fm3130.specs.Chip.{memory_size}
use Rattle.fm3130_image.specs.Code.Accepting.{is_image}
use Rattle.fm3130_image.proofs.Accepts.{image_not_read}
use Rattle.fm3130_accept.specs.Admitted.{admitted}
use Rattle.c_line.specs.Line.{line_of}

module _ (i m : List ℕ) where
  abbrev ended : Result (Unit {0}) Refusal → ℕ
  ended (Ok _) = line_of i m
  ended (Err e) = number_of e

  memory_refused : eqb (length m) memory_size ≡ false → wrong_memory ≡ line_of i m
  unfolding line_of
  memory_refused t = rw t

  image_refused : eqb (length m) memory_size ≡ true → is_image i ≡ false → wrong_state ≡ line_of i m
  unfolding line_of
  image_refused t u = rw (t, image_not_read i u)

  ends : ended (admitted i m) ≡ line_of i m
  ends =
      by_test (eqb (length m) memory_size)
      (λ t.
      by_test (is_image i) (λ u. let e : admitted i m ≡ Ok tt = rw (t, u) in ap ended e)
      (λ u. let e : admitted i m ≡ Err WrongState = rw (t, u) in ap ended e ∙ image_refused t u))
      (λ t. let e : admitted i m ≡ Err WrongMemory = rw t in ap ended e ∙ memory_refused t)

  pub refused_at_once : (e : Refusal) → Err e ≡ admitted i m → number_of e ≡ line_of i m
  refused_at_once e h = ap ended h ∙ ends
