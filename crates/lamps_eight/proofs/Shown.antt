-- SPDX-License-Identifier: Apache-2.0
-- A lamp stepped along a log shows what looking back over the log decides.
use Prim.Native.Nat.{ℕ, suc, ◌-◌}
use mathlib.Core.Path.{◌≡◌, refl, sym, ◌∙◌}
use mathlib.Core.Bool.{Bool, false, cond}
use mathlib.Core.List.{List, [], ◌∷◌}
use native.Mathlib.Omega.{arith}
use lib.Dec.{eqb, ltb}
use borrow.Author.Tests.{ltb-true, ltb-false, lt-ltb, le-ltb}
use Rattle.wire.proofs.Tests.{by_test}
use Rattle.lamps_eight.specs.Lit.{Last, nothing, gave, read_in, decided, lit_from}
use Rattle.lamps_eight.specs.Eight.{lamp, lamp_ended, lamp_next}
use Rattle.lamps_eight.specs.declared.Mark.{Mark}
use Rattle.lamps_eight.specs.declared.Mark.TheVariants.{Failed, Ended, Ticked, Gave, Other}
use Rattle.lamps_eight.specs.declared.Lamp.{Lamp}

abbrev held_of : Last → ℕ
held_of nothing = 0
held_of (gave v) = cond (eqb v 1) 1 2

-- what the transaction under way gave, and for how many ticks more the lamp is lit
pub record Shows (at : ℕ) (l : Lamp) (log : List Mark) : Type 0 where
  pub held : l.held ≡ held_of (read_in at log)
  pub left : (t : ℕ) → lit_from at t log ≡ ltb t l.left

never : (t : ℕ) → false ≡ ltb t 0
never t = sym (le-ltb t 0 (omega arith))

earlier : (t n : ℕ) → ltb (suc t) n ≡ ltb t (n - 1)
earlier t n =
    by_test (ltb (suc t) n)
    (λ q. let l = ltb-true (suc t) n q in q ∙ sym (lt-ltb t (n - 1) (omega arith)))
    (λ q. let l = ltb-false (suc t) n q in q ∙ sym (le-ltb t (n - 1) (omega arith)))

-- a Stop, by what the transaction gave
record Stopped (q : Last) (l : Lamp) (older : ℕ → Bool) : Type 0 where
  pub held : (lamp_ended l).held ≡ 0
  pub left : (t : ℕ) → decided q t (older t) ≡ ltb t (lamp_ended l).left

stopped : (q : Last) (l : Lamp) (older : ℕ → Bool) → l.held ≡ held_of q → ((t : ℕ) → older t ≡ ltb t l.left)
    → Stopped q l older
stopped nothing l older e h = record { held = rw e; left = λ t. rw e (h t) }
stopped (gave v) l older e h =
    by_test (eqb v 1)
    (λ q. let f : l.held ≡ 1 = e ∙ rw q in record { held = rw f; left = λ t. rw (f, q) })
    (λ q. let f : l.held ≡ 2 = e ∙ rw q in record { held = rw f; left = λ t. rw (f, q) (never t) })

pub shows_none : (at : ℕ) → Shows at (lamp 0 0) []
unfolding read_in lit_from
shows_none at = record { held = refl; left = never }

pub shows_next : (at : ℕ) (x : Mark) (l : Lamp) (log : List Mark) → Shows at l log → Shows at (lamp_next at x l) (x ∷ log)
unfolding read_in lit_from
shows_next at Failed l log h = record { held = refl; left = never }
shows_next at Ended l log h =
    let s = stopped (read_in at log) l (λ t. lit_from at t log) h.held h.left in
    record { held = s.held; left = s.left }
shows_next at Ticked l log h = record { held = h.held; left = λ t. h.left (suc t) ∙ earlier t l.left }
shows_next at (Gave a v) l log h =
    by_test (eqb a at)
    (λ q. by_test (eqb v 1)
    (λ u. record { held = rw (q, u); left = λ t. rw (q, u) (h.left t) })
    (λ u. record { held = rw (q, u); left = λ t. rw (q, u) (h.left t) }))
    (λ q. record { held = rw q h.held; left = λ t. rw q (h.left t) })
shows_next at Other l log h = record { held = h.held; left = h.left }
