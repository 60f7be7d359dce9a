-- SPDX-License-Identifier: Apache-2.0
-- A look that sees nothing new changes nothing.
use mathlib.Core.Path.{◌≡◌, refl, sym, ap, ◌∙◌}
use mathlib.Core.Bool.{Bool, true, false, beq}
use native.Mathlib.Omega.{arith}
use lib.Dec.{eqb}
use borrow.Author.Tests.{eqb-true, eqb-false}
use Rattle.pins_levels.proofs.Facts.{by_test, beq_is, if_true, if_false}
use Rattle.pins_levels.proofs.Steps.{look_left, look_on, look_number}
use Rattle.pins_levels.specs.Look.{left, late, stayed, first_of, fallen, seen_by, look_of}
use Rattle.pins_levels.specs.Session.{leaves, left_by, SeenAgain}
use Rattle.pins_levels.specs.declared.Seen.{Seen}
use Rattle.pins_levels.specs.declared.Seen.TheVariants.{Low, Fell, High}
use Rattle.pins_levels.specs.declared.Token.{Token}
use Rattle.pins_levels.specs.declared.Due.{Due}

beq_self : (b : Bool) → beq b b ≡ true
beq_self true = refl
beq_self false = refl

seen_same : (t : Token) → seen_by t (left_by t) ≡ stayed t
seen_same t =
    by_test t.scl
    (λ h. ap (seen_by t) (if_true t.scl (High t.sda) Low h) ∙ if_true t.scl _ _ h
    ∙ if_true (beq t.sda t.sda) _ _ (beq_self t.sda))
    (λ h. ap (seen_by t) (if_false t.scl (High t.sda) Low h) ∙ if_false t.scl _ _ h)

seen_again : (t : Token) → look_of t (left_by t) ≡ stayed t
seen_again t =
    by_test (eqb t.number 0)
    (λ q. look_on t (left_by t) (eqb-true t.number 0 q) ∙ seen_same t)
    (λ q. look_left t (left_by t) (eqb-false t.number 0 q))

first_left : (v : Seen) → left_by (first_of v) ≡ leaves v
first_left Low = refl
first_left Fell = refl
first_left (High d) = refl

-- SCL has fallen, whatever the pulse was
fallen_left : (t : Token) → left_by (fallen t).token ≡ Low
fallen_left t =
    by_test t.pulse
    (λ h. ap (λ (d : Due). left_by d.token) (if_true t.pulse _ _ h))
    (λ h. ap (λ (d : Due). left_by d.token) (if_false t.pulse _ _ h))

seen_left : (t : Token) (v : Seen) → (seen_by t v).token.number ≡ 0 → left_by (seen_by t v).token ≡ leaves v
seen_left t Low n =
    by_test t.scl
    (λ h. ap (λ (d : Due). left_by d.token) (if_true t.scl _ _ h) ∙ fallen_left t)
    (λ h. ap (λ (d : Due). left_by d.token) (if_false t.scl _ _ h) ∙ if_false t.scl _ _ h)
seen_left t Fell n =
    by_test t.scl
    (λ h. ap (λ (d : Due). left_by d.token) (if_true t.scl _ _ h) ∙ fallen_left t)
    (λ h. absurd (let z = sym (ap (λ (d : Due). d.token.number) (if_false t.scl (fallen t) (stayed (left t late)) h)) ∙ n in omega arith))
seen_left t (High d) n =
    by_test t.scl
    (λ h. by_test (beq t.sda d)
    (λ q. ap (λ (x : Due). left_by x.token) (if_true t.scl _ _ h ∙ if_true (beq t.sda d) _ _ q)
    ∙ if_true t.scl _ _ h ∙ ap High (beq_is t.sda d q))
    (λ q. ap (λ (x : Due). left_by x.token) (if_true t.scl _ _ h ∙ if_false (beq t.sda d) _ _ q)))
    (λ h. ap (λ (x : Due). left_by x.token) (if_false t.scl _ _ h))

pub seen_nothing_new : SeenAgain
seen_nothing_new =
    record {
      again = seen_again;
      first = first_left;
      after =
          λ t v n. let e = look_on t v (look_number t v n) in
          ap (λ (d : Due). left_by d.token) e ∙ seen_left t v (sym (ap (λ (d : Due). d.token.number) e) ∙ n);
    }
