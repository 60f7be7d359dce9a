-- SPDX-License-Identifier: Apache-2.0
-- A deed after which the device is still on the bus: nothing was late, and no test stands in the way of what it does.
use Prim.Native.Nat.{ℕ}
use mathlib.Core.Path.{◌≡◌, refl, sym, ap, ◌∙◌}
use mathlib.Core.Bool.{Bool, true, false, cond, beq, true≢false}
use mathlib.Core.List.{List, [], ◌∷◌}
use lib.Dec.{eqb, ltb}
use native.Mathlib.Omega.{arith}
use borrow.Author.Tests.{eq-eqb, ne_eqb, eqb-true, eqb-false, ltb-false, le-leb}
use Rattle.pins_levels.proofs.Facts.{by_test}
use Rattle.pins_levels.specs.Look.{Readings, was_high, left, late, unknown, stayed, seen_by, look_of, driven_of, handed_to, hand_of, events_of}
use Rattle.pins_levels.specs.Session.{Part, is_told, Stood, stood, settled_on, settled, saw, told, step}
use Rattle.pins_levels.specs.declared.Seen.{Seen}
use Rattle.pins_levels.specs.declared.Token.{Token}
use Rattle.pins_levels.specs.declared.Due.{Due}

driven_by : (x z c : Bool) (t : Token)
    → (cond x (cond z t (cond c (left t late) t)) t).number ≡ 0 → cond x (cond z t (cond c (left t late) t)) t ≡ t
driven_by false z c t h = refl
driven_by true true c t h = refl
driven_by true false false t h = refl
driven_by true false true t h = absurd (omega arith)

-- SDA was turned in time
pub driven_same : (p : Bool) (t : Token) (c : Readings) → (driven_of p t c).number ≡ 0 → driven_of p t c ≡ t
unfolding driven_of
driven_same p t c h = driven_by (eqb t.number 0) (beq p t.pulling) (was_high c) t h

time_by : (x z c : Bool) (t : Token) → (x ≡ false → t.number ≡ 0 → ⊥)
    → (cond x (cond z t (cond c (left t late) t)) t).number ≡ 0 → z ≡ false → c ≡ false
time_by false z c t n h q = absurd (n refl h)
time_by true true c t n h q = absurd (true≢false q)
time_by true false false t n h q = refl
time_by true false true t n h q = absurd (omega arith)

pub driven_time : (p : Bool) (t : Token) (c : Readings) → (driven_of p t c).number ≡ 0 → beq p t.pulling ≡ false
    → was_high c ≡ false
unfolding driven_of
driven_time p t c h q =
    time_by (eqb t.number 0) (beq p t.pulling) (was_high c) t (λ e. eqb-false t.number 0 e) h q

pub driven_left : (p : Bool) (t : Token) (c : Readings) → (t.number ≡ 0 → ⊥) → driven_of p t c ≡ t
unfolding driven_of
driven_left p t c h = rw (ne_eqb t.number 0 h)

pub look_left : (t : Token) (v : Seen) → (t.number ≡ 0 → ⊥) → look_of t v ≡ stayed t
unfolding look_of
look_left t v h = rw (ne_eqb t.number 0 h)

pub look_on : (t : Token) (v : Seen) → t.number ≡ 0 → look_of t v ≡ seen_by t v
unfolding look_of
look_on t v h = cond_on (eqb t.number 0) (eq-eqb t.number 0 h)
  where
    cond_on : (x : Bool) → x ≡ true → cond x (seen_by t v) (stayed t) ≡ seen_by t v
    cond_on x e = rw e

pub look_number : (t : Token) (v : Seen) → (look_of t v).token.number ≡ 0 → t.number ≡ 0
look_number t v h =
    by_test (eqb t.number 0)
    (λ q. eqb-true t.number 0 q)
    (λ q. sym (ap (λ (d : Due). d.token.number) (look_left t v (eqb-false t.number 0 q))) ∙ h)

-- what may be handed in
pub record HandedOn (t : Token) (e : ℕ) (b : Bool) : Type 0 where
  pub number : t.number ≡ 0
  pub event : is_told e ≡ true
  pub is : hand_of t e b ≡ handed_to t e b

pub hand_left : (t : Token) (e : ℕ) (b : Bool) → (t.number ≡ 0 → ⊥) → hand_of t e b ≡ stayed t
unfolding hand_of
hand_left t e b h = rw (ne_eqb t.number 0 h)

hand_by : (t : Token) (e : ℕ) (b x y z : Bool)
    → (l : Due) → l ≡ cond x (cond y (stayed (left t unknown)) (cond z (stayed (left t unknown)) (handed_to t e b))) (stayed t)
    → x ≡ true → l.token.number ≡ 0 → (y ≡ false) × (z ≡ false) × (l ≡ handed_to t e b)
hand_by t e b true true z l q x h = let n : l.token.number ≡ 3 = ap (λ (d : Due). d.token.number) q in absurd (omega arith)
hand_by t e b true false true l q x h =
    let n : l.token.number ≡ 3 = ap (λ (d : Due). d.token.number) q in absurd (omega arith)
hand_by t e b true false false l q x h = (refl, refl, q)
hand_by t e b false y z l q x h = absurd (mathlib.Core.Bool.false≢true x)

pub hand_on : (t : Token) (e : ℕ) (b : Bool) → (hand_of t e b).token.number ≡ 0 → HandedOn t e b
unfolding hand_of
hand_on t e b h =
    by_test (eqb t.number 0)
    (λ q. let r = hand_by t e b (eqb t.number 0) (ltb e 4) (ltb 7 e) (hand_of t e b) refl q h in
    record {
      number = eqb-true t.number 0 q;
      event =
          let l = ltb-false e 4 r.0 in
          let u = ltb-false 7 e r.1 in
          rw (le-leb 4 e l, le-leb e 7 u);
      is = r.2;
    })
    (λ q. let n : t.number ≡ 0 = sym (ap (λ (d : Due). d.token.number) (hand_left t e b (eqb-false t.number 0 q))) ∙ h in
    absurd (eqb-false t.number 0 q n))

module _ (P : Part) where
  pub settled_on_lem : (t : Token) (es : List ℕ) (s : P.State) → t.number ≡ 0 → settled P t es s ≡ settled_on P t es s
  unfolding settled
  settled_on_lem t es s h = cond_on (eqb t.number 0) (eq-eqb t.number 0 h)
    where
      cond_on : (x : Bool) → x ≡ true → cond x (settled_on P t es s) (stood P t s) ≡ settled_on P t es s
      cond_on x e = rw e

  pub settled_left : (t : Token) (es : List ℕ) (s : P.State) → (t.number ≡ 0 → ⊥) → settled P t es s ≡ stood P t s
  unfolding settled
  settled_left t es s h = rw (ne_eqb t.number 0 h)

  on_number : (t : Token) (es : List ℕ) (s : P.State) → (settled_on P t es s).token.number ≡ t.number
  unfolding settled_on
  on_number t [] s = refl
  on_number t (e ∷ es) s = refl

  pub settled_number : (t : Token) (es : List ℕ) (s : P.State) → (settled P t es s).token.number ≡ t.number
  settled_number t es s =
      by_test (eqb t.number 0)
      (λ q. ap (λ (r : Stood P). r.token.number) (settled_on_lem t es s (eqb-true t.number 0 q)) ∙ on_number t es s)
      (λ q. ap (λ (r : Stood P). r.token.number) (settled_left t es s (eqb-false t.number 0 q)))

  -- a look
  pub record SawOn (o : Stood P) (v : Seen) (a b : Readings) : Type 0 where
    pub before : o.token.number ≡ 0
    pub number : (seen_by o.token v).token.number ≡ 0
    pub at_look : beq o.token.pulling (look_of o.token v).token.pulling ≡ false → was_high a ≡ false
    pub at_events : beq (look_of o.token v).token.pulling (step P o (saw v a b)).token.pulling ≡ false → was_high b ≡ false
    pub is : step P o (saw v a b) ≡ settled_on P (seen_by o.token v).token (events_of (seen_by o.token v)) o.state

  pub saw_on : (o : Stood P) (v : Seen) (a b : Readings) → (step P o (saw v a b)).token.number ≡ 0 → SawOn o v a b
  unfolding step
  saw_on o v a b h =
      let d = look_of o.token v in
      let t : Token = driven_of o.token.pulling d.token a in
      let r : Stood P = settled P t (events_of d) o.state in
      let e₁ : driven_of t.pulling r.token b ≡ r.token = driven_same t.pulling r.token b h in
      let n₁ : r.token.number ≡ 0 = sym (ap (λ (x : Token). x.number) e₁) ∙ h in
      let n₂ : t.number ≡ 0 = sym (settled_number t (events_of d) o.state) ∙ n₁ in
      let e₂ : t ≡ d.token = driven_same o.token.pulling d.token a n₂ in
      let n₃ : d.token.number ≡ 0 = sym (ap (λ (x : Token). x.number) e₂) ∙ n₂ in
      let n₄ : o.token.number ≡ 0 = look_number o.token v n₃ in
      let e₃ : d ≡ seen_by o.token v = look_on o.token v n₄ in
      record {
        before = n₄;
        number = sym (ap (λ (x : Due). x.token.number) e₃) ∙ n₃;
        at_look = λ q. driven_time o.token.pulling d.token a n₂ q;
        at_events =
            λ q. driven_time t.pulling r.token b h
            (ap (λ (x : Token). beq x.pulling r.token.pulling) e₂
            ∙ ap (λ (x : Token). beq d.token.pulling x.pulling) (sym e₁) ∙ q);
        is =
            ap (λ (x : Token). stood P x r.state) e₁
            ∙ ap (λ (x : Token). settled P x (events_of d) o.state) e₂
            ∙ settled_on_lem d.token (events_of d) o.state n₃
            ∙ ap (λ (x : Due). settled_on P x.token (events_of x) o.state) e₃;
      }

  -- a handing in
  pub record ToldOn (o : Stood P) (e : ℕ) (b : Readings) : Type 0 where
    pub before : o.token.number ≡ 0
    pub event : is_told e ≡ true
    pub at_events : beq (hand_of o.token e (P.eighth o.state)).token.pulling (step P o (told e b)).token.pulling ≡ false
        → was_high b ≡ false
    pub handed : hand_of o.token e (P.eighth o.state) ≡ handed_to o.token e (P.eighth o.state)
    pub is : step P o (told e b)
        ≡ settled_on P (handed_to o.token e (P.eighth o.state)).token
        (events_of (handed_to o.token e (P.eighth o.state))) o.state

  pub told_on : (o : Stood P) (e : ℕ) (b : Readings) → (step P o (told e b)).token.number ≡ 0 → ToldOn o e b
  unfolding step
  told_on o e b h =
      let d = hand_of o.token e (P.eighth o.state) in
      let r : Stood P = settled P d.token (events_of d) o.state in
      let e₁ : driven_of d.token.pulling r.token b ≡ r.token = driven_same d.token.pulling r.token b h in
      let n₁ : r.token.number ≡ 0 = sym (ap (λ (x : Token). x.number) e₁) ∙ h in
      let n₃ : d.token.number ≡ 0 = sym (settled_number d.token (events_of d) o.state) ∙ n₁ in
      let g = hand_on o.token e (P.eighth o.state) n₃ in
      record {
        before = g.number;
        event = g.event;
        at_events =
            λ q. driven_time d.token.pulling r.token b h
            (ap (λ (x : Token). beq d.token.pulling x.pulling) (sym e₁) ∙ q);
        handed = g.is;
        is =
            ap (λ (x : Token). stood P x r.state) e₁
            ∙ settled_on_lem d.token (events_of d) o.state n₃
            ∙ ap (λ (x : Due). settled_on P x.token (events_of x) o.state) g.is;
      }
