-- SPDX-License-Identifier: Apache-2.0
-- What is shown of every session.
use Prim.Native.Nat.{ℕ}
use mathlib.Core.Path.{◌≡◌, refl, sym, ap, subst, ◌∙◌}
use mathlib.Core.Bool.{Bool, true, false, cond, beq, true≢false, false≢true}
use mathlib.Core.List.{List, [], ◌∷◌, ◌++◌, append-nil}
use lib.Dec.{eqb, ltb}
use lib.ListN.{length, length-append}
use borrow.Author.Tests.{eqb-true, eqb-false, ne_eqb}
use native.Mathlib.Omega.{arith}
use Rattle.pins_levels.proofs.Facts.{by_test, if_true, if_false}
use Rattle.pins_levels.proofs.Runs.{merge_append, all_handed}
use Rattle.pins_levels.proofs.Steps.{saw_on, told_on, driven_same, driven_time, driven_left, look_left, look_on, settled_left, settled_number}
use Rattle.pins_levels.proofs.Stands.{standing, UpTo, AtLow, AtHigh, is_open, is_shut, is_taken, Stands, stands_saw, stands_told, known_clock, known_turn, none_right}
use Rattle.pins_levels.specs.Wave.{steady, clock_of, turn_of, happened, spelt}
use Rattle.pins_levels.specs.Look.{Readings, was_high, none, left, late, stayed, first_of, seen_by, fallen, risen, turned, look_of, driven_of, handed_to, hand_of, outlasted, known, events_of}
use Rattle.pins_levels.specs.Session.{Part, ran, Lawful, Stood, stood, asked, settled_on, settled, Merged, neither, on_bus}
use Rattle.pins_levels.specs.Session.{Deed, saw, told, seen_in, handed_in, begun, step, session, under_way, Account}
use Rattle.pins_levels.specs.Session.{Faithful, Driven, Opens, Early, AtFall, AtTurn, Still, StillTold, InTimeFirst, InTimeSeen, InTime, InTimeTold, Answers, Stays, LetGo, Shown}
use Rattle.pins_levels.specs.declared.Seen.{Seen}
use Rattle.pins_levels.specs.declared.Seen.TheVariants.{Low, Fell, High}
use Rattle.pins_levels.specs.declared.Token.{Token}
use Rattle.pins_levels.specs.declared.Due.{Due}

module _ (P : Part) where
  -- the first look
  begun_stands : (s : P.State) (v : Seen) (o : Stood P) → o ≡ stood P (asked P (first_of v) s) s → Stands P s (v ∷ []) [] o
  unfolding ran spelt happened steady
  begun_stands s Low o e =
      subst (λ (r : Stood P). AtLow P s (Low ∷ []) [] r) (sym e)
      (record { sda = false; token = refl; up_to = record { done = []; state = refl; merged = neither } })
  begun_stands s Fell o e =
      subst (λ (r : Stood P). AtLow P s (Fell ∷ []) [] r) (sym e)
      (record { sda = false; token = refl; up_to = record { done = []; state = refl; merged = neither } })
  begun_stands s (High d) o e =
      subst (λ (r : Stood P). AtHigh P s d [] [] r) (sym e)
      (is_shut false refl refl (record { done = []; state = refl; merged = neither }))

  module _ (L : Lawful P) (s : P.State) (v : Seen) (c : Readings) where
    pub stands : (ds : List Deed) → (session P s v c ds).token.number ≡ 0
        → Stands P s (seen_in v ds) (handed_in ds) (session P s v c ds)
    unfolding session begun
    stands [] h =
        begun_stands s v (session P s v c [])
        (ap (λ (t : Token). stood P t s) (driven_same false (asked P (first_of v) s) c h))
    stands (saw x a b ∷ ds) h =
        let g = saw_on P (session P s v c ds) x a b h in
        stands_saw P s L (seen_in v ds) (handed_in ds) (session P s v c ds) x a b (stands ds g.before) g
    stands (told e b ∷ ds) h =
        let g = told_on P (session P s v c ds) e b h in
        stands_told P s (seen_in v ds) (handed_in ds) (session P s v c ds) e b (stands ds g.before) g

  -- the account of where it stands
  nothing_waits : (x : ℕ) (hs : List ℕ) → x ≡ none → hs ≡ hs ++ known x
  unfolding known
  nothing_waits x hs e = sym (append-nil hs) ∙ ap (λ (y : ℕ). hs ++ known y) (sym e)

  full : (s : P.State) (w : List Seen) (hs : List ℕ) (o : Stood P) → UpTo P s w hs o.state → o.token.waiting ≡ none
      → Account P s w hs o
  full s w hs o a e =
      record {
        done = a.done;
        ticks = hs;
        is_early = false;
        state = a.state;
        merged = subst (λ (l : List ℕ). Merged a.done l hs) (sym (append-nil (spelt w))) a.merged;
        waits = nothing_waits o.token.waiting hs e;
        at_rest = λ p. refl;
        lasted = λ h. absurd (false≢true h);
      }

  account_high : (s : P.State) (d : Bool) (w : List Seen) (hs : List ℕ) (o : Stood P) → AtHigh P s d w hs o
      → Account P s (High d ∷ w) hs o
  unfolding under_way
  account_high s d w hs o (is_open p x ts k l t a q) =
      record {
        done = a.done;
        ticks = ts;
        is_early = false;
        state = a.state;
        merged = subst (λ (m : List ℕ). Merged a.done m ts) (sym (append-nil (spelt (High d ∷ w)))) a.merged;
        waits = q ∙ ap (λ (y : Token). ts ++ known y.waiting) (sym t);
        at_rest = λ y. absurd (true≢false (sym (ap (λ (z : Token). z.pulse) t) ∙ y));
        lasted = λ h. absurd (false≢true h);
      }
  account_high s d w hs o (is_shut p k t a) = full s (High d ∷ w) hs o a (ap (λ (y : Token). y.waiting) t)
  account_high s d w hs o (is_taken p es ts us k t m i l g n j) =
      record {
        done = es ++ (clock_of d ∷ us);
        ticks = ts ++ us;
        is_early = true;
        state = i;
        merged =
            subst (λ (y : List ℕ). Merged (es ++ (clock_of d ∷ us)) (spelt (High d ∷ w) ++ y) (ts ++ us))
            (sym (ap (λ (b : Bool). cond b (clock_of d ∷ []) []) k)) (merge_append m (on_bus (clock_of d) (all_handed us)));
        waits =
            n ∙ nothing_waits o.token.waiting (ts ++ us) (ap (λ (y : Token). y.waiting) t);
        at_rest = λ y. n;
        lasted = λ h. let y = length-append ts us in let z = ap length n in omega arith;
      }

  account : (s : P.State) (w : List Seen) (hs : List ℕ) (o : Stood P) → Stands P s w hs o → Account P s w hs o
  account s [] hs o z = absurd z
  account s (Low ∷ w) hs o z = full s (Low ∷ w) hs o z.up_to (ap (λ (y : Token). y.waiting) z.token)
  account s (Fell ∷ w) hs o z = full s (Fell ∷ w) hs o z.up_to (ap (λ (y : Token). y.waiting) z.token)
  account s (High d ∷ w) hs o z = account_high s d w hs o z

  pub faithful : Lawful P → Faithful P
  faithful L s v c ds h = account s (seen_in v ds) (handed_in ds) (session P s v c ds) (stands L s v c ds h)

  -- SDA while SCL is low
  high_scl : (s : P.State) (d : Bool) (w : List Seen) (hs : List ℕ) (o : Stood P) → AtHigh P s d w hs o → o.token.scl ≡ true
  high_scl s d w hs o (is_open p x ts k l t a q) = ap (λ (y : Token). y.scl) t
  high_scl s d w hs o (is_shut p k t a) = ap (λ (y : Token). y.scl) t
  high_scl s d w hs o (is_taken p es ts us k t m i l g n j) = ap (λ (y : Token). y.scl) t

  low_driven : (s : P.State) (w : List Seen) (hs : List ℕ) (o : Stood P) → Stands P s w hs o → o.token.scl ≡ false
      → o.token.pulling ≡ P.pulls o.state
  low_driven s [] hs o z c = absurd z
  low_driven s (Low ∷ w) hs o z c = ap (λ (y : Token). y.pulling) z.token
  low_driven s (Fell ∷ w) hs o z c = ap (λ (y : Token). y.pulling) z.token
  low_driven s (High d ∷ w) hs o z c = absurd (true≢false (sym (high_scl s d w hs o z) ∙ c))

  pub driven : Lawful P → Driven P
  driven L s v c ds h q = low_driven s (seen_in v ds) (handed_in ds) (session P s v c ds) (stands L s v c ds h) q

  -- a pulse opens
  pub opens : Opens P
  unfolding settled_on known
  opens o d a b c h =
      let g = saw_on P o (High d) a b h in
      let e = ap (λ (y : Due). settled_on P y.token (events_of y) o.state) (if_false o.token.scl _ (risen o.token d) c) in
      let is : step P o (saw (High d) a b) ≡ stood P (risen o.token d).token o.state = g.is ∙ e in (
        ap (λ (r : Stood P). r.token.pulse) is,
        ap (λ (r : Stood P). r.token.sda) is,
        ap (λ (r : Stood P). r.token.pulling) is,
        ap (λ (r : Stood P). r.state) is,
      )

  -- SDA at a fall
  early_open : (d p : Bool) (x : ℕ) (u : P.State)
      → (look_of (standing P true d true p x u) Low).token.pulling ≡ P.pulls (P.event u (clock_of d))
  unfolding look_of
  early_open true p x u = refl
  early_open false p x u = refl

  early_by : (t : Token) (d p : Bool) (x : ℕ) (u : P.State) → t ≡ standing P true d true p x u
      → (look_of t Low).token.pulling ≡ P.pulls (P.event u (clock_of t.sda))
  early_by t d p x u e =
      subst (λ (y : Token). (look_of y Low).token.pulling ≡ P.pulls (P.event u (clock_of y.sda))) (sym e) (early_open d p x u)

  high_early : (s : P.State) (d : Bool) (w : List Seen) (hs : List ℕ) (o : Stood P) → AtHigh P s d w hs o
      → o.token.pulse ≡ true
      → (look_of o.token Low).token.pulling ≡ P.pulls (P.event o.state (clock_of o.token.sda))
  high_early s d w hs o (is_open p x ts k l t a q) c = early_by o.token d p x o.state t
  high_early s d w hs o (is_shut p k t a) c = absurd (false≢true (sym (ap (λ (y : Token). y.pulse) t) ∙ c))
  high_early s d w hs o (is_taken p es ts us k t m i l g n j) c = absurd (false≢true (sym (ap (λ (y : Token). y.pulse) t) ∙ c))

  stands_early : (s : P.State) (w : List Seen) (hs : List ℕ) (o : Stood P) → Stands P s w hs o → o.token.pulse ≡ true
      → (look_of o.token Low).token.pulling ≡ P.pulls (P.event o.state (clock_of o.token.sda))
  stands_early s [] hs o z c = absurd z
  stands_early s (Low ∷ w) hs o z c = absurd (false≢true (sym (ap (λ (y : Token). y.pulse) z.token) ∙ c))
  stands_early s (Fell ∷ w) hs o z c = absurd (false≢true (sym (ap (λ (y : Token). y.pulse) z.token) ∙ c))
  stands_early s (High d ∷ w) hs o z c = high_early s d w hs o z c

  pub early : Lawful P → Early P
  early L s v c ds h q = stands_early s (seen_in v ds) (handed_in ds) (session P s v c ds) (stands L s v c ds h) q

  -- what waited, at the end of a pulse
  settled_state : (t : Token) (es : List ℕ) (u : P.State) → (settled_on P t es u).state ≡ ran P u es
  unfolding settled_on ran
  settled_state t [] u = refl
  settled_state t (e ∷ es) u = refl

  by_due : (o : Stood P) (d e : Due) (es : List ℕ) → d ≡ e → events_of e ≡ es
      → (settled_on P d.token (events_of d) o.state).state ≡ ran P o.state es
  by_due o d e es p q =
      settled_state d.token (events_of d) o.state
      ∙ ap (λ (x : Due). ran P o.state (events_of x)) p ∙ ap (ran P o.state) q

  pub at_fall_lem : AtFall P
  at_fall_lem o a b c q h =
      let g = saw_on P o Low a b h in
      let t = o.token in
      ap (λ (r : Stood P). r.state) g.is
      ∙ by_due o (seen_by t Low) _ (clock_of t.sda ∷ known t.waiting)
      (if_true t.scl (fallen t) (stayed t) c ∙ if_true t.pulse _ _ q)
      (ap (λ (l : List ℕ). l ++ (known t.waiting ++ known none)) (known_clock t.sda)
      ∙ ap (λ (l : List ℕ). clock_of t.sda ∷ l) (none_right (known t.waiting)))

  pub at_turn_lem : AtTurn P
  at_turn_lem o d a b c q h =
      let g = saw_on P o (High d) a b h in
      let t = o.token in
      ap (λ (r : Stood P). r.state) g.is
      ∙ by_due o (seen_by t (High d)) (turned t d) (known t.waiting ++ (turn_of d ∷ []))
      (if_true t.scl _ _ c ∙ if_false (beq t.sda d) _ _ q)
      (ap (λ (l : List ℕ). known t.waiting ++ l) (none_right (known (turn_of d)) ∙ known_turn d))

  -- SDA while SCL is high
  settled_still : (t : Token) (es : List ℕ) (u : P.State) → t.scl ≡ true → (settled_on P t es u).token.pulling ≡ t.pulling
  unfolding settled_on
  settled_still t [] u h = refl
  settled_still t (e ∷ es) u h = if_true t.scl _ _ h

  record Same (t : Token) (d : Due) : Type 0 where
    scl : d.token.scl ≡ true
    pulling : d.token.pulling ≡ t.pulling

  high_same : (t : Token) (d : Bool) → Same t (seen_by t (High d))
  high_same t d =
      by_test t.scl
      (λ h. by_test (beq t.sda d)
      (λ q. subst (Same t) (sym (if_true t.scl _ _ h ∙ if_true (beq t.sda d) _ _ q)) (record { scl = h; pulling = refl }))
      (λ q. subst (Same t) (sym (if_true t.scl _ _ h ∙ if_false (beq t.sda d) _ _ q)) (record { scl = refl; pulling = refl })))
      (λ h. subst (Same t) (sym (if_false t.scl _ _ h)) (record { scl = refl; pulling = refl }))

  pub still : Still P
  still o d a b h =
      let g = saw_on P o (High d) a b h in
      let m = high_same o.token d in
      ap (λ (r : Stood P). r.token.pulling) g.is
      ∙ settled_still (seen_by o.token (High d)).token (events_of (seen_by o.token (High d))) o.state m.scl
      ∙ m.pulling

  told_same : (t : Token) (e : ℕ) (b : Bool) → t.scl ≡ true → Same t (handed_to t e b)
  told_same t e b c =
      by_test t.pulse
      (λ h. by_test (ltb 7 t.waiting)
      (λ q. subst (Same t) (sym (if_true t.pulse _ _ h ∙ if_true (ltb 7 t.waiting) _ _ q)) (record { scl = c; pulling = refl }))
      (λ q. subst (Same t) (sym (if_true t.pulse _ _ h ∙ if_false (ltb 7 t.waiting) _ _ q)) (by b)))
      (λ h. subst (Same t) (sym (if_false t.pulse _ _ h)) (record { scl = c; pulling = refl }))
    where
      by : (x : Bool) → Same t (outlasted t e x)
      by true = record { scl = c; pulling = refl }
      by false = record { scl = c; pulling = refl }

  pub still_told_lem : StillTold P
  still_told_lem o e b c h =
      let g = told_on P o e b h in
      let m = told_same o.token e (P.eighth o.state) c in
      ap (λ (r : Stood P). r.token.pulling) g.is
      ∙ settled_still (handed_to o.token e (P.eighth o.state)).token
      (events_of (handed_to o.token e (P.eighth o.state))) o.state m.scl
      ∙ m.pulling

  -- SDA is turned in time
  pub in_time_first_lem : InTimeFirst P
  unfolding begun
  in_time_first_lem s v c h q =
      let t : Token = asked P (first_of v) s in
      let e = driven_same false t c h in
      driven_time false t c h
      (ap (λ (b : Bool). beq false b) (sym (ap (λ (x : Token). x.pulling) e) ∙ q))

  pub in_time_seen_lem : InTimeSeen P
  in_time_seen_lem o v a b h q = (saw_on P o v a b h).at_look q

  pub in_time_lem : InTime P
  in_time_lem o v a b h q = (saw_on P o v a b h).at_events q

  handed_pulling : (t : Token) (e : ℕ) (b : Bool) → (handed_to t e b).token.pulling ≡ t.pulling
  handed_pulling t e b =
      by_test t.pulse
      (λ h. by_test (ltb 7 t.waiting)
      (λ q. ap (λ (d : Due). d.token.pulling) (if_true t.pulse _ _ h ∙ if_true (ltb 7 t.waiting) _ _ q))
      (λ q. ap (λ (d : Due). d.token.pulling) (if_true t.pulse _ _ h ∙ if_false (ltb 7 t.waiting) _ _ q) ∙ by b))
      (λ h. ap (λ (d : Due). d.token.pulling) (if_false t.pulse _ _ h))
    where
      by : (x : Bool) → (outlasted t e x).token.pulling ≡ t.pulling
      by true = refl
      by false = refl

  pub in_time_told_lem : InTimeTold P
  in_time_told_lem o e b h q =
      let g = told_on P o e b h in
      g.at_events
      (ap (λ (x : Bool). beq x (step P o (told e b)).token.pulling)
      (ap (λ (d : Due). d.token.pulling) g.handed ∙ handed_pulling o.token e (P.eighth o.state)) ∙ q)

  -- what the part answers
  stands_answers : (s : P.State) (w : List Seen) (hs : List ℕ) (o : Stood P) → Stands P s w hs o
      → o.token.answer ≡ P.answer o.state
  stands_answers s [] hs o z = absurd z
  stands_answers s (Low ∷ w) hs o z = ap (λ (y : Token). y.answer) z.token
  stands_answers s (Fell ∷ w) hs o z = ap (λ (y : Token). y.answer) z.token
  stands_answers s (High d ∷ w) hs o (is_open p x ts k l t a q) = ap (λ (y : Token). y.answer) t
  stands_answers s (High d ∷ w) hs o (is_shut p k t a) = ap (λ (y : Token). y.answer) t
  stands_answers s (High d ∷ w) hs o (is_taken p es ts us k t m i l g n j) = ap (λ (y : Token). y.answer) t

  pub answers : Lawful P → Answers P
  answers L s v c ds h = stands_answers s (seen_in v ds) (handed_in ds) (session P s v c ds) (stands L s v c ds h)

  -- after it has left the bus
  hand_left : (t : Token) (e : ℕ) (b : Bool) → (t.number ≡ 0 → ⊥) → hand_of t e b ≡ stayed t
  unfolding hand_of
  hand_left t e b h = rw (ne_eqb t.number 0 h)

  pub stays : Stays P
  unfolding step
  stays o (saw v a b) h =
      let t = o.token in
      let s = o.state in
      let es = events_of (stayed t) in
      ap (λ (d : Due). stood P
      (driven_of (driven_of t.pulling d.token a).pulling
      (settled P (driven_of t.pulling d.token a) (events_of d) s).token b)
      (settled P (driven_of t.pulling d.token a) (events_of d) s).state) (look_left t v h)
      ∙ ap (λ (x : Token). stood P (driven_of x.pulling (settled P x es s).token b) (settled P x es s).state)
      (driven_left t.pulling t a h)
      ∙ ap (λ (r : Stood P). stood P (driven_of t.pulling r.token b) r.state) (settled_left P t es s h)
      ∙ ap (λ (x : Token). stood P x s) (driven_left t.pulling t b h)
  stays o (told e b) h =
      let t = o.token in
      let s = o.state in
      let es = events_of (stayed t) in
      ap (λ (d : Due). stood P (driven_of d.token.pulling (settled P d.token (events_of d) s).token b)
      (settled P d.token (events_of d) s).state) (hand_left t e (P.eighth s) h)
      ∙ ap (λ (r : Stood P). stood P (driven_of t.pulling r.token b) r.state) (settled_left P t es s h)
      ∙ ap (λ (x : Token). stood P x s) (driven_left t.pulling t b h)

  -- SDA is let go with the bus
  abbrev Go : Token → Type 0
  Go t = (t.number ≡ 0 → ⊥) → t.pulling ≡ false

  driven_go : (p : Bool) (t : Token) (c : Readings) → Go t → Go (driven_of p t c)
  unfolding driven_of
  driven_go p t c g = by (eqb t.number 0) (beq p t.pulling) (was_high c)
    where
      by : (x y z : Bool) → Go (cond x (cond y t (cond z (left t late) t)) t)
      by false y z = g
      by true true z = g
      by true false false = g
      by true false true = λ h. refl

  -- a token that is still on the bus, or has let go
  on_go : (t : Token) (d : Due) → t.number ≡ 0 → d.token.number ≡ t.number → Go d.token
  on_go t d h e = λ n. absurd (n (e ∙ h))

  fallen_number : (t : Token) → (fallen t).token.number ≡ t.number
  fallen_number t = by t.pulse refl
    where
      by : (x : Bool) → t.pulse ≡ x → (fallen t).token.number ≡ t.number
      by true h = ap (λ (d : Due). d.token.number) (if_true t.pulse _ _ h)
      by false h = ap (λ (d : Due). d.token.number) (if_false t.pulse _ _ h)

  seen_go : (t : Token) (v : Seen) → t.number ≡ 0 → Go (seen_by t v).token
  seen_go t Low n =
      by_test t.scl
      (λ h. subst (λ (d : Due). Go d.token) (sym (if_true t.scl _ _ h)) (on_go t (fallen t) n (fallen_number t)))
      (λ h. subst (λ (d : Due). Go d.token) (sym (if_false t.scl _ _ h)) (on_go t (stayed t) n refl))
  seen_go t Fell n =
      by_test t.scl
      (λ h. subst (λ (d : Due). Go d.token) (sym (if_true t.scl _ _ h)) (on_go t (fallen t) n (fallen_number t)))
      (λ h. subst (λ (d : Due). Go d.token) (sym (if_false t.scl _ _ h)) (λ x. refl))
  seen_go t (High d) n =
      by_test t.scl
      (λ h. by_test (beq t.sda d)
      (λ q. subst (λ (y : Due). Go y.token) (sym (if_true t.scl _ _ h ∙ if_true (beq t.sda d) _ _ q)) (on_go t (stayed t) n refl))
      (λ q. subst (λ (y : Due). Go y.token) (sym (if_true t.scl _ _ h ∙ if_false (beq t.sda d) _ _ q)) (on_go t (turned t d) n refl)))
      (λ h. subst (λ (y : Due). Go y.token) (sym (if_false t.scl _ _ h)) (on_go t (risen t d) n refl))

  look_go : (t : Token) (v : Seen) → Go t → Go (look_of t v).token
  look_go t v g =
      by_test (eqb t.number 0)
      (λ q. let n = eqb-true t.number 0 q in subst (λ (d : Due). Go d.token) (sym (look_on t v n)) (seen_go t v n))
      (λ q. subst (λ (d : Due). Go d.token) (sym (look_left t v (eqb-false t.number 0 q))) g)

  handed_number : (t : Token) (e : ℕ) (b : Bool) → (handed_to t e b).token.number ≡ t.number
  handed_number t e b =
      by_test t.pulse
      (λ h. by_test (ltb 7 t.waiting)
      (λ q. ap (λ (d : Due). d.token.number) (if_true t.pulse _ _ h ∙ if_true (ltb 7 t.waiting) _ _ q))
      (λ q. ap (λ (d : Due). d.token.number) (if_true t.pulse _ _ h ∙ if_false (ltb 7 t.waiting) _ _ q) ∙ by b))
      (λ h. ap (λ (d : Due). d.token.number) (if_false t.pulse _ _ h))
    where
      by : (x : Bool) → (outlasted t e x).token.number ≡ t.number
      by true = refl
      by false = refl

  hand_go : (t : Token) (e : ℕ) (b : Bool) → Go t → Go (hand_of t e b).token
  unfolding hand_of
  hand_go t e b g =
      by_test (eqb t.number 0)
      (λ q. let n = eqb-true t.number 0 q in
      subst (λ (d : Due). Go d.token) (sym (if_true (eqb t.number 0) _ (stayed t) q)) (by n (ltb e 4) (ltb 7 e)))
      (λ q. subst (λ (d : Due). Go d.token) (sym (if_false (eqb t.number 0) _ (stayed t) q)) g)
    where
      by : t.number ≡ 0 → (x y : Bool) → Go (cond x (stayed (left t 3)) (cond y (stayed (left t 3)) (handed_to t e b))).token
      by n true y = λ h. refl
      by n false true = λ h. refl
      by n false false = on_go t (handed_to t e b) n (handed_number t e b)

  settled_go : (t : Token) (es : List ℕ) (u : P.State) → Go t → Go (settled P t es u).token
  settled_go t es u g =
      by_test (eqb t.number 0)
      (λ q. let n = eqb-true t.number 0 q in λ h. absurd (h (settled_number P t es u ∙ n)))
      (λ q. subst (λ (r : Stood P). Go r.token) (sym (settled_left P t es u (eqb-false t.number 0 q))) g)

  step_go : (o : Stood P) (k : Deed) → Go o.token → Go (step P o k).token
  unfolding step
  step_go o (saw v a b) g =
      let t = driven_of o.token.pulling (look_of o.token v).token a in
      driven_go t.pulling _ b
      (settled_go t (events_of (look_of o.token v)) o.state
      (driven_go o.token.pulling (look_of o.token v).token a (look_go o.token v g)))
  step_go o (told e b) g =
      driven_go (hand_of o.token e (P.eighth o.state)).token.pulling _ b
      (settled_go (hand_of o.token e (P.eighth o.state)).token (events_of (hand_of o.token e (P.eighth o.state)))
      o.state (hand_go o.token e (P.eighth o.state) g))

  first_go : (s : P.State) (v : Seen) → Go (asked P (first_of v) s)
  first_go s Low = λ h. absurd (h refl)
  first_go s Fell = λ h. absurd (h refl)
  first_go s (High d) = λ h. absurd (h refl)

  pub let_go_lem : LetGo P
  unfolding session begun
  let_go_lem s v c [] = driven_go false (asked P (first_of v) s) c (first_go s v)
  let_go_lem s v c (k ∷ ds) = step_go (session P s v c ds) k (let_go_lem s v c ds)

  pub shown : Lawful P → Shown P
  shown L =
      record {
        faithful = faithful L;
        driven = driven L;
        opens = opens;
        early = early L;
        at_fall = at_fall_lem;
        at_turn = at_turn_lem;
        still = still;
        still_told = still_told_lem;
        in_time_first = in_time_first_lem;
        in_time_seen = in_time_seen_lem;
        in_time = in_time_lem;
        in_time_told = in_time_told_lem;
        answers = answers L;
        stays = stays;
        let_go = let_go_lem;
      }
