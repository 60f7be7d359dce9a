-- SPDX-License-Identifier: Apache-2.0
-- Where a session stands, by what the last look saw; and that every deed keeps it.
use Prim.Native.Nat.{ℕ, ◌≤◌}
use mathlib.Core.Path.{◌≡◌, refl, sym, ap, subst, ◌∙◌}
use mathlib.Core.Bool.{Bool, true, false, cond, ◌&&◌, beq, true≢false}
use mathlib.Core.List.{List, [], ◌∷◌, ◌++◌, append_assoc, append-nil}
use native.Mathlib.Omega.{arith}
use lib.Dec.{ltb, leb}
use lib.ListN.{length, length-append}
use borrow.Author.Tests.{le-ltb, leb-true}
use Rattle.pins_levels.proofs.Facts.{by_test, and_both, beq_is, if_true, if_false}
use Rattle.pins_levels.proofs.Runs.{ran_append, settled_some, all_told_append, merge_append, all_handed, known_some, known_none}
use Rattle.pins_levels.proofs.Steps.{SawOn, ToldOn}
use Rattle.pins_levels.specs.Wave.{steady, clock_of, turn_of, end_of, happened, spelt}
use Rattle.pins_levels.specs.Look.{Readings, none, seen_by, fallen, turned, handed_to, known, events_of}
use Rattle.pins_levels.specs.Session.{Part, ran, is_told, all_told, Lawful, Stood, stood, settled_on, Merged, neither, on_bus}
use Rattle.pins_levels.specs.Session.{saw, told, step}
use Rattle.pins_levels.specs.declared.Seen.{Seen}
use Rattle.pins_levels.specs.declared.Seen.TheVariants.{Low, Fell, High}
use Rattle.pins_levels.specs.declared.Token.{Token}
use Rattle.pins_levels.specs.declared.Due.{Due}

-- a token on the bus, with the lines of a state
abbrev pub standing : (P : Part) → Bool → Bool → Bool → Bool → ℕ → P.State → Token
standing P c d o p x u =
    record {
      scl = c;
      sda = d;
      pulse = o;
      pulling = p;
      next = P.pulls u;
      low = P.pulls (P.event u 2);
      high = P.pulls (P.event u 3);
      waiting = x;
      number = 0;
      answer = P.answer u;
    }

-- what was done
pub record UpTo (P : Part) (s : P.State) (w : List Seen) (ts : List ℕ) (u : P.State) : Type 0 where
  pub done : List ℕ
  pub state : u ≡ ran P s done
  pub merged : Merged done (spelt w) ts

-- the last look saw SCL low
pub record AtLow (P : Part) (s : P.State) (w : List Seen) (hs : List ℕ) (o : Stood P) : Type 0 where
  pub sda : Bool
  pub token : o.token ≡ standing P false sda false (P.pulls o.state) none o.state
  pub up_to : UpTo P s w hs o.state

-- it saw SCL high, and SDA at the level d: in an open pulse; in one that is none, by a Start or Stop or by the first look;
-- in one whose Clock was taken early
pub data AtHigh (P : Part) (s : P.State) (d : Bool) (w : List Seen) (hs : List ℕ) (o : Stood P) : Type 0 where
  is_open : (p : Bool) (x : ℕ) (ts : List ℕ) → steady d w ≡ true → all_told (known x) ≡ true
      → o.token ≡ standing P true d true p x o.state → UpTo P s (High d ∷ w) ts o.state → hs ≡ ts ++ known x
      → AtHigh P s d w hs o
  is_shut : (p : Bool) → steady d w ≡ false → o.token ≡ standing P true d false p none o.state
      → UpTo P s (High d ∷ w) hs o.state → AtHigh P s d w hs o
  is_taken : (p : Bool) (es ts us : List ℕ) → steady d w ≡ true → o.token ≡ standing P true d false p none o.state
      → Merged es (spelt (High d ∷ w)) ts → o.state ≡ ran P s (es ++ (clock_of d ∷ us)) → all_told us ≡ true
      → P.eighth (ran P s es) ≡ false → hs ≡ ts ++ us → 2 ≤ length us → AtHigh P s d w hs o

abbrev pub Stands : (P : Part) → P.State → List Seen → List ℕ → Stood P → Type 0
Stands P s [] hs o = ⊥
Stands P s (Low ∷ w) hs o = AtLow P s (Low ∷ w) hs o
Stands P s (Fell ∷ w) hs o = AtLow P s (Fell ∷ w) hs o
Stands P s (High d ∷ w) hs o = AtHigh P s d w hs o

-- what a deed on the bus does to a token
abbrev by_saw : (P : Part) → Token → Seen → P.State → Stood P
by_saw P t v u = settled_on P (seen_by t v).token (events_of (seen_by t v)) u

abbrev by_told : (P : Part) → Token → ℕ → P.State → Stood P
by_told P t e u = settled_on P (handed_to t e (P.eighth u)).token (events_of (handed_to t e (P.eighth u))) u

nil_right : {A : Type 0} (xs : List A) → xs ++ [] ≡ xs
nil_right xs = append-nil xs

told_some : (e : ℕ) → is_told e ≡ true → ltb 7 e ≡ false
told_some e h = le-ltb 7 e (leb-true e 7 (and_both (leb 4 e) (leb e 7) h).1)

told_known : (e : ℕ) → is_told e ≡ true → known e ≡ e ∷ []
told_known e h = known_some e (told_some e h)

beq_refl : (d : Bool) → beq d d ≡ true
beq_refl true = refl
beq_refl false = refl

beq_turn : (d e : Bool) → beq d e ≡ false → beq e d ≡ false
beq_turn true true h = h
beq_turn true false h = refl
beq_turn false true h = refl
beq_turn false false h = h

pub known_clock : (d : Bool) → known (clock_of d) ≡ clock_of d ∷ []
unfolding known
known_clock true = refl
known_clock false = refl

pub known_turn : (e : Bool) → known (turn_of e) ≡ turn_of e ∷ []
unfolding known
known_turn true = refl
known_turn false = refl

pub known_8 : known none ≡ []
unfolding known
known_8 = refl

pub none_right : (xs : List ℕ) → xs ++ known none ≡ xs
none_right xs = ap (λ (l : List ℕ). xs ++ l) known_8 ∙ nil_right xs

two : (x e : ℕ) → 2 ≤ length (x ∷ e ∷ [])
two x e = omega arith

one_told : (e : ℕ) → is_told e ≡ true → all_told (e ∷ []) ≡ true
unfolding all_told
one_told e h = rw h

module _ (P : Part) (s : P.State) where
  -- one look more, and events
  up_to_lem : (w : List Seen) (v : Seen) (ts : List ℕ) (u : P.State) (es bs us : List ℕ) → UpTo P s w ts u → happened w v ≡ bs
      → Merged es bs us → UpTo P s (v ∷ w) (ts ++ us) (ran P u es)
  unfolding spelt
  up_to_lem w v ts u es bs us a h m =
      record {
        done = a.done ++ es;
        state = ap (λ (x : P.State). ran P x es) a.state ∙ sym (ran_append P s a.done es);
        merged =
            subst (λ (l : List ℕ). Merged (a.done ++ es) (spelt w ++ l) (ts ++ us)) (sym h) (merge_append a.merged m);
      }

  spelt_same : (w : List Seen) (v : Seen) → happened w v ≡ [] → spelt (v ∷ w) ≡ spelt w
  unfolding spelt
  spelt_same w v h = ap (λ (l : List ℕ). spelt w ++ l) h ∙ nil_right (spelt w)

  up_to_same : (w : List Seen) (v : Seen) (ts : List ℕ) (u : P.State) → UpTo P s w ts u → happened w v ≡ []
      → UpTo P s (v ∷ w) ts u
  up_to_same w v ts u a h =
      record {
        done = a.done;
        state = a.state;
        merged = subst (λ (l : List ℕ). Merged a.done l ts) (sym (spelt_same w v h)) a.merged;
      }

  up_to_told : (w : List Seen) (ts : List ℕ) (u : P.State) (us : List ℕ) → UpTo P s w ts u → UpTo P s w (ts ++ us) (ran P u us)
  up_to_told w ts u us a =
      record {
        done = a.done ++ us;
        state = ap (λ (x : P.State). ran P x us) a.state ∙ sym (ran_append P s a.done us);
        merged =
            subst (λ (l : List ℕ). Merged (a.done ++ us) l (ts ++ us)) (nil_right (spelt w))
            (merge_append a.merged (all_handed us));
      }

  up_to_list : (w : List Seen) (ts hs : List ℕ) (u : P.State) → ts ≡ hs → UpTo P s w ts u → UpTo P s w hs u
  up_to_list w ts hs u e a = subst (λ (l : List ℕ). UpTo P s w l u) e a

  -- SCL stays low; SCL rises
  low_low : (w : List Seen) (hs : List ℕ) (d : Bool) (u : P.State) → UpTo P s w hs u → ((v : Seen) → happened w v ≡ [])
      → AtLow P s (Low ∷ w) hs (by_saw P (standing P false d false (P.pulls u) none u) Low u)
  unfolding settled_on known
  low_low w hs d u a h = record { sda = d; token = refl; up_to = up_to_same w Low hs u a (h Low) }

  low_high : (w : List Seen) (hs : List ℕ) (d : Bool) (u : P.State) (e : Bool) → UpTo P s w hs u
      → ((v : Seen) → happened w v ≡ []) → steady e w ≡ true
      → AtHigh P s e w hs (by_saw P (standing P false d false (P.pulls u) none u) (High e) u)
  unfolding settled_on known all_told
  low_high w hs d u e a h k =
      is_open (P.pulls u) none hs k refl refl (up_to_same w (High e) hs u a (h (High e))) (sym (nil_right hs))

  low_told : (w : List Seen) (hs : List ℕ) (d : Bool) (u : P.State) (e : ℕ) → UpTo P s w hs u → is_told e ≡ true
      → AtLow P s w (hs ++ (e ∷ [])) (by_told P (standing P false d false (P.pulls u) none u) e u)
  unfolding settled_on known
  low_told w hs d u e a k =
      subst
      (λ (l : List ℕ). AtLow P s w (hs ++ (e ∷ [])) (settled_on P (standing P false d false (P.pulls u) none u) (l ++ []) u))
      (sym (told_known e k)) (record { sda = d; token = refl; up_to = up_to_told w hs u (e ∷ []) a })

  -- SCL falls
  fall_open : (d : Bool) (w : List Seen) (v : Seen) (hs ts : List ℕ) (p : Bool) (x : ℕ) (u : P.State)
      → happened (High d ∷ w) v ≡ end_of d w → steady d w ≡ true → UpTo P s (High d ∷ w) ts u → hs ≡ ts ++ known x
      → AtLow P s (v ∷ High d ∷ w) hs
      (settled_on P (fallen (standing P true d true p x u)).token (events_of (fallen (standing P true d true p x u))) u)
  unfolding settled_on known
  fall_open true w v hs ts p x u h k a q =
      record {
        sda = true;
        token = refl;
        up_to =
            up_to_list _ (ts ++ (known x ++ [])) hs _ (ap (λ (l : List ℕ). ts ++ l) (nil_right (known x)) ∙ sym q)
            (up_to_lem (High true ∷ w) v ts u (3 ∷ (known x ++ [])) (3 ∷ []) (known x ++ []) a
            (h ∙ ap (λ (b : Bool). cond b (3 ∷ []) []) k) (on_bus 3 (all_handed (known x ++ []))));
      }
  fall_open false w v hs ts p x u h k a q =
      record {
        sda = false;
        token = refl;
        up_to =
            up_to_list _ (ts ++ (known x ++ [])) hs _ (ap (λ (l : List ℕ). ts ++ l) (nil_right (known x)) ∙ sym q)
            (up_to_lem (High false ∷ w) v ts u (2 ∷ (known x ++ [])) (2 ∷ []) (known x ++ []) a
            (h ∙ ap (λ (b : Bool). cond b (2 ∷ []) []) k) (on_bus 2 (all_handed (known x ++ []))));
      }

  fall_shut : (d : Bool) (w : List Seen) (v : Seen) (hs : List ℕ) (p : Bool) (u : P.State)
      → happened (High d ∷ w) v ≡ end_of d w → steady d w ≡ false → UpTo P s (High d ∷ w) hs u
      → AtLow P s (v ∷ High d ∷ w) hs
      (settled_on P (fallen (standing P true d false p none u)).token (events_of (fallen (standing P true d false p none u))) u)
  unfolding settled_on known
  fall_shut d w v hs p u h k a =
      record { sda = d; token = refl; up_to = up_to_same (High d ∷ w) v hs u a (h ∙ ap (λ (b : Bool). cond b (clock_of d ∷ []) []) k) }

  clocked_merge : (d : Bool) (w : List Seen) (v : Seen) (hs es ts us : List ℕ) → happened (High d ∷ w) v ≡ end_of d w
      → steady d w ≡ true → Merged es (spelt (High d ∷ w)) ts → hs ≡ ts ++ us
      → Merged (es ++ (clock_of d ∷ us)) (spelt (v ∷ High d ∷ w)) hs
  unfolding spelt
  clocked_merge d w v hs es ts us h k m q =
      subst (λ (l : List ℕ). Merged (es ++ (clock_of d ∷ us)) (spelt (High d ∷ w) ++ l) hs)
      (sym (h ∙ ap (λ (b : Bool). cond b (clock_of d ∷ []) []) k))
      (subst (λ (l : List ℕ). Merged (es ++ (clock_of d ∷ us)) (spelt (High d ∷ w) ++ (clock_of d ∷ [])) l) (sym q)
      (merge_append m (on_bus (clock_of d) (all_handed us))))

  fall_taken : (d : Bool) (w : List Seen) (v : Seen) (hs : List ℕ) (p : Bool) (es ts us : List ℕ) (u : P.State)
      → happened (High d ∷ w) v ≡ end_of d w → steady d w ≡ true → Merged es (spelt (High d ∷ w)) ts
      → u ≡ ran P s (es ++ (clock_of d ∷ us)) → hs ≡ ts ++ us
      → AtLow P s (v ∷ High d ∷ w) hs
      (settled_on P (fallen (standing P true d false p none u)).token (events_of (fallen (standing P true d false p none u))) u)
  unfolding settled_on known
  fall_taken d w v hs p es ts us u h k m r q =
      record {
        sda = d;
        token = refl;
        up_to =
            record {
              done = es ++ (clock_of d ∷ us);
              state = r;
              merged = clocked_merge d w v hs es ts us h k m q;
            };
      }

  -- a look that sees nothing new
  see_same_by : (d q p : Bool) (x : ℕ) (u : P.State)
      → by_saw P (standing P true d q p x u) (High d) u ≡ stood P (standing P true d q p x u) u
  unfolding settled_on known
  see_same_by true q p x u = refl
  see_same_by false q p x u = refl

  see_same : (d q p : Bool) (x : ℕ) (o : Stood P) → o.token ≡ standing P true d q p x o.state
      → by_saw P o.token (High d) o.state ≡ o
  see_same d q p x o e =
      ap (λ (t : Token). by_saw P t (High d) o.state) e ∙ see_same_by d q p x o.state
      ∙ ap (λ (t : Token). stood P t o.state) (sym e)

  happened_same : (d : Bool) (w : List Seen) → happened (High d ∷ w) (High d) ≡ []
  unfolding happened
  happened_same d w = ap (λ (b : Bool). cond b [] (turn_of d ∷ [])) (beq_refl d)

  steady_same : (d : Bool) (w : List Seen) → steady d (High d ∷ w) ≡ steady d w
  unfolding steady
  steady_same d w = ap (λ (b : Bool). b && steady d w) (beq_refl d)

  same_high : (d : Bool) (w : List Seen) (hs : List ℕ) (o : Stood P) → AtHigh P s d w hs o → AtHigh P s d (High d ∷ w) hs o
  same_high d w hs o (is_open p x ts k l e a q) =
      is_open p x ts (steady_same d w ∙ k) l e (up_to_same (High d ∷ w) (High d) ts o.state a (happened_same d w)) q
  same_high d w hs o (is_shut p k e a) =
      is_shut p (steady_same d w ∙ k) e (up_to_same (High d ∷ w) (High d) hs o.state a (happened_same d w))
  same_high d w hs o (is_taken p es ts us k e m r l g q j) =
      is_taken p es ts us (steady_same d w ∙ k) e
      (subst (λ (x : List ℕ). Merged es x ts) (sym (spelt_same (High d ∷ w) (High d) (happened_same d w))) m) r l g q j

  same_step : (d : Bool) (w : List Seen) (hs : List ℕ) (o : Stood P) → AtHigh P s d w hs o
      → by_saw P o.token (High d) o.state ≡ o
  same_step d w hs o (is_open p x ts k l e a q) = see_same d true p x o e
  same_step d w hs o (is_shut p k e a) = see_same d false p none o e
  same_step d w hs o (is_taken p es ts us k e m r l g q j) = see_same d false p none o e

  -- SDA turns
  turn_is : (d e q p : Bool) (x : ℕ) (u : P.State) → beq d e ≡ false
      → by_saw P (standing P true d q p x u) (High e) u
      ≡ stood P (standing P true e false p none (ran P u (known x ++ (turn_of e ∷ [])))) (ran P u (known x ++ (turn_of e ∷ [])))
  unfolding known
  turn_is true true q p x u h = absurd (true≢false h)
  turn_is true false q p x u h = settled_some P (turned (standing P true true q p x u) false).token (known x) 0 u
  turn_is false true q p x u h = settled_some P (turned (standing P true false q p x u) true).token (known x) 1 u
  turn_is false false q p x u h = absurd (true≢false h)

  happened_turn : (d e : Bool) (w : List Seen) → beq d e ≡ false → happened (High d ∷ w) (High e) ≡ turn_of e ∷ []
  unfolding happened
  happened_turn d e w h = ap (λ (b : Bool). cond b [] (turn_of e ∷ [])) h

  steady_turn : (d e : Bool) (w : List Seen) → beq d e ≡ false → steady e (High d ∷ w) ≡ false
  unfolding steady
  steady_turn d e w h = ap (λ (b : Bool). b && steady e w) (beq_turn d e h)

  turn_up_to : (d e : Bool) (w : List Seen) (hs ts us : List ℕ) (u : P.State) → beq d e ≡ false
      → UpTo P s (High d ∷ w) ts u → hs ≡ ts ++ us
      → UpTo P s (High e ∷ High d ∷ w) hs (ran P u (us ++ (turn_of e ∷ [])))
  turn_up_to d e w hs ts us u h a q =
      up_to_list (High e ∷ High d ∷ w) (ts ++ (us ++ [])) hs _ (ap (λ (l : List ℕ). ts ++ l) (nil_right us) ∙ sym q)
      (up_to_lem (High d ∷ w) (High e) ts u (us ++ (turn_of e ∷ [])) (turn_of e ∷ []) (us ++ []) a (happened_turn d e w h)
      (merge_append (all_handed us) (on_bus (turn_of e) neither)))

  turn_high : (d e : Bool) (w : List Seen) (hs : List ℕ) (p : Bool) (us : List ℕ) (u : P.State) → beq d e ≡ false
      → UpTo P s (High e ∷ High d ∷ w) hs u
      → AtHigh P s e (High d ∷ w) hs (stood P (standing P true e false p none u) u)
  turn_high d e w hs p us u h a = is_shut p (steady_turn d e w h) refl a

  -- what is handed in while SCL is high
  wait_is : (d p : Bool) (x e : ℕ) (u : P.State) → ltb 7 x ≡ true
      → by_told P (standing P true d true p x u) e u ≡ stood P (standing P true d true p e u) u
  unfolding settled_on known
  wait_is d p x e u h =
      ap (λ (b : Due). settled_on P b.token (events_of b) u) (if_true (ltb 7 x) _ _ h)

  eighth_is : (d p : Bool) (x e : ℕ) (u : P.State) → ltb 7 x ≡ false → P.eighth u ≡ true
      → by_told P (standing P true d true p x u) e u
      ≡ stood P (standing P true d true p e (ran P u (x ∷ []))) (ran P u (x ∷ []))
  unfolding settled_on known
  eighth_is d p x e u h g =
      ap (λ (b : Due). settled_on P b.token (events_of b) u) (if_false (ltb 7 x) _ _ h ∙ if_true (P.eighth u) _ _ g)
      ∙ ap (λ (l : List ℕ). settled_on P (standing P true d true p e u) (l ++ []) u) (known_some x h)

  take_is : (d p : Bool) (x e : ℕ) (u : P.State) → ltb 7 x ≡ false → is_told e ≡ true → P.eighth u ≡ false
      → by_told P (standing P true d true p x u) e u
      ≡ stood P (standing P true d false p none (ran P u (clock_of d ∷ x ∷ e ∷ []))) (ran P u (clock_of d ∷ x ∷ e ∷ []))
  unfolding settled_on known
  take_is d p x e u h k g =
      ap (λ (b : Due). settled_on P b.token (events_of b) u) (if_false (ltb 7 x) _ _ h ∙ if_false (P.eighth u) _ _ g)
      ∙ ap (λ (l : List ℕ). settled_on P (standing P true d false p none u) (l ++ (known x ++ known e)) u) (known_clock d)
      ∙ ap (λ (l : List ℕ). settled_on P (standing P true d false p none u) (clock_of d ∷ (l ++ known e)) u) (known_some x h)
      ∙ ap (λ (l : List ℕ). settled_on P (standing P true d false p none u) (clock_of d ∷ x ∷ l) u) (told_known e k)

  at_once_is : (d p : Bool) (e : ℕ) (u : P.State) → is_told e ≡ true
      → by_told P (standing P true d false p none u) e u
      ≡ stood P (standing P true d false p none (ran P u (e ∷ []))) (ran P u (e ∷ []))
  unfolding settled_on known
  at_once_is d p e u k =
      ap (λ (l : List ℕ). settled_on P (standing P true d false p none u) (l ++ []) u) (told_known e k)

  -- a look, by where the session stands
  low_saw : (w : List Seen) (hs : List ℕ) (o : Stood P) (v : Seen) (a b : Readings) → ((x : Seen) → happened w x ≡ [])
      → ((d : Bool) → steady d w ≡ true) → AtLow P s w hs o → SawOn P o v a b → Stands P s (v ∷ w) hs (step P o (saw v a b))
  low_saw w hs o Low a b h k z g =
      subst (λ (r : Stood P). AtLow P s (Low ∷ w) hs r)
      (sym (g.is ∙ ap (λ (t : Token). by_saw P t Low o.state) z.token))
      (low_low w hs z.sda o.state z.up_to h)
  low_saw w hs o Fell a b h k z g =
      let n : (seen_by o.token Fell).token.number ≡ 128 = ap (λ (t : Token). (seen_by t Fell).token.number) z.token in
      let m = g.number in
      absurd (omega arith)
  low_saw w hs o (High e) a b h k z g =
      subst (λ (r : Stood P). AtHigh P s e w hs r)
      (sym (g.is ∙ ap (λ (t : Token). by_saw P t (High e) o.state) z.token))
      (low_high w hs z.sda o.state e z.up_to h (k e))

  fall_saw : (d : Bool) (w : List Seen) (hs : List ℕ) (o r : Stood P) (v : Seen)
      → happened (High d ∷ w) v ≡ end_of d w → AtHigh P s d w hs o
      → ((t : Token) → t ≡ o.token → t.scl ≡ true → r ≡ settled_on P (fallen t).token (events_of (fallen t)) o.state)
      → AtLow P s (v ∷ High d ∷ w) hs r
  fall_saw d w hs o r v h (is_open p x ts k l e a q) f =
      subst (λ (y : Stood P). AtLow P s (v ∷ High d ∷ w) hs y) (sym (f (standing P true d true p x o.state) (sym e) refl))
      (fall_open d w v hs ts p x o.state h k a q)
  fall_saw d w hs o r v h (is_shut p k e a) f =
      subst (λ (y : Stood P). AtLow P s (v ∷ High d ∷ w) hs y) (sym (f (standing P true d false p none o.state) (sym e) refl))
      (fall_shut d w v hs p o.state h k a)
  fall_saw d w hs o r v h (is_taken p es ts us k e m q l g n j) f =
      subst (λ (y : Stood P). AtLow P s (v ∷ High d ∷ w) hs y) (sym (f (standing P true d false p none o.state) (sym e) refl))
      (fall_taken d w v hs p es ts us o.state h k m q n)

  see_fall : (t : Token) → t.scl ≡ true → (seen_by t Low ≡ fallen t) × (seen_by t Fell ≡ fallen t)
  see_fall t h = (if_true t.scl _ _ h, if_true t.scl _ _ h)

  turned_saw : Lawful P → (d e : Bool) (w : List Seen) (hs : List ℕ) (o r : Stood P) → beq d e ≡ false
      → AtHigh P s d w hs o → r ≡ by_saw P o.token (High e) o.state → AtHigh P s e (High d ∷ w) hs r
  turned_saw L d e w hs o r q (is_open p x ts k l t a n) is =
      subst (λ (y : Stood P). AtHigh P s e (High d ∷ w) hs y)
      (sym (is ∙ ap (λ (y : Token). by_saw P y (High e) o.state) t ∙ turn_is d e true p x o.state q))
      (turn_high d e w hs p [] _ q (turn_up_to d e w hs ts (known x) o.state q a n))
  turned_saw L d e w hs o r q (is_shut p k t a) is =
      subst (λ (y : Stood P). AtHigh P s e (High d ∷ w) hs y)
      (sym (is ∙ ap (λ (y : Token). by_saw P y (High e) o.state) t ∙ turn_is d e false p none o.state q))
      (turn_high d e w hs p [] _ q (turn_up_to d e w hs hs (known none) o.state q a (sym (none_right hs))))
  turned_saw L d e w hs o r q (is_taken p es ts us k t m i l g n j) is =
      let a : UpTo P s (High d ∷ w) ts (ran P s es) = record { done = es; state = refl; merged = m } in
      let v : ran P o.state (known none ++ (turn_of e ∷ [])) ≡ ran P (ran P s es) (us ++ (turn_of e ∷ [])) =
      ap (λ (y : P.State). ran P y (known none ++ (turn_of e ∷ []))) i
      ∙ ap (λ (y : List ℕ). ran P (ran P s (es ++ (clock_of d ∷ us))) (y ++ (turn_of e ∷ []))) known_8
      ∙ ap (λ (y : P.State). ran P y (turn_of e ∷ [])) (ran_append P s es (clock_of d ∷ us))
      ∙ sym (ran_append P (ran P s es) (clock_of d ∷ us) (turn_of e ∷ []))
      ∙ L.dropped (ran P s es) d e us l g in
      subst (λ (y : Stood P). AtHigh P s e (High d ∷ w) hs y)
      (sym (is ∙ ap (λ (y : Token). by_saw P y (High e) o.state) t ∙ turn_is d e false p none o.state q))
      (turn_high d e w hs p [] _ q
      (subst (λ (y : P.State). UpTo P s (High e ∷ High d ∷ w) hs y) (sym v) (turn_up_to d e w hs ts us (ran P s es) q a n)))

  high_saw : Lawful P → (d : Bool) (w : List Seen) (hs : List ℕ) (o : Stood P) (v : Seen) (a b : Readings)
      → AtHigh P s d w hs o → SawOn P o v a b → Stands P s (v ∷ High d ∷ w) hs (step P o (saw v a b))
  unfolding happened
  high_saw L d w hs o Low a b z g =
      fall_saw d w hs o (step P o (saw Low a b)) Low refl z
      (λ t e c. g.is ∙ ap (λ (x : Token). by_saw P x Low o.state) (sym e)
      ∙ ap (λ (y : Due). settled_on P y.token (events_of y) o.state) (see_fall t c).0)
  high_saw L d w hs o Fell a b z g =
      fall_saw d w hs o (step P o (saw Fell a b)) Fell refl z
      (λ t e c. g.is ∙ ap (λ (x : Token). by_saw P x Fell o.state) (sym e)
      ∙ ap (λ (y : Due). settled_on P y.token (events_of y) o.state) (see_fall t c).1)
  high_saw L d w hs o (High e) a b z g =
      by_test (beq d e)
      (λ q. let i : d ≡ e = beq_is d e q in
      let same : AtHigh P s d (High d ∷ w) hs o = same_high d w hs o z in
      let is : step P o (saw (High e) a b) ≡ o =
      g.is ∙ ap (λ (x : Bool). by_saw P o.token (High x) o.state) (sym i) ∙ same_step d w hs o z in
      subst (λ (r : Stood P). AtHigh P s e (High d ∷ w) hs r) (sym is)
      (subst (λ (x : Bool). AtHigh P s x (High d ∷ w) hs o) i same))
      (λ q. turned_saw L d e w hs o (step P o (saw (High e) a b)) q z g.is)

  pub stands_saw : Lawful P → (w : List Seen) (hs : List ℕ) (o : Stood P) (v : Seen) (a b : Readings)
      → Stands P s w hs o → SawOn P o v a b → Stands P s (v ∷ w) hs (step P o (saw v a b))
  unfolding happened steady
  stands_saw L [] hs o v a b z g = absurd z
  stands_saw L (Low ∷ w) hs o v a b z g = low_saw (Low ∷ w) hs o v a b (λ x. refl) (λ d. refl) z g
  stands_saw L (Fell ∷ w) hs o v a b z g = low_saw (Fell ∷ w) hs o v a b (λ x. refl) (λ d. refl) z g
  stands_saw L (High d ∷ w) hs o v a b z g = high_saw L d w hs o v a b z g

  -- a handing in, by where the session stands
  told_low : (w : List Seen) (hs : List ℕ) (o : Stood P) (e : ℕ) (b : Readings) → AtLow P s w hs o → ToldOn P o e b
      → AtLow P s w (hs ++ (e ∷ [])) (step P o (told e b))
  told_low w hs o e b z g =
      subst (λ (r : Stood P). AtLow P s w (hs ++ (e ∷ [])) r)
      (sym (g.is ∙ ap (λ (t : Token). by_told P t e o.state) z.token))
      (low_told w hs z.sda o.state e z.up_to g.event)

  told_open : (d : Bool) (w : List Seen) (hs ts : List ℕ) (p : Bool) (x e : ℕ) (u : P.State) → steady d w ≡ true
      → all_told (known x) ≡ true → UpTo P s (High d ∷ w) ts u → hs ≡ ts ++ known x → is_told e ≡ true
      → AtHigh P s d w (hs ++ (e ∷ [])) (by_told P (standing P true d true p x u) e u)
  unfolding all_told
  told_open d w hs ts p x e u k l a q h =
      by_test (ltb 7 x)
      (λ y. subst (λ (r : Stood P). AtHigh P s d w (hs ++ (e ∷ [])) r) (sym (wait_is d p x e u y))
      (is_open p e ts k (rw (told_known e h) (one_told e h)) refl a
      (ap (λ (m : List ℕ). m ++ (e ∷ [])) (q ∙ ap (λ (m : List ℕ). ts ++ m) (known_none x y) ∙ nil_right ts)
      ∙ ap (λ (m : List ℕ). ts ++ m) (sym (told_known e h)))))
      (λ y. let c : hs ≡ ts ++ (x ∷ []) = q ∙ ap (λ (m : List ℕ). ts ++ m) (known_some x y) in
      let f : all_told (x ∷ []) ≡ true = sym (ap all_told (known_some x y)) ∙ l in
      by_test (P.eighth u)
      (λ g. subst (λ (r : Stood P). AtHigh P s d w (hs ++ (e ∷ [])) r) (sym (eighth_is d p x e u y g))
      (is_open p e (ts ++ (x ∷ [])) k (rw (told_known e h) (one_told e h)) refl
      (up_to_told (High d ∷ w) ts u (x ∷ []) a)
      (ap (λ (m : List ℕ). m ++ (e ∷ [])) c ∙ ap (λ (m : List ℕ). (ts ++ (x ∷ [])) ++ m) (sym (told_known e h)))))
      (λ g. subst (λ (r : Stood P). AtHigh P s d w (hs ++ (e ∷ [])) r) (sym (take_is d p x e u y h g))
      (is_taken p a.done ts (x ∷ e ∷ []) k refl a.merged
      (ap (λ (m : P.State). ran P m (clock_of d ∷ x ∷ e ∷ [])) a.state ∙ sym (ran_append P s a.done (clock_of d ∷ x ∷ e ∷ [])))
      (all_told_append (x ∷ []) (e ∷ []) f (one_told e h))
      (ap P.eighth (sym a.state) ∙ g)
      (ap (λ (m : List ℕ). m ++ (e ∷ [])) c ∙ append_assoc ts (x ∷ []) (e ∷ [])) (two x e))))

  told_high : (d : Bool) (w : List Seen) (hs : List ℕ) (o r : Stood P) (e : ℕ) → is_told e ≡ true → AtHigh P s d w hs o
      → r ≡ by_told P o.token e o.state → AtHigh P s d w (hs ++ (e ∷ [])) r
  told_high d w hs o r e h (is_open p x ts k l t a q) is =
      subst (λ (y : Stood P). AtHigh P s d w (hs ++ (e ∷ [])) y)
      (sym (is ∙ ap (λ (y : Token). by_told P y e o.state) t))
      (told_open d w hs ts p x e o.state k l a q h)
  told_high d w hs o r e h (is_shut p k t a) is =
      subst (λ (y : Stood P). AtHigh P s d w (hs ++ (e ∷ [])) y)
      (sym (is ∙ ap (λ (y : Token). by_told P y e o.state) t ∙ at_once_is d p e o.state h))
      (is_shut p k refl (up_to_told (High d ∷ w) hs o.state (e ∷ []) a))
  told_high d w hs o r e h (is_taken p es ts us k t m i l g n j) is =
      subst (λ (y : Stood P). AtHigh P s d w (hs ++ (e ∷ [])) y)
      (sym (is ∙ ap (λ (y : Token). by_told P y e o.state) t ∙ at_once_is d p e o.state h))
      (is_taken p es ts (us ++ (e ∷ [])) k refl m
      (ap (λ (y : P.State). ran P y (e ∷ [])) i ∙ sym (ran_append P s (es ++ (clock_of d ∷ us)) (e ∷ []))
      ∙ ap (ran P s) (append_assoc es (clock_of d ∷ us) (e ∷ [])))
      (all_told_append us (e ∷ []) l (one_told e h)) g
      (ap (λ (y : List ℕ). y ++ (e ∷ [])) n ∙ append_assoc ts us (e ∷ []))
      (let y = length-append us (e ∷ []) in omega arith))

  pub stands_told : (w : List Seen) (hs : List ℕ) (o : Stood P) (e : ℕ) (b : Readings) → Stands P s w hs o → ToldOn P o e b
      → Stands P s w (hs ++ (e ∷ [])) (step P o (told e b))
  stands_told [] hs o e b z g = absurd z
  stands_told (Low ∷ w) hs o e b z g = told_low (Low ∷ w) hs o e b z g
  stands_told (Fell ∷ w) hs o e b z g = told_low (Fell ∷ w) hs o e b z g
  stands_told (High d ∷ w) hs o e b z g = told_high d w hs o (step P o (told e b)) e g.event z g.is
