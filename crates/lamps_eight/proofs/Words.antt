-- SPDX-License-Identifier: Apache-2.0
-- Looking back over the log decides exactly the request's words.
use Prim.Native.Nat.{ℕ, suc, ◌+◌, ◌<◌}
use mathlib.Core.Path.{◌≡◌, refl, sym, ap, ◌∙◌}
use mathlib.Core.Bool.{true, false, false≢true}
use mathlib.Core.List.{List, [], ◌∷◌, ◌++◌}
use native.Mathlib.Omega.{arith}
use lib.Dec.{eqb, ltb}
use borrow.Author.Tests.{eqb-true, ltb-true, lt-ltb, eq-eqb}
use Rattle.wire.proofs.Tests.{by_test, and_split, and_join}
use Rattle.lamps_eight.specs.Lit.{Lit, is_failure, is_stop, is_read, is_tick, none, count, no_whole, Last, nothing, gave, read_in, decided, lit_from}
use Rattle.lamps_eight.specs.declared.Mark.{Mark}
use Rattle.lamps_eight.specs.declared.Mark.TheVariants.{Failed, Ended, Ticked, Gave, Other}

no : {X : Type 0} → false ≡ true → X
no e = absurd (false≢true e)

gave_nothing : {X : Type 0} (v : ℕ) → gave v ≡ nothing → X
gave_nothing v e = absurd (let z : ◌≡◌ {A = ℕ} 0 1 = cc in omega arith)

-- a read before a Stop
record Cut (at v : ℕ) (log : List Mark) : Type 0 where
  pub between : List Mark
  pub before : List Mark
  pub cut : log ≡ between ++ (Gave at v ∷ before)
  pub ended : none is_stop between ≡ true
  pub last : none (is_read at) between ≡ true
  pub sound : none is_failure between ≡ true

cut_on : {at v : ℕ} {log : List Mark} (x : Mark) → is_stop x ≡ false → is_read at x ≡ false → is_failure x ≡ false
    → Cut at v log → Cut at v (x ∷ log)
cut_on x s r f c =
    record {
      between = x ∷ c.between;
      before = c.before;
      cut = ap (λ (l : List Mark). x ∷ l) c.cut;
      ended = rw s c.ended;
      last = rw r c.last;
      sound = rw f c.sound;
    }

read_cut : (at v : ℕ) (log : List Mark) → read_in at log ≡ gave v → Cut at v log
unfolding read_in
read_cut at v [] e = gave_nothing v (sym e)
read_cut at v (Failed ∷ l) e = gave_nothing v (sym e)
read_cut at v (Ended ∷ l) e = gave_nothing v (sym e)
read_cut at v (Ticked ∷ l) e = cut_on Ticked refl refl refl (read_cut at v l e)
read_cut at v (Gave a w ∷ l) e =
    by_test (eqb a at)
    (λ q. let same : w ≡ v = let g : gave w ≡ gave v = rw q at e in cc in
    let place = eqb-true a at q in
    record {
      between = [];
      before = l;
      cut = rw (same, place);
      ended = refl;
      last = refl;
      sound = refl;
    })
    (λ q. cut_on (Gave a w) refl q refl (read_cut at v l (rw q at e)))
read_cut at v (Other ∷ l) e = cut_on Other refl refl refl (read_cut at v l e)

cut_read : (at v : ℕ) (b r : List Mark) → none is_stop b ≡ true → none (is_read at) b ≡ true → none is_failure b ≡ true
    → read_in at (b ++ (Gave at v ∷ r)) ≡ gave v
unfolding read_in
cut_read at v [] r s d f = rw (eq-eqb at at refl)
cut_read at v (Failed ∷ b) r s d f = no f
cut_read at v (Ended ∷ b) r s d f = no s
cut_read at v (Ticked ∷ b) r s d f = cut_read at v b r s d f
cut_read at v (Gave a w ∷ b) r s d f =
    by_test (eqb a at) (λ q. no (rw q at d)) (λ q. rw q (cut_read at v b r s (rw q at d) f))
cut_read at v (Other ∷ b) r s d f = cut_read at v b r s d f

-- no read of the byte, back to the Stop
no_read : (at : ℕ) (s r : List Mark) → read_in at (s ++ (Ended ∷ r)) ≡ nothing → none is_failure s ≡ true
    → no_whole at s ≡ true → none (is_read at) s ≡ true
unfolding read_in
no_read at [] r e f w = refl
no_read at (Failed ∷ s) r e f w = no f
no_read at (Ended ∷ s) r e f w = (and_split (none (is_read at) s) (no_whole at s) w).0
no_read at (Ticked ∷ s) r e f w = no_read at s r e f w
no_read at (Gave a v ∷ s) r e f w =
    by_test (eqb a at) (λ q. gave_nothing v (rw q at e)) (λ q. rw q (no_read at s r (rw q at e) f w))
no_read at (Other ∷ s) r e f w = no_read at s r e f w

read_none : (at : ℕ) (s r : List Mark) → none is_failure s ≡ true → none (is_read at) s ≡ true
    → read_in at (s ++ (Ended ∷ r)) ≡ nothing
unfolding read_in
read_none at [] r f d = refl
read_none at (Failed ∷ s) r f d = no f
read_none at (Ended ∷ s) r f d = refl
read_none at (Ticked ∷ s) r f d = read_none at s r f d
read_none at (Gave a v ∷ s) r f d =
    by_test (eqb a at) (λ q. no (rw q at d)) (λ q. rw q (read_none at s r f (rw q at d)))
read_none at (Other ∷ s) r f d = read_none at s r f d

-- the words, with t ticks more
record Back (at t : ℕ) (log : List Mark) : Type 0 where
  pub since : List Mark
  pub here : List Mark
  pub cut : log ≡ since ++ (Ended ∷ here)
  pub whole : Cut at 1 here
  pub latest : no_whole at since ≡ true
  pub unfailed : none is_failure since ≡ true
  pub young : t + count is_tick since < 3

back_on : {at t : ℕ} {log : List Mark} (x : Mark) → is_failure x ≡ false → is_stop x ≡ false → is_tick x ≡ false
    → Back at t log → Back at t (x ∷ log)
back_on x f s k b =
    record {
      since = x ∷ b.since;
      here = b.here;
      cut = ap (λ (l : List Mark). x ∷ l) b.cut;
      whole = b.whole;
      latest = rw s b.latest;
      unfailed = rw f b.unfailed;
      young = rw k b.young;
    }

back_tick : {at t : ℕ} {log : List Mark} → Back at (suc t) log → Back at t (Ticked ∷ log)
back_tick b =
    record {
      since = Ticked ∷ b.since;
      here = b.here;
      cut = ap (λ (l : List Mark). Ticked ∷ l) b.cut;
      whole = b.whole;
      latest = b.latest;
      unfailed = b.unfailed;
      young = let y = b.young in omega arith;
    }

back_stop : {at t : ℕ} {log : List Mark} → read_in at log ≡ nothing → Back at t log → Back at t (Ended ∷ log)
back_stop {at} {log = log} e b =
    let e' : read_in at (b.since ++ (Ended ∷ b.here)) ≡ nothing = rw b.cut at e in
    record {
      since = Ended ∷ b.since;
      here = b.here;
      cut = ap (λ (l : List Mark). Ended ∷ l) b.cut;
      whole = b.whole;
      latest = and_join (none (is_read at) b.since) (no_whole at b.since)
          (no_read at b.since b.here e' b.unfailed b.latest) b.latest;
      unfailed = b.unfailed;
      young = b.young;
    }

mutual_stop : (at t : ℕ) (l : List Mark) (q : Last) → read_in at l ≡ q → (lit_from at t l ≡ true → Back at t l)
    → decided q t (lit_from at t l) ≡ true → Back at t (Ended ∷ l)
mutual_stop at t l nothing e f h = back_stop e (f h)
mutual_stop at t l (gave v) e f h =
    let both = and_split (eqb v 1) (ltb t 3) h in
    let one = eqb-true v 1 both.0 in
    let few = ltb-true t 3 both.1 in
    record {
      since = [];
      here = l;
      cut = refl;
      whole = read_cut at 1 l (e ∙ ap gave one);
      latest = refl;
      unfailed = refl;
      young = omega arith;
    }

back : (at t : ℕ) (log : List Mark) → lit_from at t log ≡ true → Back at t log
unfolding lit_from
back at t [] h = no h
back at t (Failed ∷ l) h = no h
back at t (Ended ∷ l) h = mutual_stop at t l (read_in at l) refl (back at t l) h
back at t (Ticked ∷ l) h = back_tick (back at (suc t) l h)
back at t (Gave a v ∷ l) h = back_on (Gave a v) refl refl refl (back at t l h)
back at t (Other ∷ l) h = back_on Other refl refl refl (back at t l h)

forth : (at t : ℕ) (s b r : List Mark) → none is_stop b ≡ true → none (is_read at) b ≡ true → none is_failure b ≡ true
    → no_whole at s ≡ true → none is_failure s ≡ true → t + count is_tick s < 3
    → lit_from at t (s ++ (Ended ∷ (b ++ (Gave at 1 ∷ r)))) ≡ true
unfolding lit_from
forth at t [] b r e d f w u y = rw (cut_read at 1 b r e d f) (lt-ltb t 3 (omega arith))
forth at t (Failed ∷ s) b r e d f w u y = no u
forth at t (Ended ∷ s) b r e d f w u y =
    let both = and_split (none (is_read at) s) (no_whole at s) w in
    rw (read_none at s (b ++ (Gave at 1 ∷ r)) u both.0) (forth at t s b r e d f both.1 u y)
forth at t (Ticked ∷ s) b r e d f w u y = forth at (suc t) s b r e d f w u (omega arith)
forth at t (Gave a v ∷ s) b r e d f w u y = forth at t s b r e d f w u y
forth at t (Other ∷ s) b r e d f w u y = forth at t s b r e d f w u y

-- lit, in the request's words
pub lit_words : (at : ℕ) (log : List Mark) → lit_from at 0 log ≡ true → Lit at log
lit_words at log h =
    let b = back at 0 log h in
    record {
      since = b.since;
      between = b.whole.between;
      before = b.whole.before;
      cut = b.cut ∙ ap (λ (l : List Mark). b.since ++ (Ended ∷ l)) b.whole.cut;
      ended = b.whole.ended;
      last = b.whole.last;
      latest = b.latest;
      sound = b.whole.sound;
      unfailed = b.unfailed;
      young = let y = b.young in omega arith;
    }

pub words_lit : (at : ℕ) (log : List Mark) → Lit at log → lit_from at 0 log ≡ true
words_lit at log l =
    rw l.cut
    (forth at 0 l.since l.between l.before l.ended l.last l.sound l.latest l.unfailed (let y = l.young in omega arith))
