-- SPDX-License-Identifier: Apache-2.0
-- Parts of a list of events: none, one event more, two parts one after the other, all.
use Prim.Native.Nat.{ℕ, ◌+◌, ◌-◌, ◌<◌, ◌≤◌}
use mathlib.Core.Path.{◌≡◌, refl, sym, ap, ◌∙◌}
use mathlib.Core.List.{List}
use native.Mathlib.Omega.{arith}
use lib.ListN.{length, drop, get_or, set, length-set}
use lib.Seq.{drop-drop}
use Rattle.bus_list.specs.Run.{Stepped, run_of, RanThrough}
use Rattle.bus_list.proofs.Runs.{Keeps, run_more, run_done, rest_kept}
use Rattle.law_stretch.specs.Led.{Led}

-- the answers past a later place
pub rest_later : (a b : List ℕ) (i j : ℕ) → i ≤ j → drop i a ≡ drop i b → drop j a ≡ drop j b
rest_later a b i j h e =
    let n : i + (j - i) ≡ j = omega arith in
    ap (λ (k : ℕ). drop k a) (sym n) ∙ sym (drop-drop (j - i) i a) ∙ ap (λ (l : List ℕ). drop (j - i) l) e
    ∙ drop-drop (j - i) i b ∙ ap (λ (k : ℕ). drop k b) n

module _ {State : Type 0} (after : State → List ℕ → ℕ → Stepped State) (Ok : State → Type 0) (size : ℕ) where
  -- no event
  pub led_none : (es : List ℕ) (s : State) (m a : List ℕ) (i : ℕ) → i ≤ length es → Ok s → length m ≡ size
      → Led after Ok size es s m a i s m a i
  led_none es s m a i h w l =
      record { onward = omega arith; inside = h; room = refl; state = w; memory = l; run = refl; rest = refl }

  module _ (es : List ℕ) (s : State) (m a : List ℕ) (i : ℕ) (s' : State) (m' a' : List ℕ) (i' : ℕ) where
    -- one event more
    pub led_more : Keeps after Ok size → Led after Ok size es s m a i s' m' a' i' → i' < length es → length es ≤ length a
        → (d : Stepped State) → after s' m' (get_or es i' 0) ≡ d → (v : ℕ) → v ≡ d.answer
        → Led after Ok size es s m a i d.state d.memory (set a' i' v) (i' + 1)
    led_more k l h r d e v f =
        let g = l.room in
        record {
          onward = omega (arith, l.onward);
          inside = omega arith;
          room = length-set a' i' v ∙ l.room;
          state = rw (← e) (k.state s' m' (get_or es i' 0) l.state l.memory);
          memory = ap (λ (x : Stepped State). length x.memory) (sym e) ∙ k.memory s' m' (get_or es i' 0) l.state l.memory;
          run = rw (f, ← e) (run_more after s' m' es a' i' h (omega arith) ∙ l.run);
          rest = rest_kept a' a i' v l.rest;
        }

    -- two parts, one after the other
    pub led_on : (s'' : State) (m'' a'' : List ℕ) (i'' : ℕ) → Led after Ok size es s m a i s' m' a' i'
        → Led after Ok size es s' m' a' i' s'' m'' a'' i'' → Led after Ok size es s m a i s'' m'' a'' i''
    led_on s'' m'' a'' i'' l k =
        record {
          onward = omega (arith, l.onward, k.onward);
          inside = k.inside;
          room = k.room ∙ l.room;
          state = k.state;
          memory = k.memory;
          run = k.run ∙ l.run;
          rest = k.rest ∙ rest_later a' a i' i'' k.onward l.rest;
        }

  -- the whole list, with what is kept of the state
  pub led_through : {Kept : Type 0} (keep : State → Kept) (es : List ℕ) (s : State) (m a : List ℕ) (s' : State) (m' a' : List ℕ)
      (j : ℕ) → length es ≤ j → Led after Ok size es s m a 0 s' m' a' j → (k : Kept) → k ≡ keep s'
      → RanThrough (run_of after) keep s m es a k m' a'
  led_through keep es s m a s' m' a' j n l k e = run_done after keep s s' m m' es a a' j l.inside n l.run l.rest k e
