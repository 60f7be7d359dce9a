-- SPDX-License-Identifier: Apache-2.0
-- Parts of a list of events: none, one event more, two parts one after the other, all; and the same of the images in which
-- the states lie.
use Prim.Native.Nat.{ℕ, ◌+◌, ◌-◌, ◌<◌, ◌≤◌}
use mathlib.Core.Path.{◌≡◌, refl, sym, ap, ◌∙◌}
use mathlib.Core.Bool.{true}
use mathlib.Core.List.{List}
use native.Mathlib.Omega.{arith}
use lib.ListN.{length, drop, get_or, set, length-set}
use lib.Seq.{drop-drop}
use Rattle.wire.proofs.Tests.{and_join}
use Rattle.fm3130.specs.Chip.{memory_size, Done}
use Rattle.fm3130.specs.Event.{event_of}
use Rattle.fm3130.specs.Limits.{well_formed}
use Rattle.fm3130.specs.declared.State.{State}
use Rattle.fm3130.proofs.Wellformed.{event_ok}
use Rattle.bus_image.proofs.Lists.{same_self}
use Rattle.fm3130_image.specs.Image.{image_of, candidate}
use Rattle.fm3130_image.specs.Code.Accepting.{is_image}
use Rattle.fm3130_image.proofs.Images.{candidate_of}
use Rattle.fm3130_image.proofs.Accepts.{image_well, image_written}
use Rattle.fm3130_list.specs.Run.{answer_to, RanThrough}
use Rattle.place_rows.specs.Code.Led.{Led}
use Rattle.fm3130_list.proofs.Runs.{run_more, run_done, rest_kept}

-- no event
pub led_none : (es : List ℕ) (s : State) (m a : List ℕ) (i : ℕ) → i ≤ length es → well_formed s ≡ true
    → length m ≡ memory_size → Led es s m a i s m a i
led_none es s m a i h w l =
    record { onward = omega arith; inside = h; room = refl; state = w; memory = l; run = refl; rest = refl }

-- the answers past a later place
pub rest_later : (a b : List ℕ) (i j : ℕ) → i ≤ j → drop i a ≡ drop i b → drop j a ≡ drop j b
rest_later a b i j h e =
    let n : i + (j - i) ≡ j = omega arith in
    ap (λ (k : ℕ). drop k a) (sym n) ∙ sym (drop-drop (j - i) i a) ∙ ap (λ (l : List ℕ). drop (j - i) l) e
    ∙ drop-drop (j - i) i b ∙ ap (λ (k : ℕ). drop k b) n

-- one event more
module _ (es : List ℕ) (s : State) (m a : List ℕ) (i : ℕ) (s' : State) (m' a' : List ℕ) (i' : ℕ) where
  pub led_more : Led es s m a i s' m' a' i' → i' < length es → length es ≤ length a
      → (d : Done) → event_of s' m' (get_or es i' 0) ≡ d → (v : ℕ) → v ≡ answer_to d
      → Led es s m a i d.state d.memory (set a' i' v) (i' + 1)
  led_more l h r d e v f =
      let o = event_ok s' m' (get_or es i' 0) l.state l.memory in
      let g = l.room in
      record {
        onward = omega (arith, l.onward);
        inside = omega arith;
        room = length-set a' i' v ∙ l.room;
        state = ap (λ (x : Done). well_formed x.state) (sym e) ∙ o.state;
        memory = ap (λ (x : Done). length x.memory) (sym e) ∙ o.memory;
        run = rw (f, ← e) (run_more s' m' es a' i' h (omega arith) ∙ l.run);
        rest = rest_kept a' a i' v l.rest;
      }

  -- two parts, one after the other
  pub led_on : (s'' : State) (m'' a'' : List ℕ) (i'' : ℕ) → Led es s m a i s' m' a' i' → Led es s' m' a' i' s'' m'' a'' i''
      → Led es s m a i s'' m'' a'' i''
  led_on s'' m'' a'' i'' l k =
      record {
        onward = omega (arith, l.onward, k.onward);
        inside = k.inside;
        room = k.room ∙ l.room;
        state = k.state;
        memory = k.memory;
        run = k.run ∙ l.run;
        rest = k.rest ∙ rest_later a' a i' i'' k.onward l.rest;
      }

-- what a well-formed state writes is accepted
pub image_accepted : (i : List ℕ) (s : State) → i ≡ image_of s → well_formed s ≡ true → is_image i ≡ true
unfolding is_image
image_accepted i s e w = rw (e, candidate_of s) (and_join _ _ w (same_self (image_of s)))

-- the state that lies in an image
pub lies : (i : List ℕ) (s : State) → i ≡ image_of s → candidate i ≡ s
lies i s e = ap candidate e ∙ candidate_of s

module _ (es i m a : List ℕ) (from : ℕ) where
  -- no event of a list
  pub begun : is_image i ≡ true → length m ≡ memory_size → from ≤ length es → Led es (candidate i) m a from (candidate i) m a from
  begun h l n = led_none es (candidate i) m a from n (image_well i h) l

-- the whole list
pub led_through : (es i m a i' m' a' : List ℕ) (j : ℕ) → length es ≤ j → is_image i' ≡ true
    → Led es (candidate i) m a 0 (candidate i') m' a' j → RanThrough (candidate i) m es a i' m' a'
led_through es i m a i' m' a' j n h l =
    run_done (candidate i) (candidate i') m m' es a a' j l.inside n l.run l.rest i' (sym (image_written i' h))
