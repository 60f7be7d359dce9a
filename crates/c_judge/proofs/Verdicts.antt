-- SPDX-License-Identifier: Apache-2.0
-- No second verdict has the figures of a verdict. Then the ways through the judge's tests, and that the replay of what
-- is found in a sound file is the verdict on it.
use Prim.Native.Nat.{ℕ, ◌+◌, ◌≤◌, ◌<◌}
use mathlib.Core.Path.{◌≡◌, refl, sym, ap, ◌∙◌}
use mathlib.Core.Bool.{true, cond, false≢true}
use mathlib.Core.List.{List}
use native.Mathlib.Omega.{arith}
use lib.Dec.{eqb}
use lib.ListN.{length, take, drop}
use borrow.Author.Tests.{le-leb, lt-leb, eqb-true}
use Rattle.std.specs.Prelude.{Option, Some, None, is_some}
use Rattle.wire.proofs.Tests.{by_test}
use Rattle.fm3130.specs.Chip.{memory_size}
use Rattle.fm3130_image.specs.Image.{candidate, decode_of}
use Rattle.fm3130_list.specs.Run.{run_of, all_known}
use Rattle.fm3130_image.specs.Code.Accepting.{is_image}
use Rattle.fm3130_image.proofs.Accepts.{image_not_read}
use Rattle.capture_table.specs.Table.{body_of, is_accepted, image_kind, memory_kind, events_kind, answers_kind}
use Rattle.capture_table.specs.Sections.{first_faulty, entry_of, section_of}
use Rattle.capture_table.specs.declared.Entry.{Entry}
use Rattle.capture_table.proofs.Sound.{sound_of}
use Rattle.capture_table.proofs.Finding.{even, accepted, inside}
use Rattle.c_judge.specs.Verdict.{limit, figures_of, compared, right_answers, verdict_on, verdict_of}
use Rattle.c_judge.specs.Verdict.{JudgeSettled, JudgeForCSettled}
use Rattle.c_judge.proofs.Replays.{part_length}
use Rattle.c_judge.specs.declared.Figures.{Figures}
use Rattle.c_judge.specs.declared.Judgement.{Judgement}
use Rattle.c_judge.specs.declared.Verdict.{Verdict}
use Rattle.c_judge.specs.declared.Verdict.TheVariants.{Agree, Differs, Faulty, TooLong}

-- the verdict that figures are of
abbrev verdict_from : Figures → Verdict
verdict_from g =
    cond (eqb g.number 0) (Agree g.place)
    (cond (eqb g.number 1) (Differs g.place g.recorded g.right)
    (cond (eqb g.number 2) (Faulty g.place) TooLong))

pub from_figures : (v : Verdict) → verdict_from (figures_of v) ≡ v
from_figures (Agree n) = refl
from_figures (Differs n b r) = refl
from_figures (Faulty n) = refl
from_figures TooLong = refl

pub figures_injective : (v w : Verdict) → figures_of v ≡ figures_of w → v ≡ w
figures_injective v w e = sym (from_figures v) ∙ ap verdict_from e ∙ from_figures w

-- no second verdict satisfies the contract, and it is the verdict on the file
pub judge_is_verdict : (f : List ℕ) (v : Verdict) → JudgeSettled f v → v ≡ verdict_of f
judge_is_verdict f v p = figures_injective v (verdict_of f) p

pub judge_unique : (f : List ℕ) (v w : Verdict) → JudgeSettled f v → JudgeSettled f w → v ≡ w
judge_unique f v w p q = judge_is_verdict f v p ∙ sym (judge_is_verdict f w q)

pub judge_for_c_unique : (f : List ℕ) (v w : Judgement) → JudgeForCSettled f v → JudgeForCSettled f w → v ≡ w
judge_for_c_unique f v w p q = p ∙ sym q

module _ (f : List ℕ) where
  pub verdict_too_long : limit < length f → TooLong ≡ verdict_of f
  unfolding verdict_of
  verdict_too_long h = rw (lt-leb (length f) limit h)

  module _ (l : length f ≤ limit) where
    pub verdict_by : (o : Option ℕ) → o ≡ first_faulty f → verdict_on f o ≡ verdict_of f
    unfolding verdict_of
    verdict_by o e = rw (le-leb (length f) limit l, e)

    pub verdict_faulty : (n : ℕ) → first_faulty f ≡ Some n → Faulty n ≡ verdict_of f
    verdict_faulty n h = verdict_by (Some n) (sym h)

    verdict_replayed : first_faulty f ≡ None → compared 0 (right_answers f) (section_of f answers_kind) ≡ verdict_of f
    verdict_replayed h = verdict_by None (sym h)

-- what the sections of a sound file hold
module _ (f : List ℕ) (z : first_faulty f ≡ None) where
  image_state : decode_of (section_of f image_kind) ≡ None → ⊥
  unfolding is_accepted
  image_state b =
      let t : is_some (decode_of (section_of f image_kind)) ≡ true = accepted f z image_kind (omega arith) (omega arith) in
      false≢true (rw b at t)

  pub image_good : is_image (section_of f image_kind) ≡ true
  image_good =
      by_test (is_image (section_of f image_kind)) (λ t. t)
      (λ t. absurd (image_state (image_not_read (section_of f image_kind) t)))

  pub memory_length : length (section_of f memory_kind) ≡ memory_size
  unfolding is_accepted
  memory_length =
      let t : eqb (length (section_of f memory_kind)) memory_size ≡ true =
      accepted f z memory_kind (omega arith) (omega arith) in
      eqb-true _ _ t

  pub events_known : (e : Entry) → e ≡ entry_of f events_kind → all_known (body_of f e) ≡ true
  unfolding is_accepted
  events_known e p =
      let t : all_known (section_of f events_kind) ≡ true = accepted f z events_kind (omega arith) (omega arith) in
      rw p t

  -- the answers are as many as the events
  pub counts : length (section_of f answers_kind) ≡ length (section_of f events_kind)
  counts =
      let e = inside f z events_kind (omega arith) (omega arith) _ refl in
      let a = inside f z answers_kind (omega arith) (omega arith) _ refl in
      part_length f (entry_of f answers_kind).from (entry_of f answers_kind).size a ∙ sym (even f (sound_of f z))
      ∙ sym (part_length f (entry_of f events_kind).from (entry_of f events_kind).size e)

  -- so the answers are all there where as many are looked for as there are events
  pub answers_inside : (ev an : Entry) → ev ≡ entry_of f events_kind → an ≡ entry_of f answers_kind → an.from + ev.size ≤ length f
  answers_inside ev an pe pa =
      let h = inside f z answers_kind (omega arith) (omega arith) an pa in
      let n : ev.size ≡ an.size = ap (λ (x : Entry). x.size) pe ∙ even f (sound_of f z) ∙ ap (λ (x : Entry). x.size) (sym pa) in
      omega arith

  -- as many events as answers, from the place of the events on, are those of the file
  module _ (ev : Entry) (pe : ev ≡ entry_of f events_kind) where
    sizes : length (section_of f answers_kind) ≡ ev.size
    sizes =
        counts ∙ ap (λ (x : Entry). length (body_of f x)) (sym pe)
        ∙ part_length f ev.from ev.size (inside f z events_kind (omega arith) (omega arith) ev pe)

    pub events_inside : ev.from + length (section_of f answers_kind) ≤ length f
    events_inside = rw sizes (inside f z events_kind (omega arith) (omega arith) ev pe)

    pub events_section : take (length (section_of f answers_kind)) (drop ev.from f) ≡ section_of f events_kind
    events_section = rw sizes (ap (body_of f) pe)

    -- the replay of what was found is the verdict
    pub replay_found : (i m bs : List ℕ) → i ≡ section_of f image_kind → m ≡ section_of f memory_kind → bs ≡ section_of f answers_kind
        → compared 0 (run_of (candidate i) m (take (length bs) (drop ev.from f))).answers bs ≡ verdict_on f None
    replay_found i m bs pi pm pb = rw (pi, pm, pb, events_section)

  -- the same by both entries, of a file that is not too long
  pub replay_done : (ev an : Entry) → ev ≡ entry_of f events_kind → an ≡ entry_of f answers_kind → length f ≤ limit
      → (i m : List ℕ) → i ≡ section_of f image_kind → m ≡ section_of f memory_kind
      → compared 0 (run_of (candidate i) m (body_of f ev)).answers (take ev.size (drop an.from f)) ≡ verdict_of f
  replay_done ev an pe pa l i m pi pm =
      let n : ev.size ≡ an.size = ap (λ (x : Entry). x.size) pe ∙ even f (sound_of f z) ∙ ap (λ (x : Entry). x.size) (sym pa) in
      let a : take ev.size (drop an.from f) ≡ section_of f answers_kind = rw n (ap (body_of f) pa) in
      rw (a, pm, pi, ap (body_of f) pe) (verdict_replayed f l z)
