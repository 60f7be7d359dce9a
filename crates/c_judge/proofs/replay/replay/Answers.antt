-- SPDX-License-Identifier: Apache-2.0
-- A stretch more, and at the end: what is left of the events gives the whole verdict.
use Prim.Native.Nat.{ℕ, ◌+◌, ◌-◌, ◌≤◌}
use mathlib.Core.List.{List}
use mathlib.Core.Path.{◌≡◌, refl, sym, ap, ◌∙◌}
use native.Mathlib.Omega.{arith}
use lib.ListN.{length, drop, length-drop}
use lib.Seq.{drop-drop}
use borrow.Author.Rules.{rules}
use Rattle.fm3130_image.specs.Image.{candidate}
use Rattle.fm3130_image.proofs.Accepts.{image_well}
use Rattle.fm3130_list.specs.Run.{all_known}
use Rattle.c_judge.proofs.Replays.{section, part_length, part_known, left_end, cut_length, cut_events, judged_cut}
use Rattle.c_judge.proofs.Replays.{stretch_not, stretch_agreed, stretch_accepted}
use Rattle.c_judge.proofs.replay.replay.Goals as goal

pub with_room-told-requires-clause-events_known : goal.with_room-told-requires-clause-events_known
with_room-told-requires-clause-events_known c =
    let l = c.loop-rest in
    let a = c.args.answers.now in
    let low = l.invariant.0 in
    let n = c.min.ensures in
    let i = l.i in
    let k = c.min.result in
    let h : i + k ≤ length a = omega (arith, n, low) in
    let e = part_length c.args.file.now c.args.events (length a) c.requires.count_in_bounds in
    ap all_known (cut_events a _ _ i k l.invariant.1 c.split_at.ensures.front h c.args.file.now c.args.events)
    ∙ part_known i k (section c.args.file.now c.args.events (length a)) c.requires.events_known (omega (arith, h, e))

pub returns-then-not-agrees : goal.returns-then-not-agrees
returns-then-not-agrees c =
    let l = c.loop-rest in
    let f = c.args.file.now in
    let a = c.args.answers.now in
    let low = l.invariant.0 in
    let n = c.min.ensures in
    let i = l.i in
    let k = c.min.result in
    let h : i + k ≤ length a = omega (arith, n, low) in
    let e = part_length f c.args.events (length a) c.requires.count_in_bounds in
    let b : i + k ≤ length (section f c.args.events (length a)) = omega (arith, h, e) in
    let j = judged_cut a _ _ i k l.invariant.1 c.split_at.ensures.front h f c.args.events _ _ _ _ _ c.with_room-told.ensures in
    let d = sym c.agrees.ensures ∙ c.if-not-agrees.true in
    stretch_not (section f c.args.events (length a)) a (sym e) _ _ i _ b _ _ _ j d ∙ l.invariant.3

pub loop-rest-preserved : goal.loop-rest-preserved
loop-rest-preserved c =
    let l = c.loop-rest in
    let f = c.args.file.now in
    let a = c.args.answers.now in
    let low = l.invariant.0 in
    let n = c.min.ensures in
    let i = l.i in
    let k = c.min.result in
    let h : i + k ≤ length a = omega (arith, n, low) in
    let e = part_length f c.args.events (length a) c.requires.count_in_bounds in
    let b : i + k ≤ length (section f c.args.events (length a)) = omega (arith, h, e) in
    let j = judged_cut a _ _ i k l.invariant.1 c.split_at.ensures.front h f c.args.events _ _ _ _ _ c.with_room-told.ensures in
    let d = sym c.agrees.ensures ∙ c.if-not-agrees.false in
    let o : length c.split_at.result.1.now ≡ length l.rest.now - k = ap length c.split_at.ensures.back ∙ simp length-drop refl in
    let t : i + length c.split_at.result.0.now ≡ i + k = ap (λ (x : ℕ). i + x) (cut_length a _ _ i k l.invariant.1 c.split_at.ensures.front h) in (
      omega (arith, o, n, low, t),
      rw t (c.split_at.ensures.back ∙ ap (λ (x : List ℕ). drop k x) l.invariant.1 ∙ drop-drop k i a),
      stretch_accepted (section f c.args.events (length a)) a (sym e) _ _ i _ b _ _ _ j
          (image_well _ l.invariant.2.image) l.invariant.2.memory,
      rw t (stretch_agreed (section f c.args.events (length a)) a (sym e) _ _ i _ b _ _ _ j d ∙ l.invariant.3),
    )

pub returns : goal.returns
returns c =
    let l = c.loop-rest in
    let f = c.args.file.now in
    let a = c.args.answers.now in
    let low = l.invariant.0 in
    let z : length l.rest.now ≡ 0 = search rules in
    let q : l.i ≡ length a = omega (arith, z, low) in
    let e = part_length f c.args.events (length a) c.requires.count_in_bounds in
    sym (left_end (candidate l.image) l.memory (section f c.args.events (length a)) a l.i (omega (arith, e, q))) ∙ l.invariant.3
