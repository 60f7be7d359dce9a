-- SPDX-License-Identifier: Apache-2.0
-- The sections of a sound file, each accepted, and their replay.
use Prim.Native.Nat.{ℕ}
use mathlib.Core.Path.{refl, sym, ap, ◌∙◌}
use lib.ListN.{length, length-replicate}
use Rattle.fm3130_list.specs.Run.{all_known}
use Rattle.fm3130_image.specs.Code.Accepting.{is_image}
use Rattle.fm3130_image.proofs.Accepts.{image_long}
use Rattle.c_judge.proofs.Verdicts.{image_good, memory_length, events_known, events_inside, events_section, replay_found}
use Rattle.c_judge.proofs.judge.judge_sound.Goals as goal

pub copy-requires : goal.copy-requires
copy-requires c =
    length-replicate {A = ℕ} 64 0
    ∙ sym (ap length c.section.ensures ∙ image_long _ (image_good c.args.file.now c.requires))

pub copy-requires-2 : goal.copy-requires-2
copy-requires-2 c =
    length-replicate {A = ℕ} 8192 0
    ∙ sym (ap length c.section-2.ensures ∙ memory_length c.args.file.now c.requires)

pub replay-requires : goal.replay-requires
replay-requires c =
    let f = c.args.file.now in
    let z = c.requires in
    let i = c.copy.ensures ∙ c.section.ensures in
    let m = c.copy-2.ensures ∙ c.section-2.ensures in
    let ev = c.entry_of-events.ensures in
    let a = c.section-answers.ensures in record {
      accepted = record { image = ap is_image i ∙ image_good f z; memory = ap length m ∙ memory_length f z };
      count_in_bounds = rw a (events_inside f z _ ev);
      events_known = rw a (ap all_known (events_section f z _ ev) ∙ events_known f z _ refl);
    }

pub returns : goal.returns
returns c =
    let i = c.copy.ensures ∙ c.section.ensures in
    let m = c.copy-2.ensures ∙ c.section-2.ensures in
    c.replay.ensures ∙ replay_found c.args.file.now c.requires _ c.entry_of-events.ensures _ _ _ i m c.section-answers.ensures
