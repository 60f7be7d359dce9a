-- SPDX-License-Identifier: Apache-2.0
-- Demand 3 of the entry: what calls leave is what the run of their events leaves (`leaves_run`), and an image has the
-- state's registers, core and addresses at their places: so what the demand says of three states holds of three images.
-- The worked merge meets what is asked (`example_asked`).
use Prim.Native.Nat.{ℕ, ◌/◌, ◌%◌}
use mathlib.Core.Path.{◌≡◌, refl, sym, ap, ◌∙◌}
use mathlib.Core.List.{List, [], ◌∷◌}
use native.Mathlib.Omega.{arith}
use Rattle.calendar.specs.Width as width
use Rattle.fm3130_companion.specs.Registers.{register_bytes}
use Rattle.fm3130_companion.specs.Limits.{alarm_within, registers_within, is_within}
use Rattle.fm3130_companion.specs.declared.Companion.{Companion}
use Rattle.fm3130.specs.Chip.{fm3130}
use Rattle.fm3130.specs.declared.State.{State}
use Rattle.fm3130.proofs.Wellformed.{between_well_formed}
use Rattle.fm3130_image.specs.Image.{calendar_bytes, image_of}
use Rattle.fm3130_list.specs.Run.{run_of, outcome_of}
use Rattle.fm3130_list.specs.Held.{ran_by, held}
use Rattle.fm3130_list.specs.Calls.{left_of}
use Rattle.fm3130_image.proofs.Images.{decode_image}
use Rattle.fm3130_list.proofs.Calls.{left_by, leaves_run, one_call}
use Rattle.law_merging.specs.Merge.{events_of}
use Rattle.law_merging.specs.Party.{PartyEvent}
use Rattle.law_isolation.specs.Demand3.{bytes_of, Demanded}
use Rattle.law_isolation.specs.Example.{memory_list, companion_list, merged_list, started}
use Rattle.law_isolation.specs.Entry.{bytes_at, DemandedOf, Asked, DemandThreeOfCalls, DemandThreeOfCall}
use Rattle.law_isolation.proofs.Demand3.{demand_three}
use Rattle.law_isolation.proofs.Example.{memory_whole, companion_whole, lists_merge, writes_steady}

-- the places in an image
module _ (s : State) where
  registers_place : bytes_at 0 15 (image_of s) ≡ register_bytes s.companion.registers
  unfolding image_of
  registers_place = refl

  core_place : bytes_at 15 7 (image_of s) ≡ calendar_bytes s.companion.core
  unfolding image_of
  core_place = refl

  companion_address_place : bytes_at 22 1 (image_of s) ≡ s.companion.address ∷ []
  unfolding image_of
  companion_address_place = refl

  memory_address_place : bytes_at 23 2 (image_of s) ≡ s.address / 256 ∷ s.address % 256 ∷ []
  unfolding image_of
  memory_address_place = refl

-- what is demanded of runs, of what they leave and answer
pub demanded_left : (s : State) (m first second merged : List ℕ) (l : List (PartyEvent fm3130))
    → Demanded (ran_by (run_of s m first)) (ran_by (run_of s m second)) (ran_by (run_of s m merged)) l
    → DemandedOf (left_by (run_of s m first)) (left_by (run_of s m second)) (left_by (run_of s m merged)) l
demanded_left s m first second merged l d =
    let f = (run_of s m first).state in
    let g = (run_of s m second).state in
    let h = (run_of s m merged).state in
    record {
      memory = d.memory;
      memory_address =
          memory_address_place h ∙ (ap (λ (n : ℕ). n / 256 ∷ n % 256 ∷ []) d.memory_address
          ∙ sym (memory_address_place f));
      memory_lines = d.memory_lines;
      registers = registers_place h ∙ (ap (λ (c : Companion). register_bytes c.registers) d.companion ∙ sym
          (registers_place g));
      core = core_place h ∙ (ap (λ (c : Companion). calendar_bytes c.core) d.companion ∙ sym (core_place g));
      companion_address =
          companion_address_place h ∙ (ap (λ (c : Companion). c.address ∷ []) d.companion ∙ sym
          (companion_address_place g));
      companion_answers = d.companion_answers;
    }

pub demand_three_of_calls : DemandThreeOfCalls
demand_three_of_calls i m xs ys l q first second merged hf hs hm =
    let s = q.state in
    rw (
      leaves_run i m (bytes_of xs) first hf s q.holds,
      leaves_run i m (bytes_of ys) second hs s q.holds,
      leaves_run i m (bytes_of (events_of l)) merged hm s q.holds,
    )
    (demanded_left s m (bytes_of xs) (bytes_of ys) (bytes_of (events_of l)) l
    (demand_three (held s m) xs ys l q.on q.idle q.first q.second q.merge q.steady))

pub demand_three_of_call : DemandThreeOfCall
demand_three_of_call i m xs ys l q a b c f g h =
    demand_three_of_calls i m xs ys l q (left_of (outcome_of i m (bytes_of xs) a)) (left_of (outcome_of i m (bytes_of ys) b))
    (left_of (outcome_of i m (bytes_of (events_of l)) c))
    (one_call i m (bytes_of xs) a f) (one_call i m (bytes_of ys) b g) (one_call i m (bytes_of (events_of l)) c h)

-- the worked merge meets what is asked
pub example_asked : (m : List ℕ) → Asked (image_of started) m memory_list companion_list merged_list
unfolding is_within registers_within alarm_within width.is_within
example_asked m =
    record {
      state = started;
      holds = decode_image started (between_well_formed started refl (omega arith) refl);
      on = refl;
      idle = refl;
      first = memory_whole;
      second = companion_whole;
      merge = lists_merge;
      steady = writes_steady m;
    }
