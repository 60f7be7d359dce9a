-- SPDX-License-Identifier: Apache-2.0
-- Demand 3 of the entry itself: what three runs from one image and one memory leave and answer, the third with a merge
-- of the first two lists. Each is one call of the list run, or its list cut into several calls that hand image and
-- memory on (`Leaves` of fm3130_list/specs/Calls.antt).
--   bytes_at               some bytes of an image
--   DemandedOf            what holds of the three runs
--   Asked                 what is asked of the image, the lists and the merge
--   DemandThreeOfCalls    the demand                DemandThreeOfCall   the same, of one call each
use Rattle.std.specs.Prelude.{ℕ, ◌≡◌, List, take, drop, Some}
use Rattle.wire.specs.declared.Side.TheVariants.{Memory, Companion}
use Rattle.wire.specs.declared.Phase.TheVariants.{Idle}
use Rattle.bus.specs.declared.Power.TheVariants.{On}
use Rattle.fm3130.specs.Chip.{fm3130}
use Rattle.numbers.specs.Numbers.{accepted}
use Rattle.fm3130.specs.declared.State.{State}
use Rattle.fm3130_image.specs.Image.{decode_of}
use Rattle.fm3130_list.specs.Run.{outcome_of}
use Rattle.fm3130_list.specs.Held.{held}
use Rattle.fm3130_list.specs.Calls.{Left, left_of, Leaves}
use Rattle.law_merging.specs.Merge.{events_of, picked}
use Rattle.law_merging.specs.Party.{to, is_memory, is_companion, BusEvent, PartyEvent, Whole}
use Rattle.law_merging.specs.Demand.{Merge}
use Rattle.law_isolation.specs.Demand3.{bytes_of, lines_of, WritesSteadyIn}

-- n bytes of an image from a place on (docs/IMAGE.md): the registers are bytes 0 to 14, the core is 15 to 21, the
-- companion address 22, the memory address 23 and 24.
abbrev pub bytes_at : ℕ → ℕ → List ℕ → List ℕ
bytes_at place n i = take n (drop place i)

-- Memory, its address and the line answers to memory events as the first run left and gave them; registers, core,
-- companion address and the whole answers to companion events and ticks as the second did.
pub record DemandedOf (first second merged : Left) (l : List (PartyEvent fm3130)) : Type 0 where
  pub memory : merged.memory ≡ first.memory
  pub memory_address : bytes_at 23 2 merged.image ≡ bytes_at 23 2 first.image
  pub memory_lines : lines_of (picked is_memory l merged.answers) ≡ lines_of first.answers
  pub registers : bytes_at 0 15 merged.image ≡ bytes_at 0 15 second.image
  pub core : bytes_at 15 7 merged.image ≡ bytes_at 15 7 second.image
  pub companion_address : bytes_at 22 1 merged.image ≡ bytes_at 22 1 second.image
  pub companion_answers : picked is_companion l merged.answers ≡ second.answers

-- What demand 3 asks of the image's state, of the two lists and of their merge.
pub record Asked (i m : List ℕ) (xs ys : List (BusEvent fm3130)) (l : List (PartyEvent fm3130)) : Type 0 where
  pub state : State
  pub holds : decode_of i ≡ Some state
  pub on : state.power ≡ On
  pub idle : state.phase ≡ Idle
  pub first : Whole fm3130 (to Memory) xs
  pub second : Whole fm3130 (to Companion) ys
  pub merge : Merge fm3130 xs ys l
  pub steady : WritesSteadyIn (held state m) ys

-- Demand 3, of what calls leave and answer.
abbrev pub DemandThreeOfCalls : Type 0
DemandThreeOfCalls =
    (i m : List ℕ) (xs ys : List (BusEvent fm3130)) (l : List (PartyEvent fm3130)) → Asked i m xs ys l
    → (first second merged : Left)
    → Leaves i m (bytes_of xs) first → Leaves i m (bytes_of ys) second → Leaves i m (bytes_of (events_of l)) merged
    → DemandedOf first second merged l

-- Of one call each, under number 0, with answers a, b and c.
abbrev pub DemandThreeOfCall : Type 0
DemandThreeOfCall =
    (i m : List ℕ) (xs ys : List (BusEvent fm3130)) (l : List (PartyEvent fm3130)) → Asked i m xs ys l
    → (a b c : List ℕ) → let first = outcome_of i m (bytes_of xs) a in
    let second = outcome_of i m (bytes_of ys) b in
    let merged = outcome_of i m (bytes_of (events_of l)) c in
    first.number ≡ accepted → second.number ≡ accepted → merged.number ≡ accepted
    → DemandedOf (left_of first) (left_of second) (left_of merged) l
