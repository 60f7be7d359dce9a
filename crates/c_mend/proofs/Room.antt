-- SPDX-License-Identifier: Apache-2.0
-- Room for every list: a calendar has seven registers, and each takes three bytes. An image whose seven registers are all
-- impossible needs them all; with so many lent no image is refused for want of room, and past them nothing is written.
use Prim.Native.Nat.{ℕ, ◌+◌, ◌-◌, ◌≤◌}
use mathlib.Core.Path.{◌≡◌, refl, sym, ap, ◌∙◌}
use mathlib.Core.Bool.{true}
use mathlib.Core.List.{List}
use native.Mathlib.Omega.{arith}
use lib.ListN.{length, drop}
use lib.Seq.{drop-append-add, drop-drop}
use Rattle.std.specs.Prelude.{Option, Some, None}
use Rattle.calendar.specs.Field.{in_field}
use Rattle.calendar.specs.Month.{month_length}
use Rattle.calendar.specs.Mend.{ranged_of, mended_of}
use Rattle.calendar.specs.Width as width
use Rattle.fm3130_companion.proofs.LimitFacts.{within_facts, within_test}
use Rattle.fm3130_companion.proofs.Within.{lost_within}
use Rattle.fm3130.specs.Limits.{well_formed}
use Rattle.fm3130.specs.Power.{fresh}
use Rattle.fm3130.specs.declared.State.{State}
use Rattle.fm3130.proofs.Wellformed.{between_well_formed}
use Rattle.fm3130_image.specs.Image.{image_of, decode_of}
use Rattle.fm3130_image.proofs.Images.{decode_image}
use Rattle.c_mend.specs.Changes.{change_of, changes_from, changed_count}
use Rattle.c_mend.specs.Mend.{Outcome, mended_state, time_bytes, changes_in, written, mend_of}
use Rattle.c_mend.specs.Laws.{room, impossible, AlwaysEnough, NoMoreWritten, AllNeeded}
use Rattle.c_mend.proofs.Listing.{count_le, three_bytes_each}
use Rattle.c_mend.proofs.Ways.{Way, refused_by_lem, written_for, way, mend_wrong_image, mend_written, mend_short}

-- a state whose registers are all impossible
impossible_time : width.is_within impossible.companion.registers.time ≡ true
unfolding width.is_within
impossible_time = refl

impossible_well_formed : well_formed impossible ≡ true
impossible_well_formed =
    let w = within_facts fresh.companion lost_within in
    let r = w.registers in
    between_well_formed impossible refl (omega arith)
    (within_test impossible.companion
    (record {
      address = w.address;
      registers =
          record { trim = r.trim; time = impossible_time; hours = r.hours; date = r.date; month = r.month };
      core = w.core;
    }))

impossible_listed : length (changes_in impossible) ≡ room
unfolding changes_from change_of ranged_of mended_of in_field month_length
impossible_listed = refl

pub all_needed : AllNeeded
all_needed ch h =
    let n = impossible_listed in
    mend_short (image_of impossible) ch impossible (decode_image impossible impossible_well_formed) (omega arith)

-- every list has room
list_fits : (s : State) → length (changes_in s) ≤ room
list_fits s =
    let bytes = three_bytes_each 2 (time_bytes s) (time_bytes (mended_state s)) in
    let count : changed_count (time_bytes s) (time_bytes (mended_state s)) ≤ 7 =
    count_le (time_bytes s) (time_bytes (mended_state s)) in
    omega arith

pub always_enough : AlwaysEnough
always_enough i ch h e = on (decode_of i) refl
  where
    on : (d : Option State) → decode_of i ≡ d → ⊥
    on None f =
        let n = sym (ap (λ (o : Outcome). o.number) (mend_wrong_image i ch f)) ∙ e in omega arith
    on (Some s) f =
        let fits = list_fits s in
        let n = sym (ap (λ (o : Outcome). o.number) (mend_written i ch s f (omega arith))) ∙ e in
        omega arith

-- past the list the lent bytes are as they were, so past the room too
written_within : (s : State) (ch : List ℕ) → drop room (written s ch).changes ≡ drop room ch
written_within s ch =
    let l = changes_in s in
    let rest = room - length l in
    let fits = list_fits s in
    let seam : length l + rest ≡ room = omega arith in
    ap (λ (k : ℕ). drop k (written s ch).changes) (sym seam)
    ∙ drop-append-add l (drop (length l) ch) rest
    ∙ drop-drop rest (length l) ch
    ∙ ap (λ (k : ℕ). drop k ch) seam

pub no_more_written : NoMoreWritten
no_more_written i ch = by_way (way i ch)
  where
    by_way : Way i ch → drop room (mend_of i ch).changes ≡ drop room ch
    by_way (refused_by_lem n h e) = rw e refl
    by_way (written_for s w e) = rw e (written_within s ch)
