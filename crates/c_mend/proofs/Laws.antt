-- SPDX-License-Identifier: Apache-2.0
-- What the entry does, by the bytes of the image: a state that writes an image has its calendars at bytes 2 and 15, and the
-- state put right differs in these alone. A well-formed state put right is well-formed, so its image is accepted again; and
-- there it is valid, so it stays.
use Prim.Native.Nat.{ℕ, ◌≤◌}
use mathlib.Core.Path.{◌≡◌, refl, sym, ap, subst, ◌∙◌}
use mathlib.Core.Bool.{true}
use mathlib.Core.List.{List, [], append-nil}
use native.Mathlib.Omega.{arith}
use native.Mathlib.Nat.{zero-add}
use lib.Dec.{T}
use lib.ListN.{length, take, drop}
use lib.Seq.{take-append_seam, drop-append_seam}
use Rattle.calendar.specs.Next.{is_valid}
use Rattle.calendar.specs.Mend.{mended_of}
use Rattle.calendar.specs.declared.Calendar.{Calendar}
use Rattle.calendar.proofs.Mend.{mended_valid, mended_same, mended_twice}
use Rattle.calendar.proofs.Width.{valid_within}
use Rattle.fm3130_companion.specs.Limits.{is_within}
use Rattle.fm3130_companion.specs.declared.Companion.{Companion}
use Rattle.fm3130_companion.proofs.LimitFacts.{within_facts, within_test}
use Rattle.fm3130.specs.Limits.{well_formed}
use Rattle.numbers.specs.Numbers.{accepted}
use Rattle.fm3130.specs.declared.State.{State}
use Rattle.fm3130.proofs.Entry.{limits_of, of_limits}
use Rattle.fm3130_image.specs.Image.{calendar_bytes, calendar_at, image_of, decode_of}
use Rattle.fm3130_image.proofs.Images.{decode_image, image_registers}
use Rattle.c_mend.specs.Changes.{changes_from, changed_count}
use Rattle.c_mend.specs.Mend.{Outcome, mended_companion, mended_state, time_bytes, changes_in, written, mend_of}
use Rattle.c_mend.specs.Laws.{registers_in, core_in, Elsewhere, EverythingElseStays, EachByItself, OutputValid, Listed, ListsWhatChanged, ValidGivesNone, ValidStays, TwiceIsOnce}
use Rattle.c_mend.proofs.Listing.{change_none, changed_none, changes_none, count_none, three_bytes_each}
use Rattle.c_mend.proofs.Ways.{Way, refused_by_lem, written_for, way, mend_written}

-- where a state's image has its two calendars
registers_in_lem : (s : State) → registers_in (image_of s) ≡ s.companion.registers.time
unfolding image_of calendar_at
registers_in_lem s = refl

core_in_lem : (s : State) → core_in (image_of s) ≡ s.companion.core
unfolding image_of calendar_at
core_in_lem s = refl

-- the image of a state put right
mended_elsewhere : (s : State) → Elsewhere (image_of s) (image_of (mended_state s))
unfolding image_of
mended_elsewhere s = record { all = refl; front = refl; between = refl; rest = refl }

pub everything_else_stays : EverythingElseStays
everything_else_stays i ch = by_way (way i ch)
  where
    by_way : Way i ch → Elsewhere i (mend_of i ch).image
    by_way (refused_by_lem n h e) = rw e (record { all = refl; front = refl; between = refl; rest = refl })
    by_way (written_for s w e) = rw (e, ← w.1) (mended_elsewhere s)

-- a refusal is not accepted
refuted : {X : Type 0} (i ch : List ℕ) (n : ℕ) → 1 ≤ n → (mend_of i ch).number ≡ n → (mend_of i ch).number ≡ accepted → X
refuted i ch n h e a = let z : n ≡ 0 = sym e ∙ a in absurd (omega arith)

pub each_by_itself : EachByItself
each_by_itself i ch a = by_way (way i ch)
  where
    by_way : Way i ch
        → (registers_in (mend_of i ch).image ≡ mended_of (registers_in i)) × (core_in (mend_of i ch).image ≡ mended_of (core_in i))
    by_way (refused_by_lem n h e) = refuted i ch n h (ap (λ (o : Outcome). o.number) e) a
    by_way (written_for s w e) =
        let image = ap (λ (o : Outcome). o.image) e in (
          ap registers_in image ∙ (registers_in_lem (mended_state s)
              ∙ ap mended_of (sym (registers_in_lem s) ∙ ap registers_in w.1)),
          ap core_in image ∙ (core_in_lem (mended_state s) ∙ ap mended_of (sym (core_in_lem s) ∙ ap core_in w.1)),
        )

pub output_valid : OutputValid
output_valid i ch a =
    let each = each_by_itself i ch a in (
      subst (λ (c : Calendar). T (is_valid c)) (sym each.0) (mended_valid (registers_in i)),
      subst (λ (c : Calendar). T (is_valid c)) (sym each.1) (mended_valid (core_in i)),
    )

-- of all fifteen registers, only 02h to 08h can have changed
module _ (s : State) where
  changes_of_all : changes_from 0 (take 15 (image_of s)) (take 15 (image_of (mended_state s))) ≡ changes_in s
  unfolding changes_from
  changes_of_all = rw (image_registers s, image_registers (mended_state s)) (simp (change_none, append-nil))

  count_of_all : changed_count (take 15 (image_of s)) (take 15 (image_of (mended_state s)))
      ≡ changed_count (time_bytes s) (time_bytes (mended_state s))
  unfolding changed_count
  count_of_all = rw (image_registers s, image_registers (mended_state s)) (simp (changed_none, zero-add))

  written_listed : (ch : List ℕ)
      → Listed (image_of s) ch (image_of (mended_state s)) (written s ch).changes (written s ch).count
  written_listed ch =
      let n = three_bytes_each 2 (time_bytes s) (time_bytes (mended_state s)) in
      let l = changes_in s in
      record {
        list =
            ap (λ (k : ℕ). take k (written s ch).changes) (sym n)
            ∙ (take-append_seam l (drop (length l) ch) ∙ sym changes_of_all);
        past =
            ap (λ (k : ℕ). drop k (written s ch).changes) (sym n)
            ∙ (drop-append_seam l (drop (length l) ch) ∙ ap (λ (k : ℕ). drop k ch) n);
        counted = sym count_of_all;
      }

pub lists_what_changed : ListsWhatChanged
lists_what_changed i ch = by_way (way i ch)
  where
    by_way : Way i ch → Listed i ch (mend_of i ch).image (mend_of i ch).changes (mend_of i ch).count
    by_way (refused_by_lem n h e) =
        rw e
        (record { list = sym (changes_none 0 (take 15 i)); past = refl; counted = sym (count_none (take 15 i)) })
    by_way (written_for s w e) = rw (e, ← w.1) (written_listed s ch)

-- valid registers: the list is empty, so it has room in any buffer
module _ (s : State) (v : T (is_valid s.companion.registers.time)) where
  same_bytes_lem : time_bytes (mended_state s) ≡ time_bytes s
  same_bytes_lem = ap calendar_bytes (mended_same s.companion.registers.time v)

  none_listed : changes_in s ≡ []
  none_listed = rw same_bytes_lem (changes_none 2 (time_bytes s))

  none_counted : changed_count (time_bytes s) (time_bytes (mended_state s)) ≡ 0
  none_counted = rw same_bytes_lem (count_none (time_bytes s))

pub valid_gives_none : ValidGivesNone
valid_gives_none i ch s w v =
    let t = subst (λ (c : Calendar). T (is_valid c)) (sym (ap registers_in w.1) ∙ registers_in_lem s) v in
    let l = none_listed s t in
    let d = ap decode_of (sym w.1) ∙ decode_image s w.0 in
    let room : length (changes_in s) ≤ length ch = rw l (omega arith) in
    mend_written i ch s d room ∙ rw (l, none_counted s t) refl

-- a well-formed state put right is well-formed
companion_within : (c : Companion) → is_within c ≡ true → is_within (mended_companion c) ≡ true
companion_within c h =
    let w = within_facts c h in
    let r = w.registers in
    within_test (mended_companion c)
    (record {
      address = w.address;
      registers =
          record {
            trim = r.trim;
            time = valid_within (mended_of c.registers.time) (mended_valid c.registers.time);
            hours = r.hours;
            date = r.date;
            month = r.month;
          };
      core = valid_within (mended_of c.core) (mended_valid c.core);
    })

pub mended_well_formed : (s : State) → well_formed s ≡ true → well_formed (mended_state s) ≡ true
mended_well_formed s w =
    let l = limits_of s w in
    of_limits (mended_state s)
    (record {
      address = l.address;
      companion = companion_within s.companion l.companion;
      phase = l.phase;
      power = l.power;
    })

-- a second mending changes nothing
mended_again : (s : State) → mended_state (mended_state s) ≡ mended_state s
mended_again s = rw (mended_twice s.companion.registers.time, mended_twice s.companion.core)

pub valid_stays : ValidStays
valid_stays i ch s w v u =
    let t = subst (λ (c : Calendar). T (is_valid c)) (sym (ap registers_in w.1) ∙ registers_in_lem s) v in
    let k = subst (λ (c : Calendar). T (is_valid c)) (sym (ap core_in w.1) ∙ core_in_lem s) u in
    let same : mended_state s ≡ s =
    rw (mended_same s.companion.registers.time t, mended_same s.companion.core k) refl in
    valid_gives_none i ch s w v ∙ rw (same, w.1) refl

pub twice_is_once : TwiceIsOnce
twice_is_once i ch ch₂ a = by_way (way i ch)
  where
    by_way : Way i ch
        → mend_of (mend_of i ch).image ch₂
        ≡ record { number = accepted; count = 0; image = (mend_of i ch).image; changes = ch₂ }
    by_way (refused_by_lem n h e) = refuted i ch n h (ap (λ (o : Outcome). o.number) e) a
    by_way (written_for s w e) =
        let image = ap (λ (o : Outcome). o.image) e in
        let again = mended_well_formed s w.0 in
        valid_gives_none (mend_of i ch).image ch₂ (mended_state s) (again, sym image) (output_valid i ch a).0
        ∙ rw (mended_again s, image) refl
