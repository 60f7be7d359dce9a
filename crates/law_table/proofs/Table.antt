-- SPDX-License-Identifier: Apache-2.0
-- The table K1 to K12 holds. Every case but K12 is computed: the definitions are opened and both sides are the same. K12 goes
-- through the list run's outcome, whose tests of the buffers are settled first.
use Prim.Native.Nat.{ℕ, ◌≤◌}
use mathlib.Core.Path.{◌≡◌, refl, ap, ◌∙◌}
use mathlib.Core.List.{List, ◌++◌}
use native.Mathlib.Omega.{arith}
use lib.ListN.{length, drop_of_length-le}
use Rattle.wire.specs.Bits.{pushed, place_at}
use Rattle.wire.specs.Slave.{slave_names, answers, opened}
use Rattle.wire.specs.Clock.{kept, received_at}
use Rattle.wire.specs.Memory.{refused_byte, put_byte}
use Rattle.wire.specs.Machine.{clocked, lined}
use Rattle.calendar.specs.Field.{in_field, step_of}
use Rattle.calendar.specs.Month.{month_length}
use Rattle.calendar.specs.Next.{is_valid, next_of}
use Rattle.calendar.specs.Next as Calendars
use Rattle.fm3130_companion.specs.Part.{aim_of, pin_of, lost_of}
use Rattle.fm3130_companion.specs.Tick as Companions
use Rattle.fm3130.specs.Chip.{memory_size}
use Rattle.fm3130.specs.Event.{happening, event_on}
use Rattle.fm3130.specs.Power.{fresh}
use Rattle.fm3130_image.specs.Image.{image_of}
use Rattle.bus_list.specs.Run as list
use Rattle.fm3130_list.specs.Run.{run_of, all_known, Outcome}
use Rattle.fm3130_image.proofs.Images.{decode_fresh}
use Rattle.fm3130_list.proofs.Runs.{outcome_written}
use Rattle.law_table.specs.Table.{Gives, exact_events, exact_answers, Table}

-- K12, by the list run's outcome on the fresh image
exact_run : (m buffer : List ℕ) → length m ≡ memory_size → length buffer ≡ 11 → Gives m exact_events exact_answers buffer
unfolding run_of happening event_on clocked lined received_at place_at pushed slave_names answers opened kept pin_of lost_of list.all_known
exact_run m buffer h b =
    let room : 11 ≤ length buffer = omega arith in
    let short : length buffer ≤ 11 = omega arith in
    let o = outcome_written (image_of fresh) m exact_events buffer h fresh decode_fresh refl room in
    record {
      number = ap (λ (x : Outcome). x.number) o;
      count = ap (λ (x : Outcome). x.count) o;
      answered = ap (λ (x : Outcome). x.answers) o ∙ ap (λ (l : List ℕ). exact_answers ++ l) (drop_of_length-le buffer short);
    }

-- one case after the other
infixr 20 ◌also◌
◌also◌ : {A B : Type 0} → A → B → A × B
◌also◌ a b = (a, b)

pub table_holds : Table
unfolding run_of happening event_on clocked lined received_at place_at pushed slave_names answers opened kept put_byte refused_byte aim_of pin_of lost_of next_of is_valid in_field step_of month_length Companions.tick_of Calendars.tick_of
table_holds m h =
    (refl, refl) also (refl, refl) also (refl, refl) also (refl, refl) also (refl, refl) also (refl, refl) also (refl, refl)
    also (refl, refl, refl) also (refl, refl, refl)
    also (refl, refl, refl) also (refl, refl) also refl also (refl, refl) also refl also refl
    also (refl, refl) also (refl, refl) also (refl, refl) also (λ buffer b. exact_run m buffer h b) also tt
