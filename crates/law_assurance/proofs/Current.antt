-- SPDX-License-Identifier: Apache-2.0
-- The two sessions, computed: the second meets what the assurance asks, so a read that sets its address is answered alike by
-- the theorem; the answers to a read from the current address are computed, and differ.
use Prim.Native.Nat.{ℕ, suc}
use mathlib.Core.Path.{◌≡◌, refl, ap}
use mathlib.Core.Bool.{true, false}
use mathlib.Core.List.{List, ◌++◌}
use native.Mathlib.Omega.{arith}
use lib.ListN.{length, get_or}
use Rattle.wire.specs.Bits.{pushed, sent_bit, place_at}
use Rattle.wire.specs.Slave.{slave_names, answers, opened}
use Rattle.wire.specs.Clock.{kept, received_at, sent_at, more}
use Rattle.wire.specs.Memory.{put_byte}
use Rattle.wire.specs.Machine.{clocked, lined}
use Rattle.fm3130_companion.specs.Part.{pin_of, lost_of}
use Rattle.fm3130.specs.Power.{fresh}
use Rattle.fm3130.specs.Event.{happening, event_on}
use Rattle.bus_list.specs.Run as list
use Rattle.fm3130_list.specs.Run.{run_of}
use Rattle.wire_clocks.specs.Events.{written, write_events}
use Rattle.masters_hold.specs.declared.Master.TheVariants.{Rig}
use Rattle.law_assurance.specs.Same.{Alongside, ReadsIn}
use Rattle.law_assurance.specs.Current.{set_read, current_read, lent_bytes, silent, aimed, NoAssuranceOn, NoAssurance}
use Rattle.law_assurance.proofs.Same.{same_answers}

module _ (rest : List ℕ) where
  beside : Alongside Rig (λ a. true) fresh (lent_bytes rest) silent aimed
  unfolding run_of list.all_known happening event_on lined clocked received_at sent_at place_at pushed sent_bit slave_names answers opened kept more put_byte pin_of lost_of write_events
  beside =
      record {
        between = refl;
        one = tt;
        two = (tt, ((tt, (tt, (tt, (tt, (tt, (tt, (tt, (tt, (tt, (tt, (tt, (tt, (tt, (tt, (tt, (tt, (tt, (tt, (tt, (tt, (tt, (tt, (tt, (tt, (tt, (tt, (tt, (tt, (tt, tt))))))))))))))))))))))))))))), tt));
        alike = refl;
      }

  -- every read of the transaction has its address set
  reads : ReadsIn (λ a. true) false false fresh (lent_bytes rest) set_read
  unfolding run_of list.all_known happening event_on lined clocked received_at sent_at place_at pushed sent_bit slave_names answers opened kept more put_byte pin_of lost_of write_events
  reads =
      (tt, (tt, (tt, (tt, (tt, (tt, (tt, (tt, (tt, (tt, (tt, (tt, (tt, (tt, (tt, (tt, (tt, (tt, (tt, (tt, (tt, (tt, (tt, (tt, (tt, (tt, (tt, (tt, (tt, (tt, (tt, (tt, (tt, (tt, (tt, (tt, (tt, (tt, ((refl, λ z. refl), ((refl, λ z. refl), ((refl, λ z. refl), ((refl, λ z. refl), ((refl, λ z. refl), ((refl, λ z. refl), ((refl, λ z. refl), ((refl, λ z. refl), ((refl, λ z. refl), (tt, tt))))))))))))))))))))))))))))))))))))))))))))))))

  there : length rest ≡ 8190 → NoAssuranceOn (lent_bytes rest)
  unfolding run_of list.all_known happening event_on lined clocked received_at sent_at place_at pushed sent_bit slave_names answers opened kept more put_byte pin_of lost_of write_events
  there l =
      record {
        lent = ap (λ (n : ℕ). suc (suc n)) l;
        alongside = beside;
        same =
            same_answers Rig (λ a. true) fresh (lent_bytes rest) silent aimed (written 0xA0 ++ (written 0 ++ (written 0 ++ current_read)))
            beside reads;
        differs = λ e. let q = ap (λ (l : List ℕ). get_or l 10 0) e in omega arith;
      }

pub no_assurance : NoAssurance
no_assurance = there
