-- SPDX-License-Identifier: Apache-2.0
-- The worked lists, by computation, one by one.
use mathlib.Core.Path.{refl}
use Rattle.wire.specs.Bits.{pushed, sent_bit, place_at}
use Rattle.wire.specs.Slave.{slave_names, answers, opened}
use Rattle.wire.specs.Clock.{kept, received_at, more, sent_at}
use Rattle.wire.specs.Machine.{clocked, lined}
use Rattle.bus.specs.Select.{slave_names_for}
use Rattle.bus.specs.Happening.{happening}
use Rattle.bus.specs.Event.{event_on}
use Rattle.fm31_counters.specs.Edge.{edge_of, next_count, next_pair}
use Rattle.fm31_counters.specs.Power.{lost_of, returned_of, blank_of}
use Rattle.fm31_counters.specs.Part.{aim_of, store_of, load_of, loaded_of}
use Rattle.fm31_counters.specs.Write.{written_of}
use Rattle.fm31.specs.Run.{run_of}
use Rattle.law_family.specs.Worked.{WorkedLists}

pub worked_lists : WorkedLists
unfolding run_of happening event_on lined clocked received_at kept sent_at more pushed sent_bit place_at opened answers slave_names slave_names_for
    aim_of store_of written_of load_of loaded_of edge_of next_count next_pair blank_of lost_of returned_of
worked_lists =
    record {
      fresh_read = λ k m. refl;
      flags_kept = λ k m. refl;
      flags_cleared = λ k m. refl;
      watchdog = λ k m. refl;
      control = λ k m. refl;
      control_locked = λ k m. refl;
      locked_write = λ k m. refl;
      locked_read = λ k m. refl;
      rolls_reading = λ k m. refl;
      rolls_writing = λ k m. refl;
      edges = λ k m. refl;
      counter_rolls = λ k m. refl;
      pair_carries = λ k m. refl;
      frozen = λ k m. refl;
      still_frozen = λ k m. refl;
      released = λ k m. refl;
      lost_from_power = λ k m. refl;
      lost_from_backup = λ k m. refl;
      kept_by_backup = λ k m. refl;
      off_counts_nothing = λ k m. refl;
      address_after_backup = λ k m. refl;
      address_after_loss = λ k m. refl;
    }
