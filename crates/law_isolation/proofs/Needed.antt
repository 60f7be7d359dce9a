-- SPDX-License-Identifier: Apache-2.0
-- What demand 3 asks is needed, and what it says can fail. Where a write of the companion's list protects the memory,
-- lists and merge being as they should (`protection_needed`), or where a transaction falls inside another
-- (`turns_needed`), a byte that the memory's list alone would store is not stored.
use Prim.Native.Nat.{ℕ, ◌<◌}
use mathlib.Core.Path.{◌≡◌, refl, ap, ◌∙◌}
use mathlib.Core.List.{List, [], ◌∷◌, ◌++◌}
use lib.ListN.{length, get_or, set}
use lib.Seq.{get_or-set_same}
use Rattle.wire.specs.Bits.{pushed, sent_bit, place_at}
use Rattle.wire.specs.Slave.{slave_names, answers, opened}
use Rattle.wire.specs.Clock.{kept, received_at}
use Rattle.wire.specs.Memory.{put_byte, refused_byte}
use Rattle.wire.specs.Machine.{stop, line, clocked, lined}
use Rattle.wire.specs.declared.Side.TheVariants.{Companion}
use Rattle.fm3130_companion.specs.Part.{aim_of, store_of, tick_of}
use Rattle.fm3130.specs.Chip.{fm3130}
use Rattle.fm3130.specs.Event.{happening, event_on}
use Rattle.fm3130_list.specs.Run.{run_of}
use Rattle.fm3130_list.specs.Held.{Ran, held, list_run}
use Rattle.law_merging.specs.Merge.{calling, moving, events_of}
use Rattle.law_merging.specs.Party.{to, BusEvent, Whole}
use Rattle.law_merging.specs.Demand.{done, one, two, Merge}
use Rattle.law_merging.specs.Clocks.{clocks, bits_of}
use Rattle.law_merging.proofs.Reader.{moving_clocks}
use Rattle.law_merging.proofs.Clocks.{slave_whole, first_clocks, second_clocks}
use Rattle.law_isolation.specs.Demand3.{bytes_of, Demanded}
use Rattle.law_isolation.specs.Example.{stored, memory_list, companion_list, started}
use Rattle.law_isolation.specs.Needed.{protecting_list, protected_list, broken_list}

pub protecting_whole : Whole fm3130 (to Companion) protecting_list
unfolding pushed sent_bit slave_names
protecting_whole =
    let bits = bits_of 0x0E ++ bits_of 0x18 in (
      tt,
      slave_whole fm3130 (to Companion) 0xD0 (clocks bits (line stop ∷ [])) tt
          (moving_clocks fm3130 (to Companion) bits (line stop ∷ []) (tt, refl)),
    )

pub protecting_merge : Merge fm3130 memory_list protecting_list protected_list
unfolding place_at
protecting_merge =
    two (second_clocks fm3130 (bits_of 0xD0) (calling 0 0) (second_clocks fm3130 (bits_of 0x0E ++ bits_of 0x18) moving (two
    (one (first_clocks fm3130 (bits_of 0xA0) (calling 0 0) (first_clocks fm3130 stored moving (one done)))))))

-- a memory that holds 5Ah at 0005h, though it did not, and nothing was stored
unwritten : (m : List ℕ) → 5 < length m → (get_or m 5 0 ≡ 0x5A → ⊥) → m ≡ set m 5 0x5A → ⊥
unwritten m h n e = n (ap (λ (z : List ℕ). get_or z 5 0) e ∙ get_or-set_same m 5 0x5A 0 h)

module _ (m : List ℕ) (h : 5 < length m) (n : get_or m 5 0 ≡ 0x5A → ⊥) where
  abbrev run : List (BusEvent fm3130) → Ran
  run es = list_run (held started m) (bytes_of es)

  pub protection_needed :
      Demanded (run memory_list) (run protecting_list) (run (events_of protected_list)) protected_list → ⊥
  unfolding run_of happening event_on lined clocked received_at kept pushed sent_bit place_at opened answers slave_names
      put_byte refused_byte aim_of store_of
  protection_needed r = unwritten m h n r.memory

  pub turns_needed :
      Demanded (run memory_list) (run companion_list) (run (events_of broken_list)) broken_list → ⊥
  unfolding run_of happening event_on lined clocked received_at kept pushed sent_bit place_at opened answers slave_names
      put_byte aim_of store_of tick_of
  turns_needed r = unwritten m h n r.memory
