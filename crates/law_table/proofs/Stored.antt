-- SPDX-License-Identifier: Apache-2.0
-- An acknowledged memory byte is stored at its address: the law of every part (crate `law_parts`), whose one condition is
-- that no tick changes WP1 WP0.
use Prim.Native.Nat.{◌<◌}
use mathlib.Core.List.{[], ◌∷◌, ◌++◌}
use lib.ListN.{length}
use Rattle.wire.specs.Slave.{slave_names}
use Rattle.fm3130_companion.proofs.Shown.{tick_guard}
use Rattle.fm3130.specs.Desk.{companion30}
use Rattle.fm3130.specs.Chip.{memory_size}
use Rattle.fm3130.specs.Event.{happening, event_on}
use Rattle.fm3130.proofs.Entry.{limits_of}
use Rattle.fm3130_list.proofs.Runs.{run_ok}
use Rattle.fm3130_list.specs.Held.{held}
use Rattle.fm3130_list.proofs.Held.{run_held, ticks_heard}
use Rattle.law_parts.specs.Events.{after_events}
use Rattle.law_parts.specs.Stored.{BeatsKeep}
use Rattle.law_parts.specs.Stored as parts
use Rattle.law_parts.proofs.Stored as laws
use Rattle.law_table.specs.Stored.{after, memory_after, clock_event, AcknowledgedStored}

beats_keep : BeatsKeep companion30
beats_keep t c = tick_guard c

pub acknowledged_stored : AcknowledgedStored
unfolding happening event_on
acknowledged_stored s m before byte w d wf h start r pulls =
    let o = run_ok s m before wf h in
    let inside : (after s m before).address < length (memory_after s m before) =
    rw o.memory (limits_of (after s m before) o.state).address in
    let b = run_held s m before in
    let low : parts.Pulls memory_size slave_names companion30
    (after_events memory_size slave_names companion30 (held s m) (before ++ byte)) =
    rw (run_held s m (before ++ byte)) pulls in
    rw (b, run_held s m (before ++ (byte ++ (clock_event d ∷ [])))) at
    (laws.acknowledged_stored memory_size slave_names companion30 beats_keep ticks_heard (held s m) before byte w d
    (rw b inside) (rw b start) r low)
