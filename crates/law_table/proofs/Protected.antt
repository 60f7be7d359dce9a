-- SPDX-License-Identifier: Apache-2.0
-- What changes the memory: the laws of every part (crate `law_parts`).
use Rattle.wire.specs.Slave.{slave_names}
use Rattle.fm3130.specs.Desk.{companion30}
use Rattle.fm3130.specs.Chip.{memory_size}
use Rattle.fm3130.specs.Event.{happening, event_on}
use Rattle.fm3130_list.specs.Held.{held}
use Rattle.law_parts.proofs.Protected as laws
use Rattle.law_table.specs.Protected.{OnlyEighthClocks, ProtectedUnchanged}

pub only_eighth_clocks : OnlyEighthClocks
unfolding happening event_on
only_eighth_clocks s m e = laws.only_eighth_clocks memory_size slave_names companion30 (held s m) e

pub protected_unchanged : ProtectedUnchanged
unfolding happening event_on
protected_unchanged s m e a h = laws.protected_unchanged memory_size slave_names companion30 (held s m) e a h
