-- SPDX-License-Identifier: Apache-2.0
-- Of the FM3130's companion only a written byte can change WP1 WP0: they lie in 0Eh, and a tick, an address byte and a
-- read leave 0Eh as it is, by the companion's own laws.
use Rattle.fm3130_companion.proofs.Shown.{tick_guard, aim_guard, loaded_guard}
use Rattle.fm3130.specs.Chip.{fm3130}
use Rattle.law_merging.specs.Demand.{OnlyWrites}

pub only_writes : OnlyWrites fm3130
only_writes = record { tick_keeps = λ t. tick_guard; address_keeps = aim_guard; read_keeps = loaded_guard }
