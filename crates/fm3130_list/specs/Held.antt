-- SPDX-License-Identifier: Apache-2.0
-- The list run as a run of the FM3130's part: what is said of every part (crate `law_parts`) is so said of the list run.
--   Held, held    what the part holds; of a state and the lent memory
--   Ran, ran_by    what a list leaves and answers; of what the list run does
--   list_run       the list run
use Rattle.std.specs.Prelude.{ℕ, List}
use Rattle.wire.specs.Slave.{slave_names}
use Rattle.fm3130.specs.Desk.{companion30}
use Rattle.fm3130.specs.Chip.{memory_size, bus_of, state_with}
use Rattle.fm3130.specs.declared.State.{State}
use Rattle.law_parts.specs.Events as parts
use Rattle.law_parts.specs.Demand3 as demand
use Rattle.fm3130_list.specs.Run.{Ended, run_of}

abbrev pub Held : Type 0
Held = parts.Held memory_size slave_names companion30

abbrev pub held : State → List ℕ → Held
held s m = record { bus = bus_of s; companion = s.companion; memory = m }

abbrev pub Ran : Type 0
Ran = demand.Ran memory_size slave_names companion30

abbrev pub ran_by : Ended → Ran
ran_by r = record { held = held r.state r.memory; answers = r.answers }

abbrev pub list_run : Held → List ℕ → Ran
list_run h es = ran_by (run_of (state_with h.bus h.companion) h.memory es)
