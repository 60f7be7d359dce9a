-- SPDX-License-Identifier: Apache-2.0
-- A list of events on a set (02, number 12): that of every part (crate `bus_list`). The answer to an event is the line.
--   after, Ended, run_of    one event; what a list leaves; the events one by one
--   RanThrough             what a function returns and leaves
--   all_known               every event byte is known to a set of so many
use Rattle.std.specs.Prelude.{ℕ, ◌+◌, ◌*◌, Bool, List, []}
use Rattle.bus_list.specs.Run as list
use Rattle.fm31.specs.Step.{answer_byte}
use Rattle.set_event.specs.Set.{Together, after_event, line_to}
pub use Rattle.bus_list.specs.Run.{following, answers_over}

-- One event, as a list does it. A set has its memories with it, so the list has none of its own.
abbrev pub after : Together → List ℕ → ℕ → list.Stepped Together
after t m e = record { state = after_event t e; memory = m; answer = answer_byte (line_to t e) }

-- What a list of events leaves: the set with its memories, and one answer an event.
abbrev pub Ended : Type 0
Ended = list.Ended Together

-- The events one by one, each on what the one before it left.
unfoldable pub run_of : Together → List ℕ → Ended
unfolding list.run_of
run_of t es = list.run_of after t [] es

-- Auxiliary: what a function returns and leaves are those of a list of events.
abbrev pub RanThrough : Together → List ℕ → List ℕ → Together → List ℕ → Type 0
RanThrough t es a r a' = list.RanThrough (λ s m es. run_of s es) (λ s. s) t [] es a r [] a'

-- Two edges a device after the eight events that all hear: number 3 from the first byte that names no device of the
-- set.
abbrev pub all_known : ℕ → List ℕ → Bool
all_known n es = list.all_known (7 + 2 * n) es
