-- SPDX-License-Identifier: Apache-2.0
-- A list of events over the size on a device alone on its line (01, Entries: "A second entry runs a list of events").
--   InPlace       what a function that changes a state in place leaves of one event
--   RanThrough    what a function returns and leaves of a list
--   all_known      every event byte is one of the ten
use Rattle.std.specs.Prelude.{ℕ, Bool, List}
use Rattle.bus.specs.Select.{lone}
use Rattle.bus_list.specs.Run as list
use Rattle.fm31.specs.Chip.{last_event, Done}
use Rattle.fm31.specs.Step.{AnsweredWith}
use Rattle.fm31.specs.Run.{run_of}
use Rattle.fm31.specs.declared.State.{State}

-- Auxiliary (02, number 12: "changed in place"): the state at exit, the answer and the memory are those of an event.
abbrev pub InPlace : (size select : ℕ) → State → ℕ → List ℕ → Done size select → Type 0
InPlace size select s a m d = AnsweredWith size select (record { state = s; answer = a }) m d

-- Auxiliary: what a function returns and leaves are those of a list of events.
abbrev pub RanThrough : ℕ → State → List ℕ → List ℕ → List ℕ → State → List ℕ → List ℕ → Type 0
RanThrough size s m es a r m' a' = list.RanThrough (run_of size lone) (λ t. t) s m es a r m' a'

-- No event byte is above 9.
abbrev pub all_known : List ℕ → Bool
all_known es = list.all_known last_event es
