-- SPDX-License-Identifier: Apache-2.0
-- The larger family as a part of the bus machine (02, number 5).
--   size_of                   "its 64Kb and 256Kb sizes"
--   last_event                the last of its event bytes
--   beaten                    a tick or an edge, passed on
--   companion31              the companion
--   Done, event_of            one event on a state and the lent memory
--   fresh                    the fresh state
use Rattle.std.specs.Prelude.{ℕ, List}
use Rattle.fm31_counters.specs.Part.{aim_of, store_of, load_of, loaded_of, guard_of}
use Rattle.fm31_counters.specs.Part.{backed_of, lost_of, returned_of, blank_of}
use Rattle.fm31_counters.specs.declared.Counters.{Counters}
pub use Rattle.fm31_counters.specs.Ways.{beaten}
use Rattle.bus.specs.Desk.{Desks}
use Rattle.bus_deeds.specs.Serve.{taken_of}
use Rattle.bus.specs.Select.{slave_names_for}
use Rattle.bus.specs.Happening.{edges}
use Rattle.bus.specs.Event.{resting}
use Rattle.bus.specs.Event as Event
use Rattle.bus.specs.declared.Beat.{Beat}
use Rattle.bus.specs.declared.Power.TheVariants.{On}
use Rattle.fm31.specs.declared.Size.{Size}
use Rattle.fm31.specs.declared.Size.TheVariants.{Kb64, Kb256}
use Rattle.fm31.specs.declared.State.{State}

-- 003: "the 256Kb memory is 32,768 x 8".
abbrev pub size_of : Size → ℕ
size_of Kb64 = 8192
size_of Kb256 = 32768

-- "Two new event bytes, 8 and 9": the last of the ten.
abbrev pub last_event : ℕ
last_event = 9

-- "Answer bits 1 to 3 are 0": the pin shows nothing.
abbrev pub companion31 : Desks
companion31 =
    record {
      Desk = Counters;
      aim = λ c b. taken_of (aim_of c b);
      store = λ c b. taken_of (store_of c b);
      load = load_of;
      loaded = loaded_of;
      beyond = edges;
      Tick = Beat;
      beat_of = λ t. t;
      ticked = beaten;
      guard = guard_of;
      pin = λ p c. 0;
      backed = backed_of;
      lost = lost_of;
      returned = returned_of;
    }

-- One event on a state and the lent memory.
abbrev pub Done : ℕ → ℕ → Type 0
Done size select = Event.Done size (slave_names_for select) companion31

abbrev pub event_of : (size select : ℕ) → State → List ℕ → ℕ → Done size select
event_of size select s m e = Event.event_of size (slave_names_for select) companion31 s.bus s.counters m e

-- "The companion address starts at 09h"; "a fresh device has 0 elsewhere".
abbrev pub fresh : State
fresh = record { bus = resting On; counters = blank_of }
