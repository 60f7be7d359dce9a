-- SPDX-License-Identifier: Apache-2.0
-- Event bytes on a part of any size, names and companion, one by one.
--   clock_event, beat_byte       the bytes of a Clock, and of a tick or an edge
--   tick_byte, TicksHeard       the byte of a part's tick; it says that tick
--   Held                       the bus, the companion and the lent memory
--   after_event, answer_to       one event byte: what it leaves, its answer byte
--   after_events, answers_to     a list of them
use Rattle.std.specs.Prelude.{ℕ, ◌+◌, ◌*◌, ◌≡◌, Bool, true, false, cond, List, [], ◌∷◌}
use Rattle.wire.specs.declared.Named.{Named}
use Rattle.bus.specs.Desk.{Desks}
use Rattle.bus.specs.Happening.{beat, happening}
use Rattle.bus.specs.Event.{Done, event_of}
use Rattle.bus.specs.declared.Beat.{Beat}
use Rattle.bus.specs.declared.Beat.TheVariants.{Second, Cnt1, Cnt2}
use Rattle.bus.specs.declared.Bus.{Bus}

-- 01, Event bytes and answer bytes: "2 Clock with the master's data line low; 3 Clock with it high".
abbrev pub clock_event : Bool → ℕ
clock_event false = 2
clock_event true = 3

-- "4 one-second tick"; 02, number 5: "8 and 9 .. edges on CNT1 and CNT2".
abbrev pub beat_byte : Beat → ℕ
beat_byte Second = 4
beat_byte Cnt1 = 8
beat_byte Cnt2 = 9

abbrev pub tick_byte : (D : Desks) → D.Tick → ℕ
tick_byte D t = beat_byte (D.beat_of t)

-- What is asked of a part's event bytes: that of each of its ticks says so.
abbrev pub TicksHeard : Desks → Type 0
TicksHeard D = (t : D.Tick) → happening D.beyond (tick_byte D t) ≡ beat (D.beat_of t)

module _ (size : ℕ) (names : ℕ → Named) (D : Desks) where
  pub record Held : Type 0 where
    pub bus : Bus
    pub companion : D.Desk
    pub memory : List ℕ

  -- Auxiliary: an event byte, and what an event leaves.
  abbrev pub event : Held → ℕ → Done size names D
  event h e = event_of size names D h.bus h.companion h.memory e

  abbrev pub held_by : Done size names D → Held
  held_by d = record { bus = d.bus; companion = d.companion; memory = d.memory }

  -- 01: "Bit 0 is the line", and above it what the pin shows.
  abbrev pub answer_to : Held → ℕ → ℕ
  answer_to h e = let d = event h e in 2 * D.pin d.bus.power d.companion + cond d.line 1 0

  -- A list is its events one by one.
  abbrev pub after_events : Held → List ℕ → Held
  after_events h [] = h
  after_events h (e ∷ es) = after_events (held_by (event h e)) es

  abbrev pub answers_to : Held → List ℕ → List ℕ
  answers_to h [] = []
  answers_to h (e ∷ es) = answer_to h e ∷ answers_to (held_by (event h e)) es
