-- SPDX-License-Identifier: Apache-2.0
-- A part by its size, whom its slave bytes name, and its companion: the memory is the same in all of them.
--   Desks    what a companion does            part_of   the part, as the bus machine has it
use Rattle.std.specs.Prelude.{ℕ}
use Rattle.wire.specs.Clock.{Taken}
use Rattle.wire.specs.Memory.{Cells, pointed, put_byte, byte_at, stepped_on}
use Rattle.wire.specs.Machine.{Parts}
use Rattle.wire.specs.declared.Named.{Named}
use Rattle.bus.specs.Happening.{Happening}
use Rattle.bus.specs.declared.Beat.{Beat}
use Rattle.bus.specs.declared.Power.{Power}
use Rattle.bus.specs.declared.Power.TheVariants.{On}

pub record Desks : Type 1 where
  pub Desk : Type 0
  -- in a transfer: take an address; store a byte; the byte at the address; what a whole byte read does
  pub aim : Desk → ℕ → Taken Desk
  pub store : Desk → ℕ → Taken Desk
  pub load : Desk → ℕ
  pub loaded : Desk → ℕ → Desk
  -- an event byte beyond 01's eight; its ticks, each a second or an edge; what these do
  pub beyond : ℕ → Happening
  pub Tick : Type 0
  pub beat_of : Tick → Beat
  pub ticked : Beat → Desk → Desk
  -- WP1 WP0; bits 3 to 1 of an answer, by the supplies that are present
  pub guard : Desk → ℕ
  pub pin : Power → Desk → ℕ
  -- main power lost with backup; both supplies gone; main power back after backup
  pub backed : Desk → Desk
  pub lost : Desk → Desk
  pub returned : Desk → Desk

abbrev pub part_of : ℕ → (ℕ → Named) → Desks → Parts
part_of size names D =
    record {
      Tick = D.Tick;
      Guard = ℕ;
      Cells = Cells;
      Desk = D.Desk;
      Pin = ℕ;
      names = names;
      point = pointed size;
      put = put_byte size;
      fetch = byte_at;
      step_on = stepped_on size;
      aim = D.aim;
      store = D.store;
      load = D.load;
      loaded = D.loaded;
      ticked = λ t c. D.ticked (D.beat_of t) c;
      guard = D.guard;
      pin = D.pin On;
    }
