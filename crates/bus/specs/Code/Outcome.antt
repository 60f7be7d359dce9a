-- SPDX-License-Identifier: Apache-2.0
-- What the functions over a bus ask, return and leave, in terms of an event of a part with a hollow companion.
use Rattle.std.specs.Prelude.{ℕ, ◌<◌, ◌≡◌, Bool, List, length}
use Rattle.wire.specs.Memory.{lent}
use Rattle.wire.specs.Machine.{Out, clocked}
use Rattle.wire.specs.declared.Named.{Named}
use Rattle.wire.specs.declared.Phase.{Phase}
use Rattle.wire.specs.declared.Turned.{Turned}
use Rattle.wire.specs.declared.Moved.{Moved}
use Rattle.bus.specs.Desk.{part_of}
use Rattle.bus.specs.Code.Desk.{hollow}
use Rattle.bus.specs.Happening.{Happening}
use Rattle.bus.specs.Event.{Done, event_on, event_of}
use Rattle.bus.specs.declared.Power.{Power}
use Rattle.bus.specs.declared.Bus.{Bus}
use Rattle.bus.specs.declared.Reply.{Reply}
use Rattle.bus.specs.declared.Went.{Went}

-- Auxiliary: what the code asks before it does an event.
pub record Ready (size : ℕ) (u : Bus) (m : List ℕ) : Type 0 where
  pub memory : length m ≡ size
  pub address : u.address < size

abbrev pub with_phase : Bus → Phase → Bus
with_phase u p = record { power = u.power; phase = p; address = u.address }

abbrev pub with_turned : Bus → Turned → Went
with_turned u t = record { bus = with_phase u t.phase; line = t.line }

abbrev pub with_moved : Bus → Moved → Went
with_moved u v = record { bus = record { power = u.power; phase = v.phase; address = v.address }; line = v.line }

-- What a function returns, and the memory it leaves.
pub record Left : Type 0 where
  pub went : Went
  pub memory : List ℕ

abbrev pub left : Went → List ℕ → Left
left r m = record { went = r; memory = m }

module _ (size : ℕ) (names : ℕ → Named) (guard : ℕ) (r : Reply) where
  -- A Clock, by phase, with the bus's own power.
  abbrev pub power_kept : Bus → Out (part_of size names (hollow guard r)) → Left
  power_kept u o =
      left
      (record {
        bus = record { power = u.power; phase = o.state.phase; address = o.state.memory.address };
        line = o.line;
      })
      o.state.memory.bytes

  abbrev pub clocked_with : Bus → List ℕ → Phase → Bool → Left
  clocked_with u m p d = power_kept u (clocked (part_of size names (hollow guard r)) p (lent m u.address) tt d)

  -- An event, with its companion taken out.
  abbrev pub left_of : Done size names (hollow guard r) → Left
  left_of o = left (record { bus = o.bus; line = o.line }) o.memory

  abbrev pub went_on : Power → Happening → Bus → List ℕ → Left
  went_on p x u m = left_of (event_on size names (hollow guard r) p x u tt m)

  abbrev pub went_of : Bus → List ℕ → ℕ → Left
  went_of u m e = left_of (event_of size names (hollow guard r) u tt m e)
