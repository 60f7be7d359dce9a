-- SPDX-License-Identifier: Apache-2.0
-- One event on a part, by the supplies that are present (01, Event bytes; Ticks, alarm, power). Over size, names and
-- companion: the one statement of the supplies, for the FM3130 and for the larger family.
--   is_supplied, resting, powered  a supply is present; the bus after a loss of power; after main power returned
--   Done, done_of, event_on, event_of
use Rattle.std.specs.Prelude.{ℕ, Bool, true, false, List}
use Rattle.wire.specs.Memory.{lent}
use Rattle.wire.specs.Machine.{masters_line, Out, lined}
use Rattle.wire.specs.declared.Named.{Named}
use Rattle.wire.specs.declared.Phase.TheVariants.{Idle}
use Rattle.bus.specs.Happening.{Happening, on_wire, beat, lost, gone, returned, happening}
use Rattle.bus.specs.Desk.{Desks, part_of}
use Rattle.bus.specs.declared.Power.{Power}
use Rattle.bus.specs.declared.Power.TheVariants.{On, Backup, Off}
use Rattle.bus.specs.declared.Bus.{Bus}

-- "Power or backup is present."
abbrev pub is_supplied : Power → Bool
is_supplied On = true
is_supplied Backup = true
is_supplied Off = false

-- "Power lost: the transfer ends, both addresses become 0": the memory's here, the companion's in `backed` and `lost`.
abbrev pub resting : Power → Bus
resting p = record { power = p; phase = Idle; address = 0 }

abbrev pub powered : Bus → Bus
powered u = record { power = On; phase = u.phase; address = u.address }

module _ (size : ℕ) (names : ℕ → Named) (D : Desks) where
  -- What an event leaves.
  pub record Done : Type 0 where
    pub bus : Bus
    pub companion : D.Desk
    pub memory : List ℕ
    pub line : Bool

  abbrev pub done : Bus → D.Desk → List ℕ → Bool → Done
  done u c m d = record { bus = u; companion = c; memory = m; line = d }

  -- Of an event of the machine, which goes on only while main power is present.
  abbrev pub done_of : Out (part_of size names D) → Done
  done_of o =
      done (record { power = On; phase = o.state.phase; address = o.state.memory.address }) o.state.companion
      o.state.memory.bytes o.line

  -- Each event under each supply. "A tick counts if .. power or backup is present"; "While off, bus events do nothing
  -- and a Clock's line is the master's. Event 6 while off with backup takes the backup away; event 5 while off, or 6
  -- when both supplies are already gone, changes nothing. Event 7 while on changes nothing; after backup it sets POR"
  -- (the companion's `returned`); after both supplies were gone it "changes only the power".
  unfoldable pub event_on : Power → Happening → Bus → D.Desk → List ℕ → Done
  event_on On (on_wire x) u c m = done_of (lined (part_of size names D) u.phase (lent m u.address) c x)
  event_on On (beat t) u c m = done u (D.ticked t c) m true
  event_on On lost u c m = done (resting Backup) (D.backed c) m true
  event_on On gone u c m = done (resting Off) (D.lost c) m true
  event_on On returned u c m = done u c m true
  event_on Backup (on_wire x) u c m = done u c m (masters_line x)
  event_on Backup (beat t) u c m = done u (D.ticked t c) m true
  event_on Backup lost u c m = done u c m true
  event_on Backup gone u c m = done (resting Off) (D.lost c) m true
  event_on Backup returned u c m = done (powered u) (D.returned c) m true
  event_on Off (on_wire x) u c m = done u c m (masters_line x)
  event_on Off (beat t) u c m = done u c m true
  event_on Off lost u c m = done u c m true
  event_on Off gone u c m = done u c m true
  event_on Off returned u c m = done (powered u) c m true

  abbrev pub event_of : Bus → D.Desk → List ℕ → ℕ → Done
  event_of u c m e = event_on u.power (happening D.beyond e) u c m
