-- SPDX-License-Identifier: Apache-2.0
-- Every event keeps the limits, over any size and select and any companion that keeps its own: the bus events by the
-- machine's theorem, the others by cases on the supply.
--   BusLimits, bus_limits_of, of_bus_limits   the limits of a bus, one by one; from_zero: addresses from 0 on
--   DeskKeeps                                 what is asked of a companion
--   DoneOk, event_keeps                       the theorem
use Prim.Native.Nat.{ℕ, ◌+◌, ◌*◌, ◌<◌}
use mathlib.Core.Path.{◌≡◌, refl, ◌∙◌}
use mathlib.Core.Bool.{true, ◌&&◌}
use mathlib.Core.List.{List}
use native.Mathlib.Nat.{mod-lt}
use lib.Dec.{ltb, leb, leb-zero}
use lib.ListN.{length, length-set}
use borrow.Author.Tests.{ltb-true, lt-ltb}
use Rattle.wire.specs.Limits.{phase_within}
use Rattle.wire.specs.Memory.{Cells, lent, is_protected, refused_byte, put_byte}
use Rattle.wire.specs.Machine.{Line, line, step}
use Rattle.wire.specs.declared.Named.{Named}
use Rattle.wire.proofs.Tests.{and_split, by_test}
use Rattle.wire.proofs.Keeps.{PartKeeps, StateOk, step_keeps}
use Rattle.bus.specs.Desk.{Desks, part_of}
use Rattle.bus.specs.Happening.{Happening, on_wire, beat, lost, gone, returned}
use Rattle.bus.specs.Event.{resting, powered, Done, event_on}
use Rattle.bus.specs.Select.{slave_names_for}
use Rattle.bus_limits.specs.Limits.{is_between, power_within, bus_within}
use Rattle.bus.specs.declared.Beat.{Beat}
use Rattle.bus.specs.declared.Power.{Power}
use Rattle.bus.specs.declared.Power.TheVariants.{On, Backup, Off}
use Rattle.bus.specs.declared.Bus.{Bus}

-- of a companion whose first address is 0 an address has one limit
pub from_zero : (last : ℕ) → is_between 0 last ≡ (λ b. leb b last)
from_zero last = λ i b. leb-zero b i && leb b last

pub record BusLimits (size : ℕ) (names : ℕ → Named) (first last : ℕ) (u : Bus) : Type 0 where
  pub address : u.address < size
  pub phase : phase_within names (is_between first last) u.phase ≡ true
  pub power : power_within u.power u.phase ≡ true

module _ (size select first last : ℕ) where
  pub bus_limits_of : (u : Bus) → bus_within size select first last u ≡ true → BusLimits size (slave_names_for select)
      first last u
  unfolding bus_within
  bus_limits_of u e =
      let h = and_split _ (power_within u.power u.phase) e in
      let g = and_split (ltb u.address size) (phase_within (slave_names_for select) (is_between first last) u.phase)
      h.0 in
      record { address = ltb-true u.address size g.0; phase = g.1; power = h.1 }

  pub of_bus_limits : (u : Bus) → BusLimits size (slave_names_for select) first last u → bus_within size select first last
      u ≡ true
  unfolding bus_within
  of_bus_limits u l = rw (lt-ltb u.address size l.address, l.phase, l.power)

pub record DeskKeeps (first last : ℕ) (D : Desks) : Type 1 where
  pub Ok : D.Desk → Type 0
  pub aim : (c : D.Desk) (b : ℕ) → Ok c → Ok (D.aim c b).next
  pub aim_legal : (c : D.Desk) (b : ℕ) → (D.aim c b).good ≡ true → is_between first last b ≡ true
  pub store : (c : D.Desk) (b : ℕ) → b < 256 → Ok c → Ok (D.store c b).next
  pub loaded : (c : D.Desk) (b : ℕ) → Ok c → Ok (D.loaded c b)
  pub ticked : (t : Beat) (c : D.Desk) → Ok c → Ok (D.ticked t c)
  pub backed : (c : D.Desk) → Ok c → Ok (D.backed c)
  pub lost : (c : D.Desk) → Ok c → Ok (D.lost c)
  pub returned : (c : D.Desk) → Ok c → Ok (D.returned c)

-- the memory's limits: its length, and an address inside
record CellsOk (size : ℕ) (m : Cells) : Type 0 where
  bytes : length m.bytes ≡ size
  address : m.address < size

module _ (size : ℕ) (names : ℕ → Named) (first last : ℕ) (z : 0 < size) (D : Desks) (K : DeskKeeps first last D) where
  put_ok : (g : ℕ) (m : Cells) (b : ℕ) → b < 256 → CellsOk size m → CellsOk size (put_byte size g m b).next
  unfolding put_byte refused_byte
  put_ok g m b h o =
      by_test (is_protected size g m.address)
      (λ e. rw e (record { bytes = o.bytes; address = mod-lt (m.address + 1) z }))
      (λ e. rw e
      (record { bytes = length-set m.bytes m.address b ∙ o.bytes; address = mod-lt (m.address + 1) z }))

  part_keeps : PartKeeps (part_of size names D)
  part_keeps =
      record {
        CellsOk = CellsOk size;
        DeskOk = K.Ok;
        legal = is_between first last;
        point = λ m h b o. record { bytes = o.bytes; address = mod-lt (h * 256 + b) z };
        put = put_ok;
        step_on = λ m o. record { bytes = o.bytes; address = mod-lt (m.address + 1) z };
        aim = λ c b h o. K.aim c b o;
        aim_legal = K.aim_legal;
        store = K.store;
        loaded = K.loaded;
        ticked = λ t. K.ticked (D.beat_of t);
      }

  pub record DoneOk (d : Done size names D) : Type 0 where
    pub bus : BusLimits size names first last d.bus
    pub companion : K.Ok d.companion
    pub memory : length d.memory ≡ size

  rest_ok : (p : Power) → BusLimits size names first last (resting p)
  unfolding phase_within power_within
  rest_ok On = record { address = z; phase = refl; power = refl }
  rest_ok Backup = record { address = z; phase = refl; power = refl }
  rest_ok Off = record { address = z; phase = refl; power = refl }

  module _ (u : Bus) (c : D.Desk) (m : List ℕ) (l : BusLimits size names first last u) (o : K.Ok c) (h : length m ≡
      size) where
    powered_ok : BusLimits size names first last (powered u)
    unfolding power_within
    powered_ok = record { address = l.address; phase = l.phase; power = refl }

    line_ok : (x : Line) → DoneOk (event_on size names D On (on_wire x) u c m)
    unfolding event_on power_within part_keeps
    line_ok x =
        let k : StateOk (part_of size names D) part_keeps (step (part_of size names D) (record {
          phase = u.phase;
          memory = lent m u.address;
          companion = c;
        }) (line x)).state =
        step_keeps (part_of size names D) part_keeps (record {
          phase = u.phase;
          memory = lent m u.address;
          companion
              = c;
        }) (line x)
        (record { phase = l.phase; memory = record { bytes = h; address = l.address }; companion = o }) in
        record {
          bus = record { address = k.memory.address; phase = k.phase; power = refl };
          companion = k.companion;
          memory = k.memory.bytes;
        }

    pub event_keeps : (p : Power) (x : Happening) → DoneOk (event_on size names D p x u c m)
    unfolding event_on
    event_keeps On (on_wire x) = line_ok x
    event_keeps On (beat t) = record { bus = l; companion = K.ticked t c o; memory = h }
    event_keeps On lost = record { bus = rest_ok Backup; companion = K.backed c o; memory = h }
    event_keeps On gone = record { bus = rest_ok Off; companion = K.lost c o; memory = h }
    event_keeps On returned = record { bus = l; companion = o; memory = h }
    event_keeps Backup (on_wire x) = record { bus = l; companion = o; memory = h }
    event_keeps Backup (beat t) = record { bus = l; companion = K.ticked t c o; memory = h }
    event_keeps Backup lost = record { bus = l; companion = o; memory = h }
    event_keeps Backup gone = record { bus = rest_ok Off; companion = K.lost c o; memory = h }
    event_keeps Backup returned = record { bus = powered_ok; companion = K.returned c o; memory = h }
    event_keeps Off (on_wire x) = record { bus = l; companion = o; memory = h }
    event_keeps Off (beat t) = record { bus = l; companion = o; memory = h }
    event_keeps Off lost = record { bus = l; companion = o; memory = h }
    event_keeps Off gone = record { bus = l; companion = o; memory = h }
    event_keeps Off returned = record { bus = powered_ok; companion = o; memory = h }
