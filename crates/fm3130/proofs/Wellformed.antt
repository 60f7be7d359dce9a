-- SPDX-License-Identifier: Apache-2.0
-- Every event keeps a well-formed state well-formed and the memory's length: the theorem of `bus` at the FM3130's companion,
-- which keeps its own limits. So all states that a list of events reaches from one between transfers are well-formed
-- (`run_ok` of the list run).
use Prim.Native.Nat.{ℕ, ◌<◌}
use mathlib.Core.Path.{◌≡◌, refl, sym, ap, ◌∙◌}
use mathlib.Core.Bool.{Bool, true}
use mathlib.Core.List.{List}
use native.Mathlib.Omega.{arith}
use lib.ListN.{length}
use Rattle.wire.specs.Limits.{phase_within}
use Rattle.wire.specs.declared.Phase.TheVariants.{Idle}
use Rattle.wire.specs.Slave.{slave_names}
use Rattle.bus.specs.Event as bus
use Rattle.bus_limits.specs.Limits.{power_within}
use Rattle.bus.specs.declared.Power.{Power}
use Rattle.bus.specs.declared.Power.TheVariants.{On, Backup, Off}
use Rattle.bus_limits.proofs.Keeps.{from_zero, DeskKeeps, event_keeps}
use Rattle.bus_limits.proofs.Keeps as Keeps
use Rattle.fm3130_registers.specs.Map.{LAST}
use Rattle.fm3130_companion.specs.Part.{is_within}
use Rattle.fm3130_companion.proofs.Address.{aim_acknowledged}
use Rattle.fm3130_companion.proofs.Within.{aim_within, store_within, loaded_within, tick_within, backed_within, lost_within, returned_within}
use Rattle.fm3130.specs.Chip.{memory_size, Done, bus_of, state_with}
use Rattle.fm3130.specs.Power.{fresh}
use Rattle.fm3130.specs.Event.{happening, event_on, event_of}
use Rattle.fm3130.specs.Limits.{well_formed}
use Rattle.fm3130.specs.Desk.{companion30}
use Rattle.fm3130.specs.declared.State.{State}
use Rattle.fm3130.proofs.Entry.{legal_phase, limits_of, of_limits}

-- the companion keeps its limits
keeps : DeskKeeps 0 LAST companion30
keeps =
    record {
      Ok = λ c. is_within c ≡ true;
      aim = λ c b o. aim_within c o b;
      aim_legal = λ c b g. ap (λ (legal : ℕ → Bool). legal b) (from_zero LAST) ∙ (sym (aim_acknowledged c b) ∙ g);
      store = λ c b l o. store_within c o b;
      loaded = λ c b o. loaded_within c o b;
      ticked = λ t c o. tick_within c o;
      backed = backed_within;
      lost = λ c o. lost_within;
      returned = returned_within;
    }

-- an outcome that is well-formed, with all its memory
pub record DoneOk (d : Done) : Type 0 where
  pub state : well_formed d.state ≡ true
  pub memory : length d.memory ≡ memory_size

-- every event keeps a well-formed state well-formed
pub event_ok : (s : State) (m : List ℕ) (e : ℕ) → well_formed s ≡ true → length m ≡ memory_size → DoneOk (event_of s m e)
unfolding keeps event_on
event_ok s m e w h =
    let l = limits_of s w in
    let d : bus.Done memory_size slave_names companion30 =
    bus.event_on memory_size slave_names companion30 s.power (happening e) (bus_of s) s.companion m in
    let k : Keeps.DoneOk memory_size slave_names 0 LAST (omega arith) companion30 keeps d =
    event_keeps memory_size slave_names 0 LAST (omega arith) companion30 keeps (bus_of s) s.companion m
    (record { address = l.address; phase = legal_phase s.phase ∙ l.phase; power = l.power }) l.companion h
    s.power (happening e) in
    record {
      state =
          of_limits (state_with d.bus d.companion)
          (record {
            address = k.bus.address;
            companion = k.companion;
            phase = sym (legal_phase d.bus.phase) ∙ k.bus.phase;
            power = k.bus.power;
          });
      memory = k.memory;
    }

idle_power : (p : Power) → power_within p Idle ≡ true
unfolding power_within
idle_power On = refl
idle_power Backup = refl
idle_power Off = refl

-- a state between transfers that is inside 01's limits is well-formed
pub between_well_formed : (s : State) → s.phase ≡ Idle → s.address < memory_size → is_within s.companion ≡ true
    → well_formed s ≡ true
unfolding phase_within
between_well_formed s p a c =
    of_limits s
    (record { address = a; companion = c; phase = rw p refl; power = rw p (idle_power s.power) })

-- the fresh state is well-formed
pub fresh_well_formed : well_formed fresh ≡ true
fresh_well_formed = between_well_formed fresh refl (omega arith) lost_within
