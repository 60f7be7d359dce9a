-- SPDX-License-Identifier: Apache-2.0
-- A byte from the master at its eighth and ninth clocks. On main power a Clock is the machine's; at eight clocks its
-- definition computes, once the test that takes or refuses the byte is settled. A refused byte leaves no transfer, so
-- its ninth clock is not heard.
use Prim.Native.Nat.{ℕ}
use mathlib.Core.Path.{◌≡◌, refl, ap, ◌∙◌}
use mathlib.Core.Bool.{Bool, true}
use mathlib.Core.List.{List}
use borrow.Author.Tests.{ne_eqb, le-leb, lt-leb}
use Rattle.wire.specs.Bits.{pushed, place_at}
use Rattle.wire.specs.Slave.{slave_names, answers}
use Rattle.wire.specs.Clock.{kept, received_at}
use Rattle.wire.specs.Memory.{lent, put_byte, refused_byte}
use Rattle.wire.specs.Machine.{clocked}
use Rattle.wire.specs.declared.Side.TheVariants.{Memory}
use Rattle.wire.specs.declared.Phase.{Phase}
use Rattle.wire.specs.declared.Phase.TheVariants.{Idle, Slave, Pointer, Write}
use Rattle.bus.specs.declared.Power.TheVariants.{On}
use Rattle.fm3130_companion.specs.Part.{aim_of}
use Rattle.fm3130.specs.Chip.{fm3130, Done, done_of}
use Rattle.fm3130.specs.Event.{event_of}
use Rattle.fm3130.specs.declared.State.{State}
use Rattle.law_table.specs.Stored.{clock_event}
use Rattle.law_table.specs.Eighth.{live, NotAcknowledged, SlaveRefused, PointerTaken, PointerRefused}
use Rattle.law_table.specs.Eighth.{DataStored, DataRefused}
use Rattle.law_table.proofs.Events.{clock_event_lem}
use Rattle.law_table.proofs.Unheard.{outside_unheard}

-- a Clock in a phase, by the machine
in_phase_lem : (s : State) (m : List ℕ) (d : Bool) (p : Phase) → s.power ≡ On → s.phase ≡ p
    → event_of s m (clock_event d) ≡ done_of (clocked fm3130 p (lent m s.address) s.companion d)
in_phase_lem s m d p on e = clock_event_lem s m on d ∙ rw e

-- a refused byte: its ninth clock falls outside a transfer
refused_by_lem : {s : State} {m : List ℕ} {d : Bool} {a : ℕ}
    → event_of s m (clock_event d) ≡ record { state = live Idle a s.companion; memory = m; line = d }
    → NotAcknowledged s m d a
refused_by_lem {s} {m} {d} {a} e =
    record {
      eighth = e;
      ninth = λ high. ap (λ (x : Done). x.line) (outside_unheard (live Idle a s.companion) m high refl);
    }

pub slave_refused : SlaveRefused
unfolding clocked received_at place_at kept slave_names answers
slave_refused s m b d on p w x y z =
    refused_by_lem (in_phase_lem s m d (Slave 7 b) on p
    ∙ rw (
      ne_eqb (pushed b d) 0xA0 w,
      ne_eqb (pushed b d) 0xA1 x,
      ne_eqb (pushed b d) 0xD0 y,
      ne_eqb (pushed b d) 0xD1 z,
    ))

pub pointer_refused : PointerRefused
unfolding clocked received_at place_at kept aim_of
pointer_refused s m b d on p h = refused_by_lem (in_phase_lem s m d (Pointer 7 b) on p ∙ rw (lt-leb (pushed b d) 14 h))

pub data_refused : DataRefused
unfolding clocked received_at place_at kept put_byte refused_byte
data_refused s m b d on p h = refused_by_lem (in_phase_lem s m d (Write Memory 7 b) on p ∙ rw h)

-- the ninth clock of a byte that was taken
pub pointer_taken : PointerTaken
unfolding clocked received_at place_at kept aim_of
pointer_taken s m b d on p h =
    record {
      eighth = in_phase_lem s m d (Pointer 7 b) on p ∙ rw (le-leb (pushed b d) 14 h);
      ninth = ap (λ (x : Done). x.line) (in_phase_lem _ m true (Pointer 8 (pushed b d)) refl refl);
    }

pub data_stored : DataStored
unfolding clocked received_at place_at kept put_byte
data_stored s m b d on p h =
    record {
      eighth = in_phase_lem s m d (Write Memory 7 b) on p ∙ rw h;
      ninth = ap (λ (x : Done). x.line) (in_phase_lem _ _ true (Write Memory 8 (pushed b d)) refl refl);
    }
