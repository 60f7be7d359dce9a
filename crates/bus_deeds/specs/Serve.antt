-- SPDX-License-Identifier: Apache-2.0
-- What an event asks of the companion, and what the companion makes of it. The rest of the event is that of a part with a
-- hollow companion (law `split`).
--   at_last, at_ends, clock_deed, deed_of   what is asked
--   Ways, ways_of                        a companion's functions, as an event asks for them
--   Served, served_with, served_of       the companion once it did what it was asked, and its reply
use Rattle.std.specs.Prelude.{ℕ, Bool, true, Option, Some, None}
use Rattle.wire.specs.Bits.{pushed, Place, first, within, last, ack, place_at}
use Rattle.wire.specs.Clock.{Taken}
use Rattle.wire.specs.Machine.{Line, start, stop, clock}
use Rattle.wire.specs.declared.Side.TheVariants.{Memory, Companion}
use Rattle.wire.specs.declared.Phase.{Phase}
use Rattle.wire.specs.declared.Phase.TheVariants.{Idle, Slave, AddressHigh, AddressLow, Pointer, Write, Read}
use Rattle.bus.specs.Desk.{Desks}
use Rattle.bus.specs.Happening.{Happening, on_wire, beat, lost, gone, returned}
use Rattle.bus.specs.declared.Power.{Power}
use Rattle.bus.specs.declared.Power.TheVariants.{On, Backup, Off}
use Rattle.bus_deeds.specs.declared.Deed.{Deed}
use Rattle.bus_deeds.specs.declared.Deed.TheVariants as deed
use Rattle.bus.specs.declared.Reply.{Reply}
use Rattle.bus.specs.declared.Beat.{Beat}
use Rattle.bus_deeds.specs.declared.serve.Taken as taken
use Rattle.bus_deeds.specs.declared.serve.Served as served

-- Auxiliary: at the eighth clock of a byte that comes in; at the first and the eighth of one that goes out.
unfoldable pub at_last : Place → Deed → Deed
at_last first x = deed.Nothing
at_last within x = deed.Nothing
at_last last x = x
at_last ack x = deed.Nothing

unfoldable pub at_ends : Place → ℕ → Deed
at_ends first b = deed.Load
at_ends within b = deed.Nothing
at_ends last b = deed.Loaded b
at_ends ack b = deed.Nothing

unfoldable pub clock_deed : Phase → Bool → Deed
clock_deed Idle d = deed.Nothing
clock_deed (Slave k b) d = deed.Nothing
clock_deed (AddressHigh k b) d = deed.Nothing
clock_deed (AddressLow h k b) d = deed.Nothing
clock_deed (Pointer k b) d = at_last (place_at k) (deed.Aim (pushed b d))
clock_deed (Write Memory k b) d = deed.Nothing
clock_deed (Write Companion k b) d = at_last (place_at k) (deed.Store (pushed b d))
clock_deed (Read Memory k b) d = deed.Nothing
clock_deed (Read Companion k b) d = at_ends (place_at k) b

abbrev pub line_deed : Phase → Line → Deed
line_deed p start = deed.Nothing
line_deed p stop = deed.Nothing
line_deed p (clock d) = clock_deed p d

unfoldable pub deed_of : Power → Phase → Happening → Deed
deed_of On p (on_wire x) = line_deed p x
deed_of On p (beat t) = deed.Beat t
deed_of On p lost = deed.Backed
deed_of On p gone = deed.Lost
deed_of On p returned = deed.Nothing
deed_of Backup p (on_wire x) = deed.Nothing
deed_of Backup p (beat t) = deed.Beat t
deed_of Backup p lost = deed.Nothing
deed_of Backup p gone = deed.Lost
deed_of Backup p returned = deed.Returned
deed_of Off p x = deed.Nothing

-- A companion's functions, as an event asks for them.
pub record Ways (C : Type 0) : Type 0 where
  pub aim : C → ℕ → Taken C
  pub store : C → ℕ → Taken C
  pub load : C → ℕ
  pub loaded : C → ℕ → C
  pub beaten : Beat → C → C
  pub backed : C → C
  pub lost : C → C
  pub returned : C → C

abbrev pub ways_of : (D : Desks) → Ways D.Desk
ways_of D =
    record {
      aim = D.aim;
      store = D.store;
      load = D.load;
      loaded = D.loaded;
      beaten = D.ticked;
      backed = D.backed;
      lost = D.lost;
      returned = D.returned;
    }

-- The companion once it did what it was asked, and its reply.
pub record Served (C : Type 0) : Type 0 where
  pub next : C
  pub reply : Reply

abbrev pub quiet : {C : Type 0} → C → Served C
quiet c = record { next = c; reply = record { good = true; byte = 0 } }

abbrev pub took_of : {C : Type 0} → Taken C → Served C
took_of t = record { next = t.next; reply = record { good = t.good; byte = 0 } }

abbrev pub served_with : {C : Type 0} → Ways C → Deed → C → Served C
served_with W deed.Nothing c = quiet c
served_with W (deed.Aim b) c = took_of (W.aim c b)
served_with W (deed.Store b) c = took_of (W.store c b)
served_with W deed.Load c = record { next = c; reply = record { good = true; byte = W.load c } }
served_with W (deed.Loaded b) c = quiet (W.loaded c b)
served_with W (deed.Beat t) c = quiet (W.beaten t c)
served_with W deed.Backed c = quiet (W.backed c)
served_with W deed.Lost c = quiet (W.lost c)
served_with W deed.Returned c = quiet (W.returned c)

abbrev pub served_of : (D : Desks) → Deed → D.Desk → Served D.Desk
served_of D = served_with (ways_of D)

-- Auxiliary: what taking a byte leaves, as the machine asks for it.
abbrev pub taken_of : {C : Type 0} → taken.Taken C → Taken C
taken_of t = record { next = t.companion; good = t.acknowledged }

-- A beat tells; nothing else that is asked does.
abbrev pub told_by : {C T : Type 0} → (Beat → C → T) → Deed → C → Option T
told_by told (deed.Beat t) c = Some (told t c)
told_by told q c = None

-- Auxiliary: the two together, as the code returns them.
abbrev pub saying : {C T : Type 0} → Served C → Option T → served.Served C T
saying v w = record { companion = v.next; reply = v.reply; told = w }
