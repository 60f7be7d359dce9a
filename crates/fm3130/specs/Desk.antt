-- SPDX-License-Identifier: Apache-2.0
-- The FM3130's companion as a part's: its functions as the bus asks for them.
--   aims, stores   it takes an address, a byte        pin_shown      bits 3 to 1 of an answer
--   companion30    the companion
use Rattle.std.specs.Prelude.{ℕ}
use Rattle.wire.specs.Clock as Clock
use Rattle.bus.specs.Desk.{Desks}
use Rattle.bus_deeds.specs.Serve.{taken_of}
use Rattle.bus.specs.Happening.{returned}
use Rattle.bus.specs.declared.Beat.TheVariants.{Second}
use Rattle.bus.specs.declared.Power.{Power}
use Rattle.bus.specs.declared.Power.TheVariants.{On, Backup, Off}
use Rattle.fm3130_companion.specs.Part.{aim_of, store_of, load_of, loaded_of, tick_of, guard_of, pin_of, backed_of, lost_of, returned_of}
use Rattle.fm3130_companion.specs.declared.Companion.{Companion}

abbrev pub aims : Companion → ℕ → Clock.Taken Companion
aims c b = taken_of (aim_of c b)

abbrev pub stores : Companion → ℕ → Clock.Taken Companion
stores c b = taken_of (store_of c b)

-- The pin's function and its bit 3, as bits 1 to 3. "Released whenever power is lost with no backup."
abbrev pub pin_shown : Power → Companion → ℕ
pin_shown On c = pin_of c
pin_shown Backup c = pin_of c
pin_shown Off c = 0

-- The FM3130 has 01's eight events and no other: its one tick is a second. Its calls refuse a byte beyond them; the
-- definition says `returned` of one.
abbrev pub companion30 : Desks
companion30 =
    record {
      Desk = Companion;
      aim = aims;
      store = stores;
      load = load_of;
      loaded = loaded_of;
      beyond = λ e. returned;
      Tick = Unit {0};
      beat_of = λ t. Second;
      ticked = λ t c. tick_of c;
      guard = guard_of;
      pin = pin_shown;
      backed = backed_of;
      lost = λ c. lost_of;
      returned = returned_of;
    }
