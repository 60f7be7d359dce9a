-- SPDX-License-Identifier: Apache-2.0
-- The companion's functions, as an event asks for them.
use Rattle.bus_deeds.specs.Serve.{Ways, taken_of}
use Rattle.fm3130_companion.specs.declared.Companion.{Companion}
use Rattle.fm3130_companion.specs.Part.{aim_of, store_of, load_of, loaded_of, tick_of, backed_of, lost_of, returned_of}

abbrev pub ways30 : Ways Companion
ways30 =
    record {
      aim = λ c b. taken_of (aim_of c b);
      store = λ c b. taken_of (store_of c b);
      load = load_of;
      loaded = loaded_of;
      beaten = λ t c. tick_of c;
      backed = backed_of;
      lost = λ c. lost_of;
      returned = returned_of;
    }
