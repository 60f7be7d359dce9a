-- SPDX-License-Identifier: Apache-2.0
-- The companion's functions, as an event asks for them (02, number 5).
--   beaten    a tick or an edge          ways31    all of them
use Rattle.bus.specs.declared.Beat.{Beat}
use Rattle.bus.specs.declared.Beat.TheVariants.{Second, Cnt1, Cnt2}
use Rattle.bus_deeds.specs.Serve.{Ways, taken_of}
use Rattle.fm31_counters.specs.declared.Counters.{Counters}
use Rattle.fm31_counters.specs.declared.Input.TheVariants as input
use Rattle.fm31_counters.specs.Part.{aim_of, store_of, load_of, loaded_of, edge_of, backed_of, lost_of, returned_of}

-- "It has no calendar: ticks change nothing"; "8 and 9, are already polarity-filtered edges on CNT1 and CNT2".
abbrev pub beaten : Beat → Counters → Counters
beaten Second c = c
beaten Cnt1 c = edge_of c input.Cnt1
beaten Cnt2 c = edge_of c input.Cnt2

abbrev pub ways31 : Ways Counters
ways31 =
    record {
      aim = λ c b. taken_of (aim_of c b);
      store = λ c b. taken_of (store_of c b);
      load = load_of;
      loaded = loaded_of;
      beaten = beaten;
      backed = backed_of;
      lost = lost_of;
      returned = returned_of;
    }
