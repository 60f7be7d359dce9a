-- SPDX-License-Identifier: Apache-2.0
-- What an event byte says (01, Event bytes and answer bytes; 02, number 5).
--   Happening   what can happen to a part
--   happening   an event byte: 01's eight are every part's, and `beyond` is what the part says of any other
--   edges       what a part with counter inputs says of those
use Rattle.std.specs.Prelude.{ℕ, true, false, cond, eqb}
use Rattle.wire.specs.Machine.{Line, start, stop, clock}
use Rattle.bus.specs.declared.Beat.{Beat}
use Rattle.bus.specs.declared.Beat.TheVariants.{Second, Cnt1, Cnt2}

pub data Happening : Type 0 where
  on_wire : Line → Happening
  beat : Beat → Happening
  lost gone returned : Happening

-- "0 Start; 1 Stop; 2 Clock with the master's data line low; 3 Clock with it high; 4 one-second tick; 5 main power
-- lost, backup present; 6 main power lost, no backup; 7 main power returned."
unfoldable pub happening : (ℕ → Happening) → ℕ → Happening
happening beyond e =
    cond (eqb e 0) (on_wire start)
    (cond (eqb e 1) (on_wire stop)
    (cond (eqb e 2) (on_wire (clock false))
    (cond (eqb e 3) (on_wire (clock true))
    (cond (eqb e 4) (beat Second)
    (cond (eqb e 5) lost
    (cond (eqb e 6) gone
    (cond (eqb e 7) returned (beyond e))))))))

-- 02, number 5: "8 and 9, are already polarity-filtered edges on CNT1 and CNT2".
abbrev pub edges : ℕ → Happening
edges e = cond (eqb e 8) (beat Cnt1) (beat Cnt2)
