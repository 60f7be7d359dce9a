-- SPDX-License-Identifier: Apache-2.0
-- All six asks: each is a computation.
use mathlib.Core.Path.{refl}
use Rattle.masters_hold.specs.Bus.{standing_of}
use Rattle.c_masters.specs.Outcome.{ask_of}
use Rattle.law_masters.specs.Asks.{EveryAsk}

pub every_ask : EveryAsk
unfolding ask_of standing_of
every_ask =
    record {
      rig_free = refl;
      rig_again = refl;
      rig_held = refl;
      handheld_free = refl;
      handheld_held = refl;
      handheld_again = refl;
    }
