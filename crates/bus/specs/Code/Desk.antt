-- SPDX-License-Identifier: Apache-2.0
-- A companion that only replies: what is left of a part when its companion is taken out.
use Rattle.std.specs.Prelude.{ℕ}
use Rattle.wire.specs.Clock.{Taken}
use Rattle.bus.specs.Happening.{edges}
use Rattle.bus.specs.declared.Beat.{Beat}
use Rattle.bus.specs.declared.Reply.{Reply}
use Rattle.bus.specs.Desk.{Desks}

-- Auxiliary: a reply as what taking a byte leaves.
abbrev pub replied : Reply → Taken (Unit {0})
replied r = record { next = tt; good = r.good }

abbrev pub hollow : ℕ → Reply → Desks
hollow g r =
    record {
      Desk = Unit {0};
      aim = λ u b. replied r;
      store = λ u b. replied r;
      load = λ u. r.byte;
      loaded = λ u b. tt;
      beyond = edges;
      Tick = Beat;
      beat_of = λ t. t;
      ticked = λ t u. tt;
      guard = λ u. g;
      pin = λ p u. 0;
      backed = λ u. tt;
      lost = λ u. tt;
      returned = λ u. tt;
    }
