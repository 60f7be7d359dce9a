-- SPDX-License-Identifier: Apache-2.0
-- The counters in the customer's own numbers, by computation. A frozen read shows the snapshot in place of the
-- counters, and an edge leaves the rest.
use Rattle.std.proofs.Common.{refl}
use Rattle.fm31_counters.specs.Edge.{next_count, next_pair, edge_of}
use Rattle.fm31_counters.specs.Part.{load_of}
use Rattle.fm31_counters.specs.Cases.{Rolls, Frozen}

pub rolls : Rolls
unfolding next_count next_pair
rolls =
    record {
      one_rolls = refl;
      two_rolls = refl;
      one_carries = refl;
      two_carries = refl;
      pair_carries = refl;
      pair_rolls = refl;
      second_unused = λ n. refl;
    }

pub frozen : Frozen
unfolding edge_of load_of
frozen c i h = rw h refl
