-- SPDX-License-Identifier: Apache-2.0
-- The laws over the size, cited for both sizes; each size is above 0.
use Rattle.fm31.specs.Chip.{size_of}
use Rattle.fm31.proofs.Entry.{size_positive}
use Rattle.law_larger.specs.Sizes.{BothSizes}
use Rattle.law_larger.proofs.Addresses.{rolls_over, upper_bits_ignored, protected_ranges}
use Rattle.law_larger.proofs.Edges.{edges_count, in_transfers_too, ticks_nothing}
use Rattle.law_larger.proofs.Memory.{acknowledged_stored, protected_kept, only_stores_protect}
use Rattle.law_larger.proofs.Demand3.{demand_three, demand_three_merged}
use Rattle.law_larger.proofs.Numbers.{every_number}
use Rattle.law_larger.proofs.Entry.{call_stores, call_keeps, call_locks, count_by_number}

pub both_sizes : BothSizes
both_sizes =
    record {
      upper_bits = upper_bits_ignored;
      rolls = λ k. rolls_over (size_of k) (size_positive k);
      ranges = protected_ranges;
      protecting = λ k. only_stores_protect (size_of k);
      edges = λ k. edges_count (size_of k);
      during = λ k. in_transfers_too (size_of k);
      ticks = λ k. ticks_nothing (size_of k);
      stored = λ k. acknowledged_stored (size_of k) (size_positive k);
      kept = λ k. protected_kept (size_of k);
      apart = λ k. demand_three (size_of k);
      apart_merged = λ k. demand_three_merged (size_of k);
      numbers = λ k. every_number (size_of k);
      call_stores = λ k. call_stores (size_of k) (size_positive k);
      call_keeps = λ k. call_keeps (size_of k);
      call_locks = λ k. call_locks (size_of k);
      counted = λ k. count_by_number (size_of k);
    }
