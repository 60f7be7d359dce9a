-- SPDX-License-Identifier: Apache-2.0
-- Lists that are written byte by byte: a slave byte that is sent whole asks that the party may name whom it names
-- (`slave_whole`), and clocks of one list, one after another, are a piece of a merge (`first_clocks`, `second_clocks`).
use Prim.Native.Nat.{ℕ}
use mathlib.Core.Bool.{Bool, true}
use mathlib.Core.List.{List, [], ◌∷◌}
use Rattle.wire.specs.Bits.{pushed, sent_bit}
use Rattle.wire.specs.Machine.{Parts, clock, line}
use Rattle.wire.specs.declared.Side.TheVariants.{Memory, Companion}
use Rattle.law_merging.specs.Merge.{Reader, between, calling, moving, next}
use Rattle.law_merging.specs.Party.{Party, to, MayName, BusEvent, PartyEvent, WholeFrom}
use Rattle.law_merging.specs.Demand.{MergeFrom, one, two}
use Rattle.law_merging.specs.Clocks.{clocks, clocks_by, bits_of}
use Rattle.law_merging.proofs.Reader.{eight_clocks_lem}

-- where a reader stands after some clocks
abbrev pub read_clocks : Reader → List Bool → Reader
read_clocks q [] = q
read_clocks q (d ∷ ds) = read_clocks (next q (clock d)) ds

-- clocks of one list, one after another
module _ (P : Parts) {xs ys : List (BusEvent P)} {l : List (PartyEvent P)} where
  pub first_clocks : (ds : List Bool) (q : Reader) → MergeFrom P (read_clocks q ds) between xs ys l
      → MergeFrom P q between (clocks ds xs) ys (clocks_by (to Memory) ds l)
  first_clocks [] q m = m
  first_clocks (d ∷ ds) q m = one (first_clocks ds (next q (clock d)) m)

  pub second_clocks : (ds : List Bool) (r : Reader) → MergeFrom P between (read_clocks r ds) xs ys l
      → MergeFrom P between r xs (clocks ds ys) (clocks_by (to Companion) ds l)
  second_clocks [] r m = m
  second_clocks (d ∷ ds) r m = two (second_clocks ds (next r (clock d)) m)

-- a slave byte, sent whole; the byte that its clocks make
abbrev pub made_of : ℕ → ℕ
made_of b =
    pushed (pushed (pushed (pushed (pushed (pushed (pushed (pushed 0
    (sent_bit 0 b)) (sent_bit 1 b)) (sent_bit 2 b)) (sent_bit 3 b)) (sent_bit 4 b)) (sent_bit 5 b)) (sent_bit 6 b))
    (sent_bit 7 b)

pub slave_whole : (P : Parts) (i : Party) (b : ℕ) (es : List (BusEvent P)) → MayName i (P.names (made_of b))
    → WholeFrom P i moving es → WholeFrom P i (calling 0 0) (clocks (bits_of b) es)
slave_whole P i b es n w =
    (eight_clocks_lem P i (sent_bit 0 b) (sent_bit 1 b) (sent_bit 2 b) (sent_bit 3 b) (sent_bit 4 b) (sent_bit 5 b) (sent_bit 6 b)
    (sent_bit 7 b) (line (clock true) ∷ es)).1 (n, (tt, w))
