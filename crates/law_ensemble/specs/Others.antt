-- SPDX-License-Identifier: Apache-2.0
-- 02, number 12: "a whole transaction begun between transfers, its slave bytes all naming one device, leaves the others, once ended, as
-- they were": through the entry, in bytes.
--   memory_of              the memory of a place after a call
--   OthersUntouched       a call with whole transactions of one device leaves the others' images and memories byte for byte
use Rattle.std.specs.Prelude.{ℕ, ◌≡◌, false, List}
use Rattle.wire.specs.Machine.{Line}
use Rattle.numbers.specs.Numbers.{accepted}
use Rattle.law_merging.specs.Merge.{between}
use Rattle.set_event.specs.Set.{Together, Place, first, second, third, fourth, at}
use Rattle.set_event.specs.Outcome.{lent_to}
use Rattle.set_image.specs.Read.{reading_of}
use Rattle.law_set.specs.Order.{part}
use Rattle.c_fm31set.specs.Entry.{Outcome, run_outcome}
use Rattle.law_ensemble.specs.Transaction.{line_bytes, WholeLines, NamesIt, same_place, Here, Between}

abbrev pub memory_of : Place → Outcome → List ℕ
memory_of first o = o.one
memory_of second o = o.two
memory_of third o = o.three
memory_of fourth o = o.four

pub record Untouched (v : Place) (images : List ℕ) (t : Together) (o : Outcome) : Type 0 where
  pub image : part v o.images ≡ part v images
  pub memory : memory_of v o ≡ (at v t).memory

abbrev pub OthersUntouched : Type 0
OthersUntouched =
    (plan images a b c d : List ℕ) (i v : Place) (xs : List Line) (room : List ℕ)
    → let t = lent_to (reading_of plan images).set a b c d in
    let o = run_outcome plan images a b c d (line_bytes xs) room in
    o.number ≡ accepted → Between t → Here t i → Here t v → WholeLines (NamesIt (at i t)) between xs
    → same_place i v ≡ false → Untouched v images t o
