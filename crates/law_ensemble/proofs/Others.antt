-- SPDX-License-Identifier: Apache-2.0
-- A device that whole transactions of another leave as it was has the image that it was read from: an accepted image is written back
-- byte for byte.
use Prim.Native.Nat.{ℕ, ◌<◌}
use mathlib.Core.Path.{◌≡◌, refl, sym, ap, subst, ◌∙◌}
use mathlib.Core.Bool.{true}
use mathlib.Core.List.{List}
use lib.Dec.{ltb}
use lib.ListN.{length}
use borrow.Author.Tests.{ltb-true}
use Rattle.set_event.specs.Set.{Held, Place, first, second, third, fourth, number_of, at, size_in, select_in}
use Rattle.set_event.specs.Outcome.{lent_to}
use Rattle.fm31_image.specs.Image.{image_of}
use Rattle.fm31_image.proofs.Images.{image_decode}
use Rattle.set_image.specs.Read.{count_of, reading_of}
use Rattle.set_image.proofs.Readings.{reading_length, reading_within}
use Rattle.law_set.specs.Order.{part}
use Rattle.law_set.proofs.Order.{read_in_order, written_in_order}
use Rattle.set_run.specs.Run.{Ended, run_of}
use Rattle.set_run.proofs.Runs.{run_together}
use Rattle.c_fm31set.specs.Entry.{Outcome, written}
use Rattle.c_fm31set.proofs.Entries.{passed}
use Rattle.law_ensemble.specs.Transaction.{line_bytes}
use Rattle.law_ensemble.specs.Others.{memory_of, OthersUntouched}
use Rattle.law_ensemble.proofs.Transaction.{transaction_leaves}
use Rattle.law_ensemble.proofs.Stand.{run_stands}
use Rattle.law_ensemble.proofs.Calls.{counted, outcome_number, outcome_done, known_of}

-- the memory of a place, of a set in the buffers
memory_at : (v : Place) (n : ℕ) (images : List ℕ) (r : Ended) (es room : List ℕ)
    → memory_of v (written n images r es room) ≡ (at v r.state).memory
memory_at first n images r es room = refl
memory_at second n images r es room = refl
memory_at third n images r es room = refl
memory_at fourth n images r es room = refl

pub others_untouched : OthersUntouched
unfolding reading_of
others_untouched plan images a b c d i v xs room h idle hi hv whole apart =
    let r = reading_of plan images in
    let t = lent_to r.set a b c d in
    let es = line_bytes xs in
    let e = sym (outcome_number plan images a b c d es room) ∙ h in
    let all = passed r.good t es (length room) e in
    let fits = (known_of r.good t es (length room) e).0 in
    let unlike = (run_stands t (reading_within plan images all.well a b c d) all.unlike all.stand).0 in
    let u = (run_of t es).state in
    let same : at v u ≡ at v t =
    ap (at v) (run_together t es) ∙ transaction_leaves t i v xs idle unlike hi whole apart in
    let on : number_of v < length plan =
    ltb-true (number_of v) (length plan) (subst (λ (k : ℕ). ltb (number_of v) k ≡ true) (counted plan fits) hv) in
    let wrote =
    (written_in_order (count_of plan) u images (reading_length plan images all.well)).each v
    (ltb-true (number_of v) (count_of plan) hv) in
    let was = (read_in_order plan images a b c d v all.well on).state in
    let done = outcome_done plan images a b c d es room e in
    record {
      image =
          ap (λ (o : Outcome). part v o.images) done
          ∙ (wrote
          ∙ (ap (λ (k : Held). image_of k.member.state) same
          ∙ (image_decode (size_in (at v t)) (select_in (at v t)) (part v images) (at v t).member.state was).1));
      memory =
          ap (memory_of v) done
          ∙ (memory_at v (count_of plan) images (run_of t es) es room ∙ ap (λ (k : Held). k.memory) same);
    }
