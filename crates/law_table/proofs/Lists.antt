-- SPDX-License-Identifier: Apache-2.0
-- The list run under each number: the ways through its tests.
use Prim.Native.Nat.{ℕ, ◌<◌}
use mathlib.Core.Path.{◌≡◌, refl, ap, ◌∙◌}
use mathlib.Core.Bool.{true, false, and-false}
use mathlib.Core.List.{List, [], ◌∷◌, ◌++◌}
use lib.Dec.{leb}
use borrow.Author.Tests.{le-leb, lt-leb}
use Rattle.std.specs.Prelude.{Some, None}
use Rattle.wire.proofs.Tests.{and_join}
use Rattle.fm3130.specs.declared.State.{State}
use Rattle.fm3130_image.specs.Image.{decode_of}
use Rattle.fm3130_image.specs.Reading.{WrittenBy}
use Rattle.fm3130_image.proofs.Images.{settled_decode}
use Rattle.bus_list.specs.Run as list
use Rattle.fm3130_list.specs.Run.{Outcome, all_known}
use Rattle.fm3130_list.proofs.Runs.{outcome_wrong_memory, outcome_wrong_image, outcome_unknown_event, outcome_short_answers}
use Rattle.fm3130_list.proofs.Runs.{outcome_written}
use Rattle.fm3130_list.proofs.Pieces.{known_append}
use Rattle.law_table.specs.Lists.{EachKnown, EveryListNumber}

known : (es : List ℕ) → EachKnown es → all_known es ≡ true
unfolding list.all_known
known [] h = refl
known (e ∷ es) h = and_join (leb e 7) (all_known es) (le-leb e 7 h.0) (known es h.1)

unknown : (before after : List ℕ) (e : ℕ) → 7 < e → all_known (before ++ (e ∷ after)) ≡ false
unfolding list.all_known
unknown before after e h =
    known_append before (e ∷ after) ∙ rw (lt-leb e 7 h) (and-false (all_known before))

pub every_list_number : EveryListNumber
every_list_number i m es a =
    record {
      memory = outcome_wrong_memory i m es a;
      image = λ h n. outcome_wrong_image i m es a h (settled_decode i None n);
      event = λ h s w before after e cut l.
          outcome_unknown_event i m es a h s (good s w) (ap all_known cut ∙ unknown before after e l);
      answers = λ h s w k l. outcome_short_answers i m es a h s (good s w) (known es k) l;
      answered = λ h s w k l.
          let o = outcome_written i m es a h s (good s w) (known es k) l in
          (ap (λ (z : Outcome). z.number) o, ap (λ (z : Outcome). z.count) o);
    }
  where
    good : (s : State) → WrittenBy i s → decode_of i ≡ Some s
    good s w = settled_decode i (Some s) w
