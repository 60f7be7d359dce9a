-- SPDX-License-Identifier: Apache-2.0
-- Catching up is the list run of as many ticks, on any image; no ticks change nothing; and the image that it leaves is
-- accepted again.
use Prim.Native.Nat.{ℕ, ◌≤◌}
use mathlib.Core.Path.{◌≡◌, refl, sym, ap, subst, ◌∙◌}
use mathlib.Core.List.{List}
use native.Mathlib.Omega.{arith}
use lib.ListN.{length}
use Rattle.std.specs.Prelude.{Option, Some, None}
use Rattle.calendar_days.specs.After.{most_ticks}
use Rattle.fm3130.specs.Chip.{memory_size}
use Rattle.fm3130.specs.declared.State.{State}
use Rattle.fm3130_image.specs.Image.{image_of, decode_of}
use Rattle.fm3130_list.specs.Run.{Outcome}
use Rattle.fm3130_image.specs.Made.{Made}
use Rattle.fm3130_image.proofs.Images.{image_decode, decode_image}
use Rattle.fm3130_list.proofs.Runs.{outcome_wrong_image, outcome_written}
use Rattle.c_catch_up.specs.CatchUp.{ticks, caught_up, catch_up_of}
use Rattle.c_catch_up.specs.Laws.{SameAsList, AsTheListRun, NoneLeavesAll, AcceptedAgain}
use Rattle.c_catch_up.proofs.Run.{caught_run, caught_none, caught_ok, ticks_known, ticks_length}
use Rattle.c_catch_up.proofs.Ways.{catch_up_wrong_image, catch_up_done}

module _ (i m : List ℕ) (n : ℕ) (a : List ℕ) (h : length m ≡ memory_size) (k : n ≤ most_ticks) (room : n ≤ length a) where
  on_image : (d : Option State) → decode_of i ≡ d → SameAsList i m n a
  on_image None d =
      let o = outcome_wrong_image i m (ticks n) a h d in
      let c = catch_up_wrong_image i n d in
      record {
        number = ap (λ (r : Made). r.number) c ∙ sym (ap (λ (r : Outcome). r.number) o);
        image = ap (λ (r : Made). r.image) c ∙ sym (ap (λ (r : Outcome). r.image) o);
        memory = ap (λ (r : Outcome). r.memory) o;
      }
  on_image (Some s) d =
      let l : length (ticks n) ≤ length a = subst (λ (x : ℕ). x ≤ length a) (sym (ticks_length n)) room in
      let o = outcome_written i m (ticks n) a h s d (ticks_known n) l in
      let c = catch_up_done i n s d k in
      let r = caught_run n s m in
      record {
        number = ap (λ (r : Made). r.number) c ∙ sym (ap (λ (r : Outcome). r.number) o);
        image =
            ap (λ (r : Made). r.image) c ∙ ap image_of r.0 ∙ sym (ap (λ (r : Outcome). r.image) o);
        memory = ap (λ (r : Outcome). r.memory) o ∙ r.1;
      }

pub as_the_list_run : AsTheListRun
as_the_list_run i m n a h k room = on_image i m n a h k room (decode_of i) refl

pub none_leaves_all : NoneLeavesAll
none_leaves_all i = on_decoded_lem (decode_of i) refl
  where
    on_decoded_lem : (d : Option State) → decode_of i ≡ d → (catch_up_of i 0).image ≡ i
    on_decoded_lem None d = ap (λ (r : Made). r.image) (catch_up_wrong_image i 0 d)
    on_decoded_lem (Some s) d =
        ap (λ (r : Made). r.image) (catch_up_done i 0 s d (omega arith))
        ∙ ap image_of (caught_none s)
        ∙ (image_decode i s d).1

pub accepted_again : AcceptedAgain
accepted_again i s n d = decode_image (caught_up n s) (caught_ok n s (image_decode i s d).0)
