-- SPDX-License-Identifier: Apache-2.0
-- The tests in the order of the numbers, each way by its law; then the list and the image are written. The list has three
-- bytes for each register counted, so what is tested is its length.
use Prim.Native.Nat.{ℕ}
use mathlib.Core.Path.{◌≡◌, sym, ap, ◌∙◌}
use native.Mathlib.Omega.{arith}
use borrow.Author.Rules.{rules}
use Rattle.std.specs.Prelude.{Option, Some, None, Result, Ok, Err, ok_or}
use Rattle.std.specs.Result.{result_ok}
use Rattle.std.proofs.lemmas.Result.{err_from_is_err_and}
use Rattle.numbers.specs.Numbers.{wrong_state}
use Rattle.numbers.specs.Refusal.{number_of}
use Rattle.numbers.specs.declared.Refusal.{Refusal}
use Rattle.numbers.specs.declared.Refusal.TheVariants.{WrongState}
use Rattle.fm3130.specs.declared.State.{State}
use Rattle.fm3130_image.specs.Image.{image_of, decode_of}
use Rattle.fm3130_image.proofs.Images.{settled_decode, decoded_length}
use Rattle.c_mend.proofs.Listing.{counted, room_of_count}
use Rattle.c_mend.proofs.Ways.{mend_wrong_image, mend_short, mend_done, counted_by_lem, counted_few, counted_length, listed_by}
use Rattle.c_mend.proofs.mend.Goals as goal

abbrev told : Result State Refusal → ℕ
told (Ok s) = wrong_state
told (Err e) = number_of e

pub returns-in_err-state : goal.returns-in_err-state
returns-in_err-state c =
    let p = err_from_is_err_and c.from_residual.result c.from_residual.ensures.1 in
    let none : c.decode.result ≡ None = c.ok_or.ensures.ok_part ∙ ap result_ok c.in_err-state.was in
    let d : decode_of c.args.image.now ≡ None = settled_decode _ _ c.decode.ensures ∙ none in
    let e : number_of c.in_err-state.field-0.0 ≡ wrong_state =
    ap told (c.in_err-state.ensures.value ∙ ap (λ (o : Option State). ok_or o WrongState) none) in
    rw (p.1, p.2, e) (sym (mend_wrong_image _ _ d))

pub overflow_mul-count : goal.overflow_mul-count
overflow_mul-count c =
    let few = counted_few c.in_ok-state.state _ _ _ c.mended_state-mended.ensures c.time_bytes-before.ensures c.time_bytes-after.ensures c.count_changes-count.ensures in
    search rules

pub returns-then-changes-count : goal.returns-then-changes-count
returns-then-changes-count c =
    let d : decode_of c.args.image.now ≡ Some c.in_ok-state.state =
    settled_decode _ _ c.decode.ensures ∙ c.ok_or.ensures.ok_part ∙ ap result_ok c.in_ok-state.was in
    let l = counted_length c.in_ok-state.state _ _ _ c.mended_state-mended.ensures c.time_bytes-before.ensures c.time_bytes-after.ensures c.count_changes-count.ensures in
    sym (mend_short _ _ c.in_ok-state.state d (omega (arith, c.if-changes-count.true, l)))

pub write_changes-requires : goal.write_changes-requires
write_changes-requires c =
    room_of_count _ _ c.args.changes.now _ (c.count_changes-count.ensures ∙ counted _ _) c.if-changes-count.false

pub write_image-requires : goal.write_image-requires
write_image-requires c =
    let d : decode_of c.args.image.now ≡ Some c.in_ok-state.state =
    settled_decode _ _ c.decode.ensures ∙ c.ok_or.ensures.ok_part ∙ ap result_ok c.in_ok-state.was in
    decoded_length _ _ d

pub returns : goal.returns
returns c =
    let d : decode_of c.args.image.now ≡ Some c.in_ok-state.state =
    settled_decode _ _ c.decode.ensures ∙ c.ok_or.ensures.ok_part ∙ ap result_ok c.in_ok-state.was in
    let m = c.mended_state-mended.ensures in
    let b = c.time_bytes-before.ensures in
    let a = c.time_bytes-after.ensures in
    let n = c.count_changes-count.ensures in
    let l = counted_length c.in_ok-state.state _ _ _ m b a n in
    mend_done _ _ c.in_ok-state.state d _ c.write_changes.result _ _ (omega (arith, c.if-changes-count.false, l)) (counted_by_lem c.in_ok-state.state _ _ _ m b a n)
    (listed_by c.in_ok-state.state _ _ _ m b a c.write_changes.ensures) (c.write_image.ensures ∙ ap image_of m)
