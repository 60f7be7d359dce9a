-- SPDX-License-Identifier: Apache-2.0
-- `c_master::told::write_told` meets its contract: the tests in the order of the numbers, each way by its law; then the flags.
use mathlib.Core.Path.{sym}
use native.Mathlib.Omega.{arith}
use Rattle.std.proofs.lemmas.Result.{err_from_is_err_and}
use Rattle.c_master.proofs.Ways.{write_told_too_many, write_told_room, write_told_answers, write_told_done}
use Rattle.c_master.proofs.told.write_told.Goals as goal

pub returns-in_err-all : goal.returns-in_err-all
returns-in_err-all c =
    let p = err_from_is_err_and c.from_residual.result c.from_residual.ensures.1 in
    let h = c.in_err-all.ensures.too_many in
    rw (p.1, p.2, h.0) (sym (write_told_too_many _ _ _ h.1))

pub returns-in_err-has_room : goal.returns-in_err-has_room
returns-in_err-has_room c =
    let p = err_from_is_err_and c.from_residual-in_err-has_room.result c.from_residual-in_err-has_room.ensures.1 in
    let all = c.in_ok-all.ensures.ok in
    let h = c.in_err-has_room.ensures.little_room in
    rw (p.1, p.2, h.0) (sym (write_told_room _ _ _ all.1 (omega (arith, all.0, h.1))))

pub returns-in_err-as_many : goal.returns-in_err-as_many
returns-in_err-as_many c =
    let p = err_from_is_err_and c.from_residual-in_err-as_many.result c.from_residual-in_err-as_many.ensures.1 in
    let all = c.in_ok-all.ensures.ok in
    let room = c.in_ok-has_room.ensures.ok in
    let h = c.in_err-as_many.ensures.wrong_answers in
    rw (p.1, p.2, h.0) (sym (write_told_answers _ _ _ all.1 (omega (arith, all.0, room)) (λ e. h.1 (omega (arith, e, c.write_count.ensures, all.0)))))

pub returns : goal.returns
returns c =
    let all = c.in_ok-all.ensures.ok in
    let room = c.in_ok-has_room.ensures.ok in
    let many = c.in_ok-as_many.ensures.ok in
    rw all.0 (write_told_done _ _ _ all.1 (omega (arith, all.0, room)) _ (omega (arith, many, c.write_count.ensures, all.0)) (rw all.0 at c.put_flags.ensures))
