-- SPDX-License-Identifier: Apache-2.0
-- `c_master::told::read_told` meets its contract: the tests in the order of the numbers, each way by its law; then the bytes, or
-- none.
use mathlib.Core.Path.{sym, ◌∙◌}
use native.Mathlib.Omega.{arith}
use Rattle.std.proofs.lemmas.Result.{err_from_is_err_and}
use Rattle.c_master.proofs.Ways.{read_told_too_many, read_told_none, read_told_room, read_told_answers, read_told_shut, read_told_done}
use Rattle.c_master.proofs.told.read_told.Goals as goal

pub returns-in_err-all : goal.returns-in_err-all
returns-in_err-all c =
    let p = err_from_is_err_and c.from_residual.result c.from_residual.ensures.1 in
    let h = c.in_err-all.ensures.too_many in
    rw (p.1, p.2, h.0) (sym (read_told_too_many _ _ _ h.1))

pub returns-in_err-at_least_one : goal.returns-in_err-at_least_one
returns-in_err-at_least_one c =
    let p = err_from_is_err_and c.from_residual-in_err-at_least_one.result c.from_residual-in_err-at_least_one.ensures.1 in
    let all = c.in_ok-all.ensures.ok in
    let h = c.in_err-at_least_one.ensures.read_of_none in
    rw (p.1, p.2, h.0) (sym (read_told_none _ _ _ all.1 (sym all.0 ∙ h.1)))

pub returns-in_err-has_room : goal.returns-in_err-has_room
returns-in_err-has_room c =
    let p = err_from_is_err_and c.from_residual-in_err-has_room.result c.from_residual-in_err-has_room.ensures.1 in
    let all = c.in_ok-all.ensures.ok in
    let some = c.in_ok-at_least_one.ensures.ok in
    let h = c.in_err-has_room.ensures.little_room in
    rw (p.1, p.2, h.0) (sym (read_told_room _ _ _ all.1 (λ e. some (all.0 ∙ e)) (omega (arith, all.0, h.1))))

pub returns-in_err-as_many : goal.returns-in_err-as_many
returns-in_err-as_many c =
    let p = err_from_is_err_and c.from_residual-in_err-as_many.result c.from_residual-in_err-as_many.ensures.1 in
    let all = c.in_ok-all.ensures.ok in
    let some = c.in_ok-at_least_one.ensures.ok in
    let room = c.in_ok-has_room.ensures.ok in
    let h = c.in_err-as_many.ensures.wrong_answers in
    rw (p.1, p.2, h.0) (sym (read_told_answers _ _ _ all.1 (λ e. some (all.0 ∙ e)) (omega (arith, all.0, room)) (λ e. h.1 (omega (arith, e, c.read_count.ensures, all.0)))))

pub returns-then-not-is_open_read : goal.returns-then-not-is_open_read
returns-then-not-is_open_read c =
    let all = c.in_ok-all.ensures.ok in
    let some = c.in_ok-at_least_one.ensures.ok in
    let room = c.in_ok-has_room.ensures.ok in
    let many = c.in_ok-as_many.ensures.ok in
    sym (read_told_shut _ _ _ all.1 (λ e. some (all.0 ∙ e)) (omega (arith, all.0, room)) (omega (arith, many, c.read_count.ensures, all.0)) (sym c.is_open_read.ensures ∙ c.if-not-is_open_read.true))

pub returns : goal.returns
returns c =
    let all = c.in_ok-all.ensures.ok in
    let some = c.in_ok-at_least_one.ensures.ok in
    let room = c.in_ok-has_room.ensures.ok in
    let many = c.in_ok-as_many.ensures.ok in
    rw all.0 (read_told_done _ _ _ all.1 (λ e. some (all.0 ∙ e)) (omega (arith, all.0, room)) (omega (arith, many, c.read_count.ensures, all.0)) _ (sym c.is_open_read.ensures ∙ c.if-not-is_open_read.false) (rw all.0 at c.put_bytes.ensures))
