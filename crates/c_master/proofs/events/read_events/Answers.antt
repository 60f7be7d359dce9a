-- SPDX-License-Identifier: Apache-2.0
-- `c_master::events::read_events` meets its contract: the tests in the order of the numbers, each way by its law; then six pieces laid one
-- after another, the last data byte by itself.
use Prim.Native.Nat.{◌-◌}
use mathlib.Core.Path.{◌≡◌, sym, ◌∙◌}
use native.Mathlib.Omega.{arith}
use Rattle.std.proofs.lemmas.Result.{err_from_is_err_and}
use Rattle.wire_clocks.proofs.Laying.{laid_then, asked_on_length}
use Rattle.c_master.proofs.Ways.{read_too_many, read_none, read_address, read_room, read_done, read_laid}
use Rattle.c_master.proofs.events.read_events.Goals as goal

pub returns-in_err-all : goal.returns-in_err-all
returns-in_err-all c =
    let p = err_from_is_err_and c.from_residual.result c.from_residual.ensures.1 in
    let h = c.in_err-all.ensures.too_many in
    rw (p.1, p.2, h.0) (sym (read_too_many _ _ _ h.1))

pub returns-in_err-at_least_one : goal.returns-in_err-at_least_one
returns-in_err-at_least_one c =
    let p = err_from_is_err_and c.from_residual-in_err-at_least_one.result c.from_residual-in_err-at_least_one.ensures.1 in
    let all = c.in_ok-all.ensures.ok in
    let h = c.in_err-at_least_one.ensures.read_of_none in
    rw (p.1, p.2, h.0) (sym (read_none _ _ _ all.1 (sym all.0 ∙ h.1)))

pub returns-in_err-place : goal.returns-in_err-place
returns-in_err-place c =
    let p = err_from_is_err_and c.from_residual-in_err-place.result c.from_residual-in_err-place.ensures.1 in
    let all = c.in_ok-all.ensures.ok in
    let some = c.in_ok-at_least_one.ensures.ok in
    let h = c.in_err-place.ensures.wrong_address in
    rw (p.1, p.2, h.0) (sym (read_address _ _ _ all.1 (λ e. some (all.0 ∙ e)) h.1))

pub returns-in_err-has_room : goal.returns-in_err-has_room
returns-in_err-has_room c =
    let p = err_from_is_err_and c.from_residual-in_err-has_room.result c.from_residual-in_err-has_room.ensures.1 in
    let all = c.in_ok-all.ensures.ok in
    let some = c.in_ok-at_least_one.ensures.ok in
    let h = c.in_err-has_room.ensures.little_room in
    rw (p.1, p.2, h.0) (sym (read_room _ _ _ all.1 (λ e. some (all.0 ∙ e)) c.in_ok-place.ensures.ok.1 (omega (arith, all.0, c.read_count.ensures, h.1))))

pub lay_byte-ended-requires : goal.lay_byte-ended-requires
lay_byte-ended-requires c = omega (arith, c.in_ok-all.ensures.ok, c.in_ok-at_least_one.ensures.ok, c.in_ok-has_room.ensures.ok, asked_on_length (c.in_ok-all.all - 1))

pub lay_event-requires : goal.lay_event-requires
lay_event-requires c = omega (arith, c.in_ok-all.ensures.ok, c.in_ok-at_least_one.ensures.ok, c.in_ok-has_room.ensures.ok, asked_on_length (c.in_ok-all.all - 1))

pub returns : goal.returns
returns c =
    let all = c.in_ok-all.ensures.ok in
    let some : c.args.count ≡ 0 → ⊥ = λ e. c.in_ok-at_least_one.ensures.ok (all.0 ∙ e) in
    let place = c.in_ok-place.ensures.ok in
    read_done _ _ _ all.1 some place.1 _ _ (omega (arith, all.0, c.read_count.ensures, c.in_ok-has_room.ensures.ok))
    (read_laid _ _ _ _ _ some
    (laid_then (rw place.0 at c.lay_opening-opened.ensures) (laid_then c.lay_event-again.ensures (laid_then c.lay_byte-named.ensures (laid_then (rw all.0 at c.lay_asked-going.ensures) (laid_then c.lay_byte-ended.ensures c.lay_event.ensures))))))
