-- SPDX-License-Identifier: Apache-2.0
-- `c_master::events::write_events` meets its contract: the tests in the order of the numbers, each way by its law; then three pieces laid
-- one after another.
use mathlib.Core.Path.{sym}
use native.Mathlib.Omega.{arith}
use Rattle.std.proofs.lemmas.Result.{err_from_is_err_and}
use Rattle.wire_clocks.specs.Events.{opening, write_events}
use Rattle.wire_clocks.proofs.Laying.{laid_then, written_length}
use Rattle.c_master.proofs.Ways.{write_too_many, write_address, write_room, write_done}
use Rattle.c_master.proofs.events.write_events.Goals as goal

pub returns-in_err-count : goal.returns-in_err-count
returns-in_err-count c =
    let p = err_from_is_err_and c.from_residual.result c.from_residual.ensures.1 in
    let h = c.in_err-count.ensures.too_many in
    rw (p.1, p.2, h.0) (sym (write_too_many _ _ _ h.1))

pub returns-in_err-place : goal.returns-in_err-place
returns-in_err-place c =
    let p = err_from_is_err_and c.from_residual-in_err-place.result c.from_residual-in_err-place.ensures.1 in
    let h = c.in_err-place.ensures.wrong_address in
    rw (p.1, p.2, h.0) (sym (write_address _ _ _ c.in_ok-count.ensures.ok.1 h.1))

pub returns-in_err-has_room : goal.returns-in_err-has_room
returns-in_err-has_room c =
    let p = err_from_is_err_and c.from_residual-in_err-has_room.result c.from_residual-in_err-has_room.ensures.1 in
    let all = c.in_ok-count.ensures.ok in
    let h = c.in_err-has_room.ensures.little_room in
    rw (p.1, p.2, h.0) (sym (write_room _ _ _ all.1 c.in_ok-place.ensures.ok.1 (omega (arith, all.0, c.write_count.ensures, h.1))))

pub lay_event-requires : goal.lay_event-requires
lay_event-requires c = omega (arith, c.in_ok-count.ensures.ok, c.in_ok-has_room.ensures.ok, written_length c.args.bytes.now)

pub returns : goal.returns
unfolding write_events
returns c =
    let all = c.in_ok-count.ensures.ok in
    let place = c.in_ok-place.ensures.ok in
    write_done _ _ _ all.1 place.1 _ _ (omega (arith, all.0, c.write_count.ensures, c.in_ok-has_room.ensures.ok))
    (laid_then {xs = opening c.args.address} (rw place.0 at c.lay_opening-opened.ensures) (laid_then c.lay_written-sent.ensures c.lay_event.ensures))
