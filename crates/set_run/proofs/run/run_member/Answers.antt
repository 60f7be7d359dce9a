-- SPDX-License-Identifier: Apache-2.0
-- `set_run::run::run_member` meets its contract.
use borrow.Author.Tests.{lt-ltb, le-ltb}
use Rattle.fm31.proofs.Entry.{size_positive}
use Rattle.set_event.specs.Set.{held}
use Rattle.set_event.proofs.Ears.{fit_length, fit_well}
use Rattle.set_run.proofs.Members.{member_here, member_absent}
use Rattle.set_run.proofs.run.run_member.Goals as goal

pub run_at-state-requires : goal.run_at-state-requires
run_at-state-requires c =
    let z = c in
    let i = z in
    let s = i in
    let a = s.args in
    let h = held a.member a.memory.now in
    let k = lt-ltb a.place a.count i.if-place-count.true in record {
      state_value = (
        rw z.size_of.ensures (fit_well a.count a.place h s.requires.fit k),
        rw z.size_of.ensures (fit_length a.count a.place h s.requires.fit k),
        rw z.size_of.ensures (size_positive a.member.size),
      );
      place_bound = s.requires.place_bound;
    }

pub returns-then-place-count : goal.returns-then-place-count
returns-then-place-count c =
    let r = c in
    let z = r in
    let i = z in
    let a = i.args in
    member_here a.count a.place (held a.member a.memory.now) a.events.now a.answers.now _ _ _ _
    (lt-ltb a.place a.count i.if-place-count.true) z.size_of.ensures r.run_at-state.ensures

pub returns : goal.returns
returns c =
    let a = c.args in
    member_absent a.count a.place (held a.member a.memory.now) a.events.now a.answers.now
    (le-ltb a.place a.count c.if-place-count.false)
