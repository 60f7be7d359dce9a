-- SPDX-License-Identifier: Apache-2.0
-- `set_event::Member::hear` meets its contract.
use mathlib.Core.Path.{sym, ◌∙◌}
use Rattle.fm31_run.proofs.Seats.{own_small}
use Rattle.set_event.specs.Set.{held}
use Rattle.set_event.proofs.Ears.{fit_ready, heard_from, heard_no}
use Rattle.set_event.proofs.Member.hear.Goals as goal

pub advance-answered-requires : goal.advance-answered-requires
advance-answered-requires c =
    let a = c.args in
    record {
      ready = rw c.size_of-size.ensures (fit_ready a.count a.place (held a.self a.memory.now) a.event c.requires.fit
          (sym c.hears.ensures ∙ c.if-hears.true));
      event_le_last_event = rw c.own_byte.ensures (own_small a.event);
    }

pub returns-then-hears : goal.returns-then-hears
returns-then-hears c =
    let a = c.args in
    heard_from a.count a.place (held a.self a.memory.now) a.event _ _ _ _ c.size_of-size.ensures c.own_byte.ensures
    (sym c.hears.ensures ∙ c.if-hears.true) c.advance-answered.ensures

pub returns : goal.returns
returns c =
    let a = c.args in
    heard_no a.count a.place (held a.self a.memory.now) a.event (sym c.hears.ensures ∙ c.if-hears.false)
