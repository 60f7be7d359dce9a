-- SPDX-License-Identifier: Apache-2.0
-- No event, and one more.
use mathlib.Core.Path.{refl}
use borrow.Author.Rules.{rules}
use Rattle.bus_rows.proofs.Rows.{clocks_none, clocks_more, heard_none, heard_more}
use Rattle.bus_rows.proofs.idle_row.Goals as goal

pub loop-i-init : goal.loop-i-init
loop-i-init c =
    record {
      room = refl;
      heard = heard_none _ _ _ _;
      clocks = clocks_none c.args.events.now _;
    }

pub loop-i-preserved : goal.loop-i-preserved
loop-i-preserved c =
    let l = c.loop-i in
    record {
      room = search rules;
      heard = heard_more _ _ _ l.auto.i _ _ _ l.invariant.heard;
      clocks = clocks_more c.args.events.now _ _ l.auto.i l.invariant.clocks c.if-event-ne1.false;
    }
