-- SPDX-License-Identifier: Apache-2.0
-- No event, and one more.
use Prim.Native.Nat.{◌+◌}
use mathlib.Core.Path.{refl, ap, ◌∙◌}
use native.Mathlib.Omega.{arith}
use borrow.Author.Rules.{rules}
use Rattle.bus_rows.proofs.Rows.{clocks_none, clocks_more, line_worth, sent_none, sent_more}
use Rattle.bus_rows.proofs.send_row.Goals as goal

pub loop-i-init : goal.loop-i-init
loop-i-init c =
    record {
      image = refl;
      room = refl;
      done = omega arith;
      sent = sent_none _ _ _ _ _ _;
      clocks = clocks_none c.args.events.now _;
    }

pub loop-i-preserved : goal.loop-i-preserved
loop-i-preserved c =
    let l = c.loop-i in
    let h = l.auto.i in
    record {
      image = l.invariant.image;
      room = search rules;
      done = omega (arith, h, l.invariant.done);
      sent = sent_more _ _ _ h _ _ _ _ _ _ _ l.invariant.sent l.invariant.done
          (ap (λ n. c.args.pin + n) (rw c.sending_line.ensures at c.from-in-loop-i.ensures ∙ line_worth _));
      clocks = clocks_more c.args.events.now _ _ h l.invariant.clocks c.if-event-ne1.false;
    }
