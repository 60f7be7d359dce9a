-- SPDX-License-Identifier: Apache-2.0
-- No event, and one more.
use mathlib.Core.Path.{refl}
use native.Mathlib.Omega.{arith}
use borrow.Author.Rules.{rules}
use Rattle.bus_rows.proofs.Rows.{clocks_none, clocks_more, bits_none, bits_more, heard_none, heard_more}
use Rattle.bus_rows.proofs.receive_row.Goals as goal

pub loop-i-init : goal.loop-i-init
loop-i-init c =
    record {
      image = refl;
      room = refl;
      done = omega arith;
      bits = bits_none _ _ _;
      heard = heard_none _ _ _ _;
      clocks = clocks_none c.args.events.now _;
    }

pub loop-i-preserved : goal.loop-i-preserved
loop-i-preserved c =
    let l = c.loop-i in
    let h = l.auto.i in
    record {
      image = l.invariant.image;
      room = search rules;
      done = omega (arith, h, l.invariant.done);
      bits = bits_more _ _ _ h _ _ _ l.invariant.bits c.push-byte.ensures;
      heard = heard_more _ _ _ h _ _ _ l.invariant.heard;
      clocks = clocks_more c.args.events.now _ _ h l.invariant.clocks c.if-event-ne1.false;
    }
