-- SPDX-License-Identifier: Apache-2.0
-- No tick, one more, and all of the row.
use Prim.Native.Nat.{ℕ}
use mathlib.Core.Path.{◌≡◌, refl, sym, ap, ◌∙◌}
use native.Mathlib.Omega.{arith}
use lib.ListN.{length}
use borrow.Author.Rules.{rules}
use Rattle.fm3130_image.proofs.Accepts.{image_written}
use Rattle.fm3130_image.specs.Image.{image_of}
use Rattle.fm3130_image.proofs.Images.{image_length}
use Rattle.place_tick.proofs.Ticks.{ticking_parts, counted_ticks}
use Rattle.place_rows.proofs.Ledger.{lies}
use Rattle.place_rows.proofs.Rowing.{idle_begun, tick_more, ticks_reached, further, shown_both}
use Rattle.place_rows.proofs.tick_row.Goals as goal

pub loop-i-init : goal.loop-i-init
loop-i-init c =
    record {
      written = sym (image_written _ c.requires.image_value.0);
      ticking = c.requires.image_value.1;
      room = refl;
      led = idle_begun _ _ _ _ c.requires.image_value.0 c.requires.from_in_bounds.0;
    }

pub returns-then-events-i-ne4 : goal.returns-then-events-i-ne4
returns-then-events-i-ne4 c =
    let l = c.loop-i in (
      ticks_reached _ _ _ _ c.requires.image_value.0 _ _ _ l.invariant.led l.invariant.written,
      λ n k. further (λ (x : ℕ). x ≡ 4) c.args.events.now c.args.from l.i l.auto.i k c.if-events-i-ne4.true,
    )

pub counted-requires : goal.counted-requires
counted-requires c = ap length c.loop-i.invariant.written ∙ image_length _

pub shown-requires : goal.shown-requires
shown-requires c =
    let l = c.loop-i in
    let v = c.counted.ensures _ l.invariant.written (ticking_parts _ l.invariant.ticking).1.1 in
    ap length v.1 ∙ image_length _

pub overflow_add-answers : goal.overflow_add-answers
overflow_add-answers c = omega (arith, c.shown.ensures.1)

pub loop-i-preserved : goal.loop-i-preserved
loop-i-preserved c =
    let l = c.loop-i in
    let v = c.counted.ensures _ l.invariant.written (ticking_parts _ l.invariant.ticking).1.1 in
    let p = shown_both c.shown.ensures _ v.1 in
    record {
      written = v.1 ∙ ap image_of (sym (lies _ _ v.1));
      ticking = rw (lies _ _ v.1) (counted_ticks _ l.invariant.ticking);
      room = search rules;
      led =
          tick_more _ _ _ _ c.requires.image_value.0 _ _ _ _ _ l.invariant.led c.loop-i-test.true c.requires.from_in_bounds.1
          l.invariant.ticking v.1 c.if-events-i-ne4.false p.0;
    }

pub returns : goal.returns
returns c =
    let l = c.loop-i in
    let e : l.i ≡ length c.args.events.now = omega (arith, l.auto.i-end c.requires.from_in_bounds.0, c.loop-i-test.false) in (
      rw e at (ticks_reached _ _ _ _ c.requires.image_value.0 _ _ _ l.invariant.led l.invariant.written),
      λ n k. n,
    )
