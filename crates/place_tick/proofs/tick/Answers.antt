-- SPDX-License-Identifier: Apache-2.0
-- By the oscillator, and by whether the core is valid.
use Rattle.std.proofs.Common.{◌≡◌, true, false, sym, ◌∙◌}
use Rattle.bits.specs.Weight.{has}
use Rattle.calendar.specs.Next.{is_valid}
use Rattle.fm3130_registers.specs.Map.{OSCEN}
use Rattle.fm3130_image.specs.Image.{image_of, calendar_at}
use Rattle.place_tick.proofs.Ticks.{tick_off, tick_counts, tick_rest}
use Rattle.place_tick.proofs.tick.Goals as goal

pub returns-then-has : goal.returns-then-has
unfolding image_of
returns-then-has c s e =
    let o : has s.companion.registers.trim OSCEN ≡ true = rw e at (sym c.has.ensures ∙ c.if-has.true) in
    rw e (tick_off s o)

pub returns-then-is_valid : goal.returns-then-is_valid
unfolding image_of calendar_at
returns-then-is_valid c s e =
    let o : has s.companion.registers.trim OSCEN ≡ false = rw e at (sym c.has.ensures ∙ c.if-has.false) in
    let v : is_valid s.companion.core ≡ true =
    rw (c.calendar_at.ensures, e) at (sym c.is_valid.ensures ∙ c.if-is_valid.true) in
    tick_counts s o (c.counted.ensures s e v)

pub returns : goal.returns
unfolding image_of calendar_at
returns c s e =
    let o : has s.companion.registers.trim OSCEN ≡ false = rw e at (sym c.has.ensures ∙ c.if-has.false) in
    let v : is_valid s.companion.core ≡ false =
    rw (c.calendar_at.ensures, e) at (sym c.is_valid.ensures ∙ c.if-is_valid.false) in
    tick_rest s o v (c.tell.ensures s e)
