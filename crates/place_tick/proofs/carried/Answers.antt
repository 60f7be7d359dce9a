-- SPDX-License-Identifier: Apache-2.0
-- The calendar's own tick, by value; then the alarm and what the tick tells.
use Rattle.std.proofs.Common.{◌≡◌, refl, ap, ◌∙◌}
use Rattle.calendar.specs.Next.{next_of}
use Rattle.calendar.specs.declared.Advanced.{Advanced}
use Rattle.fm3130_companion.specs.declared.Companion.{Companion}
use Rattle.fm3130.specs.Code.Bus.{with_companion}
use Rattle.fm3130_image.specs.Image.{image_of, calendar_at}
use Rattle.place_companion.specs.Code.Desk.{with_core}
use Rattle.place_tick.proofs.Ticks.{counted_parts}
use Rattle.place_tick.proofs.carried.Goals as goal

pub returns : goal.returns
unfolding image_of calendar_at
returns c s e v =
    let a : c.next-next.result ≡ next_of s.companion.core = c.next-next.ensures ∙ rw (c.calendar_at.ensures, e) refl in
    let q = with_companion s (with_core s.companion c.next-next.result.calendar) in
    let p = c.put_core.ensures s e in
    let g = c.rings-rung.ensures q p in
    let t = c.tell.ensures q p in (
      ap (λ (x : Advanced). x.rolled) a,
      t ∙ rw (g, a) (ap (λ (x : Companion). image_of (with_companion s x)) (counted_parts s.companion v)),
    )
