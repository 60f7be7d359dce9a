-- SPDX-License-Identifier: Apache-2.0
-- A tick goes to the companion while a supply is present.
use Rattle.fm3130_image.specs.Image.{image_of}
use Rattle.place_event.proofs.Quiets.{second_heard, second_unheard, rolled_heard, rolled_unheard}
use Rattle.place_event.proofs.event.second.Goals as goal

pub returns-then-image-eq-POWER_OFF : goal.returns-then-image-eq-POWER_OFF
unfolding image_of
returns-then-image-eq-POWER_OFF c = (
  λ s e. rw (rolled_unheard s (rw e at c.if-image-eq-POWER_OFF.true)),
  λ s e. rw (second_unheard s (rw e at c.if-image-eq-POWER_OFF.true)) e,
)

pub returns : goal.returns
unfolding image_of
returns c =
    let n = c.if-image-eq-POWER_OFF.false in (
      λ s e. rw (rolled_heard s (λ z. n (rw e z))) (c.tick.ensures s e).0,
      λ s e. rw (second_heard s (λ z. n (rw e z))) (c.tick.ensures s e).1,
    )
