-- SPDX-License-Identifier: Apache-2.0
-- No transfer, a byte that goes out, a byte that comes in.
use mathlib.Core.Path.{refl}
use native.Mathlib.Omega.{arith}
use Rattle.fm3130_image.proofs.Accepts.{image_long}
use Rattle.place_clock.proofs.Outgoings.{at_idle}
use Rattle.place_clock.proofs.send.clock.Goals as goal

pub bounds-image-26 : goal.bounds-image-26
bounds-image-26 c = let l = image_long _ c.requires.image in omega arith

pub returns-then-number-eq-IDLE : goal.returns-then-number-eq-IDLE
returns-then-number-eq-IDLE c = at_idle c.requires c.args.high c.if-number-eq-IDLE.true

pub send-requires : goal.send-requires
send-requires c =
    record { accepted = c.requires; number_value = (refl, c.if-number-gt-WRITE_COMPANION.true) }

pub returns-then-number-gt-WRITE_COMPANION : goal.returns-then-number-gt-WRITE_COMPANION
returns-then-number-gt-WRITE_COMPANION c = c.send.ensures

pub returns : goal.returns
returns c = c.receive.ensures
