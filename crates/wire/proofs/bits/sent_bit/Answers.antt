-- SPDX-License-Identifier: Apache-2.0
-- `sent_bit` shifts the bit of its clock to the low end.
use mathlib.Core.Path.{refl}
use Rattle.wire.specs.Bits.{sent_bit}
use Rattle.wire.proofs.bits.sent_bit.Goals as goal

pub returns : goal.returns
unfolding sent_bit
returns c = refl
