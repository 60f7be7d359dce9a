-- SPDX-License-Identifier: Apache-2.0
-- The loop's invariant: the bytes passed are copied.
use mathlib.Core.Path.{◌≡◌}
use lib.ListN.{take}
use Rattle.bus_image.proofs.bytes.copy.Given as goal

abbrev pub invariant-loop-i : goal.invariant-loop-i
invariant-loop-i l = take l.i l.to ≡ take l.i l.from
