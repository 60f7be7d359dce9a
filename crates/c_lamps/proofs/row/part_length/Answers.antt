-- SPDX-License-Identifier: Apache-2.0
-- More than one event is a part only where they are Clocks of one byte before its ninth.
use Prim.Native.Nat.{◌<◌}
use mathlib.Core.Path.{◌≡◌}
use native.Mathlib.Omega.{arith}
use Rattle.fm3130_image.proofs.Accepts.{image_long}
use Rattle.c_lamps.proofs.Rows.{clocks_lain}
use Rattle.c_lamps.proofs.row.part_length.Goals as goal

pub bounds-image-27 : goal.bounds-image-27
bounds-image-27 c = omega (arith, image_long _ c.requires.0)

pub returns : goal.returns
returns c =
    let e = c.leading_clocks.ensures in
    let k = clocks_lain _ c.requires.0 in
    let same : 1 < c.max.result → c.max.result ≡ c.leading_clocks.result = λ h. omega (arith, c.max.ensures) in (
      omega (arith, c.max.ensures),
      omega (arith, c.max.ensures, c.requires.1, e.0),
      λ h. (c.if-refused.false, rw (same h) e.2, omega (arith, k, e.1, same h, c.if-clocks-gt6.false)),
    )
