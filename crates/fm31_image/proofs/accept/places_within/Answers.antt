-- SPDX-License-Identifier: Apache-2.0
-- The registers by their places in one word; the addresses.
use native.Mathlib.Omega.{arith}
use Rattle.fm31_image.proofs.Accepts.{places_tested}
use Rattle.fm31_image.proofs.accept.places_within.Goals as goal

pub returns : goal.returns
returns c =
    let w = c in
    let k = w in
    rw (w.word-registers.ensures, c.pair.ensures)
    (places_tested _ k.args.image.now (λ n. omega (arith, k.shared_slice_known-1.given n)))
