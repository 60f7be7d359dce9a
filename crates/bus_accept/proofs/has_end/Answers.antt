-- SPDX-License-Identifier: Apache-2.0
-- Two bytes alone, and the bytes of each word, are those of every image.
use Prim.Native.Nat.{◌<◌}
use mathlib.Core.Path.{◌≡◌}
use mathlib.Core.List.{[], ◌∷◌}
use native.Mathlib.Omega.{arith}
use Rattle.bus_accept.specs.Tests.{word_at}
use Rattle.bus_accept.proofs.Words.{end_tested}
use Rattle.bus_accept.proofs.has_end.Goals as goal

pub returns : goal.returns
returns c =
    let a = c.args in
    let i = a.image.now in
    let x : a.one < 256 = omega arith in
    let y : a.two < 256 = omega arith in
    let z : a.three < 256 = omega arith in
    let e : c.from_le_bytes.result ≡ word_at (0 ∷ a.one ∷ a.two ∷ a.three ∷ []) 0 = omega (arith, c.from_le_bytes.ensures) in
    rw (
      c.word.ensures,
      c.word-2.ensures,
      c.word-3.ensures,
      c.word-4.ensures,
      c.word-5.ensures,
      c.word-6.ensures,
      c.word-7.ensures,
      c.word-8.ensures,
      e,
    )
    (end_tested i (λ n. omega (arith, c.type_inv.image n)) _ _ _ x y z c.requires)
