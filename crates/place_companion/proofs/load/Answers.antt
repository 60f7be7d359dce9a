-- SPDX-License-Identifier: Apache-2.0
-- A register lies at its address.
use Prim.Native.Nat.{◌≤◌}
use Rattle.fm3130_image.specs.Image.{image_of}
use Rattle.place_companion.proofs.Desks.{load_at}
use native.Mathlib.Omega.{arith}
use Rattle.place_companion.proofs.load.Goals as goal

pub bounds-image-at : goal.bounds-image-at
bounds-image-at c = let l = c.requires.0 in let h = c.requires.1 in omega arith

pub returns : goal.returns
unfolding image_of
returns c s e =
    let l : s.companion.address ≤ 14 = rw e at c.requires.1 in rw e (load_at s l)
