-- SPDX-License-Identifier: Apache-2.0
-- The stores of each way.
use native.Mathlib.Omega.{arith}
use lib.ListN.{length-set}
use Rattle.place_clock.proofs.send.close.Goals as goal

pub bounds-image-27 : goal.bounds-image-27
bounds-image-27 c = let l = c.requires in simp length-set (omega arith)

pub bounds-image-28 : goal.bounds-image-28
bounds-image-28 c = let l = c.requires in simp length-set (omega arith)

pub shape_of-image-then-high : goal.shape_of-image-then-high
shape_of-image-then-high c = simp length-set

pub returns-then-high : goal.returns-then-high
returns-then-high c = rw c.if-high.true

pub bounds-image-28-2 : goal.bounds-image-28-2
bounds-image-28-2 c = let l = c.requires in simp length-set (omega arith)

pub shape_of-image : goal.shape_of-image
shape_of-image c = simp length-set

pub returns : goal.returns
returns c = rw c.if-high.false
