-- SPDX-License-Identifier: Apache-2.0
-- Seven reads and seven stores.
use mathlib.Core.Path.{refl}
use Rattle.fm3130_image.specs.Image.{image_of}
use native.Mathlib.Omega.{arith}
use lib.ListN.{length-set}
use Rattle.place_companion.proofs.show_core.Goals as goal

pub bounds-image-16 : goal.bounds-image-16
bounds-image-16 c = let l = c.requires in simp length-set (omega arith)

pub bounds-image-3 : goal.bounds-image-3
bounds-image-3 c = let l = c.requires in simp length-set (omega arith)

pub bounds-image-17 : goal.bounds-image-17
bounds-image-17 c = let l = c.requires in simp length-set (omega arith)

pub bounds-image-4 : goal.bounds-image-4
bounds-image-4 c = let l = c.requires in simp length-set (omega arith)

pub bounds-image-18 : goal.bounds-image-18
bounds-image-18 c = let l = c.requires in simp length-set (omega arith)

pub bounds-image-5 : goal.bounds-image-5
bounds-image-5 c = let l = c.requires in simp length-set (omega arith)

pub bounds-image-19 : goal.bounds-image-19
bounds-image-19 c = let l = c.requires in simp length-set (omega arith)

pub bounds-image-6 : goal.bounds-image-6
bounds-image-6 c = let l = c.requires in simp length-set (omega arith)

pub bounds-image-20 : goal.bounds-image-20
bounds-image-20 c = let l = c.requires in simp length-set (omega arith)

pub bounds-image-7 : goal.bounds-image-7
bounds-image-7 c = let l = c.requires in simp length-set (omega arith)

pub bounds-image-21 : goal.bounds-image-21
bounds-image-21 c = let l = c.requires in simp length-set (omega arith)

pub bounds-image-8 : goal.bounds-image-8
bounds-image-8 c = let l = c.requires in simp length-set (omega arith)

pub shape_of-image : goal.shape_of-image
shape_of-image c = simp length-set

pub returns : goal.returns
unfolding image_of
returns c s e = rw e (rw (rw e at c.image-1.given.1) refl)
