-- SPDX-License-Identifier: Apache-2.0
-- Four stores, each one place after the one before.
use native.Mathlib.Numerals.{towards_suc}
use native.Mathlib.Omega.{arith}
use lib.ListN.{length-set}
use Rattle.fm31_image.proofs.image.write_counts.Goals as goal

pub bounds-image-at-2 : goal.bounds-image-at-2
bounds-image-at-2 c = let l = c.requires.0 in let a = c.requires.1 in simp length-set (omega arith)

pub bounds-image-at-3 : goal.bounds-image-at-3
bounds-image-at-3 c = let l = c.requires.0 in let a = c.requires.1 in simp length-set (omega arith)

pub bounds-image-at-4 : goal.bounds-image-at-4
bounds-image-at-4 c = let l = c.requires.0 in let a = c.requires.1 in simp length-set (omega arith)

pub shape_of-image : goal.shape_of-image
shape_of-image c = simp length-set

pub returns : goal.returns
returns c = simp towards_suc
