-- SPDX-License-Identifier: Apache-2.0
-- A byte more; and all of them.
use mathlib.Core.Path.{refl}
use native.Mathlib.Omega.{arith}
use lib.ListN.{length}
use borrow.Author.Rules.{rules}
use Rattle.bus_image.proofs.Lists.{copy_more, copy_done}
use Rattle.c_judge.proofs.Replays.{section, part_length, found, stepped}
use Rattle.c_judge.proofs.replay.fetch.Goals as goal

pub loop-byte-init : goal.loop-byte-init
loop-byte-init c = (refl, omega arith, refl)

pub loop-byte-preserved : goal.loop-byte-preserved
loop-byte-preserved c =
    let l = c.loop-byte in
    let f = c.args.file.now in
    let p = c.args.place in
    let n = length c.args.bytes.now in
    let t = c.taken_through-taken.ensures in
    let long = part_length f p n c.requires in
    let e = found f p n l.byte-index _ _ t l.invariant.1 (search rules) in (
      search rules,
      stepped f p n l.byte-index _ _ t l.invariant.1 (search rules) c.requires,
      rw e (copy_more (section f p n) l.bytes l.byte-index (search rules) (omega arith) l.invariant.2),
    )

pub returns : goal.returns
returns c =
    let l = c.loop-byte in
    let long = part_length c.args.file.now c.args.place (length c.args.bytes.now) c.requires in
    copy_done _ _ l.byte-index (omega arith) (omega arith) l.invariant.2
