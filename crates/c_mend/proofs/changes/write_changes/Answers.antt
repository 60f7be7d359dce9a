-- SPDX-License-Identifier: Apache-2.0
-- `c_mend::changes::write_changes` meets its contract. The loop's invariant: what was written and what is still to come are
-- the whole list. The measure is what is left.
use Prim.Native.Nat.{◌+◌}
use mathlib.Core.Path.{refl}
use native.Mathlib.Omega.{arith}
use lib.ListN.{drop, get_or}
use borrow.Author.Rules.{rules}
use Rattle.c_mend.specs.Changes.{change_of, changes_from}
use Rattle.c_mend.proofs.Listing.{changes_more, changes_end, going_room, going_more, going_end}
use Rattle.c_mend.proofs.changes.write_changes.Goals as goal

pub loop-i-init : goal.loop-i-init
loop-i-init c = (search rules, record { front = refl; kept = refl; room = omega arith; same = refl })

pub note-at-requires : goal.note-at-requires
note-at-requires c =
    let l = c.loop-i in
    let s = c in
    let xs = s.args.before.now in
    let ys = s.args.after.now in
    going_room l.invariant.1 (change_of (l.i + 2) (get_or xs l.i 0) (get_or ys l.i 0))
    (changes_from (l.i + 1 + 2) (drop (l.i + 1) xs) (drop (l.i + 1) ys))
    (changes_more xs ys l.i (omega arith) (omega arith)) s.requires

pub loop-i-preserved : goal.loop-i-preserved
loop-i-preserved c =
    let d = c.note-at.ensures in
    let l = c.loop-i in
    let s = c in
    let xs = s.args.before.now in
    let ys = s.args.after.now in (
      search rules,
      going_more l.invariant.1 (change_of (l.i + 2) (get_or xs l.i 0) (get_or ys l.i 0))
          (changes_from (l.i + 1 + 2) (drop (l.i + 1) xs) (drop (l.i + 1) ys))
          (changes_more xs ys l.i (omega arith) (omega arith)) d,
    )

pub returns : goal.returns
returns c =
    let l = c.loop-i in
    let s = c in
    going_end l.invariant.1 (changes_end s.args.before.now s.args.after.now l.i (omega arith))
