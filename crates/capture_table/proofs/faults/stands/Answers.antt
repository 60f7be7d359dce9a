-- SPDX-License-Identifier: Apache-2.0
-- The tests one by one.
use Prim.Native.Nat.{◌+◌, ◌-◌}
use mathlib.Core.Path.{◌≡◌, sym, ◌∙◌}
use native.Mathlib.Omega.{arith}
use lib.ListN.{length}
use borrow.Author.Tests.{lt-leb, le-leb}
use Rattle.capture_table.specs.Table.{stands_in}
use Rattle.capture_table.proofs.Numbered.{known_kind, unknown_kind}
use Rattle.capture_table.proofs.faults.stands.Goals as goal

pub returns-in_default : goal.returns-in_default
unfolding stands_in
returns-in_default c = rw (unknown_kind c.args.entry.kind c.in_default.ensures)

pub returns-then-file-to : goal.returns-then-file-to
unfolding stands_in
returns-then-file-to c =
    let e = c.args.entry in
    rw (known_kind e.kind c.in-Ok.kind c.in-Ok.ensures, lt-leb (e.from + e.size) (length c.args.file.now) c.if-file-to.true)

pub returns-then-overlaps : goal.returns-then-overlaps
unfolding stands_in
returns-then-overlaps c =
    let e = c.args.entry in
    rw (
      known_kind e.kind c.in-Ok.kind c.in-Ok.ensures,
      le-leb (e.from + e.size) (length c.args.file.now) c.if-file-to.false,
      sym (rw c.body.ensures at c.overlaps.ensures) ∙ c.if-overlaps.true,
    )

pub returns : goal.returns
unfolding stands_in
returns c =
    let e = c.args.entry in
    let n : e.from + e.size - e.from ≡ e.size = omega arith in
    let r = c.accepts.ensures in
    rw (
      known_kind e.kind c.in-Ok.kind c.in-Ok.ensures,
      le-leb (e.from + e.size) (length c.args.file.now) c.if-file-to.false,
      sym (rw c.body.ensures at c.overlaps.ensures) ∙ c.if-overlaps.false,
      c.in-Ok.ensures,
    )
    (rw n at r)
