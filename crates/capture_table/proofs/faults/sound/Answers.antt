-- SPDX-License-Identifier: Apache-2.0
-- The tests one by one.
use Prim.Native.Nat.{◌+◌, ◌*◌}
use mathlib.Core.Path.{sym, ◌∙◌}
use lib.ListN.{length}
use borrow.Author.Tests.{lt-leb, le-leb}
use Rattle.capture_table.specs.Table.{is_sound}
use Rattle.capture_table.proofs.faults.sound.Goals as goal

pub returns-then-file-n : goal.returns-then-file-n
unfolding is_sound
returns-then-file-n c = let a = c.args in rw (lt-leb (a.n * 12 + 12) (length a.file.now) c.if-file-n.true)

pub returns-then-stands : goal.returns-then-stands
unfolding is_sound
returns-then-stands c =
    let a = c.args in
    rw (
      le-leb (a.n * 12 + 12) (length a.file.now) c.if-file-n.false,
      sym (rw c.entry_at-entry.ensures at c.stands.ensures) ∙ c.if-stands.true,
      c.clash_below.ensures,
      c.entry_at-entry.ensures,
    )

pub returns-else-stands : goal.returns-else-stands
unfolding is_sound
returns-else-stands c =
    let a = c.args in
    rw (
      le-leb (a.n * 12 + 12) (length a.file.now) c.if-file-n.false,
      sym (rw c.entry_at-entry.ensures at c.stands.ensures) ∙ c.if-stands.false,
    )
    c.if-stands.false
