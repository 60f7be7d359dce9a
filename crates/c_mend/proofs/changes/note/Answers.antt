-- SPDX-License-Identifier: Apache-2.0
-- `c_mend::changes::note` meets its contract: nothing is written where the byte is the same, else three bytes.
use borrow.Author.Rules.{rules}
use Rattle.c_mend.proofs.Listing.{note_same, note_other, note_room}
use Rattle.c_mend.proofs.changes.note.Goals as goal

pub returns-then-old-new : goal.returns-then-old-new
returns-then-old-new c =
    let a = c.args in note_same a.changes.now a.at a.number a.old a.new c.if-old-new.true

pub slice_bounds-copy-end-2 : goal.slice_bounds-copy-end-2
slice_bounds-copy-end-2 c =
    let a = c.args in
    let w = note_room a.changes.now a.at a.number a.old a.new c.if-old-new.false in
    search rules

pub returns : goal.returns
returns c =
    let a = c.args in
    note_other a.changes.now a.at a.number a.old a.new c.if-old-new.false c.requires _ c.copy.ensures
