-- SPDX-License-Identifier: Apache-2.0
-- The first entry of the kind; in a sound file the whole table is there.
use mathlib.Core.Path.{sym, ap, ◌∙◌}
use native.Mathlib.Omega.{arith}
use Rattle.capture_table.specs.declared.Entry.{Entry}
use Rattle.capture_table.proofs.Finding.{table_fits, index_at, index_last, entry_found}
use Rattle.capture_table.proofs.sections.entry_of.Goals as goal

pub entry_at-entry-requires : goal.entry_at-entry-requires
entry_at-entry-requires c = omega (arith, table_fits c.args.file.now c.requires)

pub returns-then-entry-kind : goal.returns-then-entry-kind
returns-then-entry-kind c =
    let f = c.args.file.now in
    let k = c.args.kind in
    entry_found f k c.loop-n.n _
    (index_at f k c.loop-n.n (omega arith) c.loop-n.invariant
    (ap (λ (x : Entry). x.kind) (sym c.entry_at-entry.ensures) ∙ c.if-entry-kind.true))
    c.entry_at-entry.ensures

pub entry_at-requires : goal.entry_at-requires
entry_at-requires c = table_fits c.args.file.now c.requires

pub returns : goal.returns
returns c =
    let f = c.args.file.now in
    let k = c.args.kind in
    entry_found f k 3 _ (index_last f k (λ j l. c.loop-n.invariant j (omega arith))) c.entry_at.ensures
