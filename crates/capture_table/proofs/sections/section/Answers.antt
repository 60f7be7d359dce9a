-- SPDX-License-Identifier: Apache-2.0
-- The entry of the kind lies inside a sound file.
use borrow.Author.Rules.{rules}
use Rattle.capture_table.proofs.Finding.{inside, part_section}
use Rattle.capture_table.proofs.Numbered.{number_low, number_high}
use Rattle.capture_table.proofs.sections.section.Goals as goal

pub slice_bounds-result-end : goal.slice_bounds-result-end
slice_bounds-result-end c =
    let k = c.args.kind in
    let h = inside c.args.file.now c.requires _ (number_low k) (number_high k) _ (rw c.number.ensures at c.entry_of-entry.ensures) in
    search rules

pub returns : goal.returns
returns c =
    let k = c.args.kind in
    part_section c.args.file.now c.requires _ (number_low k) (number_high k) _ (rw c.number.ensures at c.entry_of-entry.ensures)
