-- SPDX-License-Identifier: Apache-2.0
-- A part by its kind.
use mathlib.Core.Path.{◌∙◌}
use Rattle.fm3130_image.proofs.Accepts.{image_some}
use Rattle.capture_table.specs.Table.{is_accepted}
use Rattle.capture_table.proofs.faults.accepts.Goals as goal

pub returns-in-Image : goal.returns-in-Image
unfolding is_accepted
returns-in-Image c = rw c.in-Image.is (c.is_image.ensures ∙ image_some _)

pub returns-in-Memory : goal.returns-in-Memory
unfolding is_accepted
returns-in-Memory c = rw c.in-Memory.is

pub returns-in-Events : goal.returns-in-Events
unfolding is_accepted
returns-in-Events c = rw c.in-Events.is c.all_known.ensures

pub returns-in-Answers : goal.returns-in-Answers
unfolding is_accepted
returns-in-Answers c = rw c.in-Answers.is
