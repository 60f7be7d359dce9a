-- SPDX-License-Identifier: Apache-2.0
-- Each event's arm is the definition at that event; what is left neither frees nor takes.
use mathlib.Core.Path.{sym}
use native.Mathlib.Omega.{arith}
use Rattle.fm3130.specs.Event.{happening}
use Rattle.masters_hold.proofs.Lists.{freed_late, freed_other}
use Rattle.masters_hold.proofs.bus_byte.freed_by.Goals as goal

pub returns-in-0 : goal.returns-in-0
unfolding happening
returns-in-0 c = simp c.in-0.is

pub returns-in-1 : goal.returns-in-1
unfolding happening
returns-in-1 c = simp c.in-1.is

pub returns-in-1-2 : goal.returns-in-1-2
returns-in-1-2 c = sym (freed_late c.args.freed c.args.event (omega arith) (omega arith))

pub returns-in_default : goal.returns-in_default
returns-in_default c = let a = c.args in sym (freed_other a.freed a.event (λ e. omega arith) (λ e. omega arith) (λ e. omega arith) (λ e. omega arith))

pub returns-in_default-2 : goal.returns-in_default-2
returns-in_default-2 c = let a = c.args in sym (freed_other a.freed a.event (λ e. omega arith) (λ e. omega arith) (λ e. omega arith) (λ e. omega arith))
