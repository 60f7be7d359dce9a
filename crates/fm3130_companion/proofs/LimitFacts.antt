-- SPDX-License-Identifier: Apache-2.0
-- The limits, as tests and as facts: a joined test passes exactly if each part does.
use Prim.Native.Nat.{◌≤◌}
use mathlib.Core.Path.{◌≡◌}
use mathlib.Core.Bool.{Bool, true, ◌&&◌, and-eq-true_iff}
use lib.Dec.{leb}
use borrow.Author.Tests.{leb-true, le-leb}
use Rattle.calendar.specs.Width as width
use Rattle.fm3130_companion.specs.declared.Registers.{Registers}
use Rattle.fm3130_companion.specs.declared.Companion.{Companion}
use Rattle.fm3130_registers.specs.Map.{LAST}
use Rattle.fm3130_companion.specs.Limits.{fixed_clear, alarm_within, registers_within, is_within}

-- two tests, and three
pub both_true : (a b : Bool) → a ≡ true → b ≡ true → (a && b) ≡ true
both_true a b p q = (and-eq-true_iff a b).1 (p, q)

pub each_true : (a b c : Bool) → (a && b && c) ≡ true → (a ≡ true) × ((b ≡ true) × (c ≡ true))
each_true a b c h =
    let f = (and-eq-true_iff (a && b) c).0 h in
    let g = (and-eq-true_iff a b).0 f.0 in
    (g.0, (g.1, f.1))

pub record RegistersWithin (r : Registers) : Type 0 where
  pub trim : fixed_clear 64 r.trim ≡ true
  pub time : width.is_within r.time ≡ true
  pub hours : fixed_clear 64 r.alarm.hours ≡ true
  pub date : fixed_clear 64 r.alarm.date ≡ true
  pub month : fixed_clear 32 r.alarm.month ≡ true

pub registers_facts : (r : Registers) → registers_within r ≡ true → RegistersWithin r
unfolding registers_within alarm_within
registers_facts r h =
    let f = each_true (fixed_clear 64 r.trim) (width.is_within r.time) (alarm_within r.alarm) h in
    let a = r.alarm in
    let g = each_true (fixed_clear 64 a.hours) (fixed_clear 64 a.date) (fixed_clear 32 a.month) f.1.1 in
    record { trim = f.0; time = f.1.0; hours = g.0; date = g.1.0; month = g.1.1 }

pub registers_test : (r : Registers) → RegistersWithin r → registers_within r ≡ true
unfolding registers_within alarm_within
registers_test r w =
    both_true _ _ (both_true _ _ w.trim w.time) (both_true _ _ (both_true _ _ w.hours w.date) w.month)

pub record Within (c : Companion) : Type 0 where
  pub address : c.address ≤ LAST
  pub registers : RegistersWithin c.registers
  pub core : width.is_within c.core ≡ true

pub within_facts : (c : Companion) → is_within c ≡ true → Within c
unfolding is_within
within_facts c h =
    let f = each_true (leb c.address LAST) (registers_within c.registers) (width.is_within c.core) h in
    record { address = leb-true _ _ f.0; registers = registers_facts c.registers f.1.0; core = f.1.1 }

pub within_test : (c : Companion) → Within c → is_within c ≡ true
unfolding is_within
within_test c w =
    both_true _ _ (both_true _ _ (le-leb _ _ w.address) (registers_test c.registers w.registers)) w.core

-- what the methods that use the address require
pub within_address : (c : Companion) → is_within c ≡ true → c.address ≤ LAST
within_address c h = (within_facts c h).address
