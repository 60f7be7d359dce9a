-- SPDX-License-Identifier: Apache-2.0
-- Within the limits an alarm register has below Match only the bits that 01 stores.
use Prim.Native.Nat.{ℕ, ◌%◌}
use mathlib.Core.Path.{◌≡◌, ap, ◌∙◌}
use mathlib.Core.Bool.{Bool, true, ◌&&◌, ◌||◌}
use native.Mathlib.Omega.{arith}
use lib.Dec.{ltb}
use borrow.Author.Tests.{ltb-true}
use Rattle.calendar.specs.Next.{is_valid}
use Rattle.calendar.specs.declared.Calendar.{Calendar}
use Rattle.fm3130_companion.specs.declared.Registers.{Registers}
use Rattle.fm3130_companion.proofs.LimitFacts.{RegistersWithin, within_facts}
use Rattle.law_alarm.specs.Second.{bit, counts, after}
use Rattle.law_alarm.specs.Alarm.{agreed, masked, AlarmByMasks}
use Rattle.law_alarm.proofs.Alarm.{alarm_rises}

below_64 : (b : ℕ) → ltb (b % 128) 64 ≡ true → b % 128 ≡ b % 64
below_64 b h = let l = ltb-true (b % 128) 64 h in omega arith

below_32 : (b : ℕ) → ltb (b % 128) 32 ≡ true → b % 128 ≡ b % 32
below_32 b h = let l = ltb-true (b % 128) 32 h in omega arith

agreed_masked : (r : Registers) (c : Calendar) → RegistersWithin r → agreed r.alarm c ≡ masked r.alarm c
agreed_masked r c w =
    rw (
      below_64 r.alarm.hours w.hours,
      below_64 r.alarm.date w.date,
      below_32 r.alarm.month w.month,
    )

pub alarm_by_masks : AlarmByMasks
alarm_by_masks s m h =
    alarm_rises s m
    ∙ ap (λ (x : Bool). bit 0x40 s.companion.registers.control || (counts s && (is_valid s.companion.core && x)))
    (agreed_masked s.companion.registers (after s m).core (within_facts s.companion h).registers)
