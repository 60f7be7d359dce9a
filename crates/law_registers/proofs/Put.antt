-- SPDX-License-Identifier: Apache-2.0
-- 02h to 08h byte by byte: as the calendar that they are, and one of them put.
use Prim.Native.Nat.{ℕ, ◌≤◌}
use mathlib.Core.Path.{◌≡◌, refl, ap}
use native.Mathlib.Omega.{arith}
use lib.ListN.{get_or}
use Rattle.bits.proofs.Cases.{Below, none, ◌then◌, below}
use Rattle.calendar.specs.declared.Calendar.{Calendar}
use Rattle.fm3130_companion.specs.Registers.{register_bytes, put_at}
use Rattle.fm3130_companion.specs.declared.Registers.{Registers}

-- 02h to 08h as bytes, by the calendar that they are
pub time_bytes_lem : (r q : Registers) → r.time ≡ q.time → (k : ℕ) → 2 ≤ k → k ≤ 8
    → get_or (register_bytes r) k 0 ≡ get_or (register_bytes q) k 0
time_bytes_lem r q e k low high =
    below (λ k. 2 ≤ k → get_or (register_bytes r) k 0 ≡ get_or (register_bytes q) k 0) each k (omega arith) low
  where
    each : Below (λ k. 2 ≤ k → get_or (register_bytes r) k 0 ≡ get_or (register_bytes q) k 0) 9
    each =
        none then (λ l. absurd (omega arith)) then (λ l. absurd (omega arith))
        then (λ l. ap (λ (t : Calendar). t.seconds) e) then (λ l. ap (λ (t : Calendar). t.minutes) e)
        then (λ l. ap (λ (t : Calendar). t.hours) e) then (λ l. ap (λ (t : Calendar). t.day) e)
        then (λ l. ap (λ (t : Calendar). t.date) e) then (λ l. ap (λ (t : Calendar). t.month) e)
        then (λ l. ap (λ (t : Calendar). t.year) e)

-- a byte put at one of 02h to 08h leaves 00h, 01h and the alarm
pub record Beside (r q : Registers) : Type 0 where
  pub control : q.control ≡ r.control
  pub trim : q.trim ≡ r.trim
  pub alarm : q.alarm ≡ r.alarm

pub beside : (r : Registers) (v a : ℕ) → 2 ≤ a → a ≤ 8 → Beside r (put_at r a v)
beside r v a low high = below (λ a. 2 ≤ a → Beside r (put_at r a v)) each a (omega arith) low
  where
    each : Below (λ a. 2 ≤ a → Beside r (put_at r a v)) 9
    each =
        none then (λ l. absurd (omega arith)) then (λ l. absurd (omega arith))
        then (λ l. record { control = refl; trim = refl; alarm = refl }) then (λ l. record { control = refl; trim = refl; alarm = refl })
        then (λ l. record { control = refl; trim = refl; alarm = refl }) then (λ l. record { control = refl; trim = refl; alarm = refl })
        then (λ l. record { control = refl; trim = refl; alarm = refl }) then (λ l. record { control = refl; trim = refl; alarm = refl })
        then (λ l. record { control = refl; trim = refl; alarm = refl })
