-- SPDX-License-Identifier: Apache-2.0
-- The lock holds (02, number 5). A write at 11h to 18h is not stored while SNL is 1; one below changes no serial byte,
-- and at 0Bh SNL stays; nothing else that is done to the companion touches 0Bh or 11h to 18h.
use Rattle.std.proofs.Common.{◌≡◌, ℕ, ◌+◌, ◌-◌, ◌/◌, ◌%◌, ◌<◌, Bool, true, false, cond, ◌&&◌, eqb, leb, set, refl, arith, eq-eqb, leb-false}
use Rattle.bits.specs.Weight.{has}
use Rattle.bits.proofs.Cases.{by_cond, Below, none, ◌then◌, below}
use Rattle.fm31_counters.specs.declared.Input.{Input}
use Rattle.fm31_counters.specs.declared.Registers.{Registers}
use Rattle.fm31_counters.specs.declared.Counters.{Counters}
use Rattle.fm31_counters.specs.Part.{Taken}
use Rattle.fm31_counters.specs.Map.{SERIAL, TOP, SNL}
use Rattle.fm31_counters.specs.Registers.{register_bytes, registers_of, put_at}
use Rattle.fm31_counters.specs.Write.{control_after, kept_at, is_locked, registers_after, written_of}
use Rattle.fm31_counters.specs.Limits.{is_register}
use Rattle.fm31_counters.specs.Part.{stepped_of, aim_of, store_of, loaded_of, edge_of, backed_of, lost_of, returned_of}
use Rattle.fm31_counters.specs.Lock.{SerialKept, KeepsSerial}

-- registers that keep a locked serial number
record Kept (r q : Registers) : Type 0 where
  locked : is_locked q ≡ true
  serial : q.serial ≡ r.serial

-- SNL, once 1, stays in 0Bh
snl_stays : (old b : ℕ) → has old SNL ≡ true → has (control_after old b) SNL ≡ true
snl_stays old b h = rw h (eq-eqb ((128 + b % 32) / 128 % 2) 1 (omega arith))

module _ (r : Registers) (b : ℕ) (h : is_locked r ≡ true) where
  -- a write below 11h, by its place; at 0Bh it is what 0Bh keeps
  abbrev PutKeeps : ℕ → Type 0
  PutKeeps k =
      (n : ℕ) → (k ≡ 2 → n ≡ control_after r.control b) → Kept r (registers_of (set (register_bytes r) k n))

  at : (k : ℕ) → k < 8 → PutKeeps k
  at k l = below PutKeeps each k l
    where
      each : Below PutKeeps 8
      each =
          none then (λ n e. record { locked = h; serial = refl }) then (λ n e. record { locked = h; serial = refl })
          then (λ n e. record { locked = rw (e refl) (snl_stays r.control b h); serial = refl })
          then (λ n e. record { locked = h; serial = refl })
          then (λ n e. record { locked = h; serial = refl }) then (λ n e. record { locked = h; serial = refl })
          then (λ n e. record { locked = h; serial = refl }) then (λ n e. record { locked = h; serial = refl })

  control_kept : (a : ℕ) → a - 9 ≡ 2 → kept_at r a b ≡ control_after r.control b
  control_kept a e = rw e

  below_serial : (a : ℕ) → a < 17 → a - 9 < 8
  below_serial a l = omega arith

  after_kept : (a : ℕ) (t : Bool) → leb SERIAL a ≡ t → Kept r (cond (true && t) r (put_at r a (kept_at r a b)))
  after_kept a true e = record { locked = h; serial = refl }
  after_kept a false e = at (a - 9) (below_serial a (leb-false SERIAL a e)) (kept_at r a b) (control_kept a)

  -- under the lock the test is that of the address alone
  by_lock : (a : ℕ) (t : Bool) → t ≡ true
      → cond (t && leb SERIAL a) r (put_at r a (kept_at r a b))
      ≡ cond (true && leb SERIAL a) r (put_at r a (kept_at r a b))
  by_lock a t e = rw e

  registers_kept : (a : ℕ) → Kept r (registers_after r a b)
  registers_kept a = rw (by_lock a (is_locked r) h) (after_kept a (leb SERIAL a) refl)

pub store_keeps : (b : ℕ) → KeepsSerial (λ c. (store_of c b).companion)
unfolding store_of written_of
store_keeps b c h =
    let k = registers_kept c.registers b h c.address in record { locked = k.locked; serial = k.serial }

pub aim_keeps : (b : ℕ) → KeepsSerial (λ c. (aim_of c b).companion)
unfolding aim_of
aim_keeps b c h =
    by_cond (λ (t : Taken). SerialKept c t.companion) (is_register b)
    (λ e. record { locked = h; serial = refl }) (λ e. record { locked = h; serial = refl })

pub loaded_keeps : (b : ℕ) → KeepsSerial (λ c. loaded_of c b)
unfolding loaded_of
loaded_keeps b c h =
    by_cond (λ (d : Counters). SerialKept c (stepped_of d)) (eqb c.address TOP)
    (λ e. record { locked = h; serial = refl }) (λ e. record { locked = h; serial = refl })

pub edge_keeps : (i : Input) → KeepsSerial (λ c. edge_of c i)
unfolding edge_of
edge_keeps i c h = record { locked = h; serial = refl }

pub backed_keeps : KeepsSerial backed_of
backed_keeps c h = record { locked = h; serial = refl }

pub lost_keeps : KeepsSerial lost_of
unfolding lost_of
lost_keeps c h = record { locked = h; serial = refl }

pub returned_keeps : KeepsSerial returned_of
unfolding returned_of
returned_keeps c h = record { locked = h; serial = refl }
