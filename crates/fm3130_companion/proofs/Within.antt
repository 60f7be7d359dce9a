-- SPDX-License-Identifier: Apache-2.0
-- Whatever is done to a companion keeps it within its limits. A store puts what the register stores (Fits); a write
-- of 00h, and a tick, only move a calendar within limits to where another stood, and the calendar's own law keeps the
-- next second within them; an address is a register's or the remainder by 15; the loss of both supplies is a
-- computation.
use Prim.Native.Nat.{ℕ, ◌+◌, ◌*◌, ◌/◌, ◌%◌, ◌≤◌, ◌<◌}
use mathlib.Core.Path.{◌≡◌, refl}
use mathlib.Core.Bool.{true, false, ◌&&◌, ◌||◌, not, cond}
use native.Mathlib.Nat.{mod-lt}
use native.Mathlib.Omega.{arith}
use lib.Dec.{leb, eqb, lit<, lit≤}
use borrow.Author.Tests.{leb-true, eqb-false}
use Rattle.bits.specs.Weight.{has}
use Rattle.bits.proofs.Cases.{by_cond}
use Rattle.calendar.specs.declared.Calendar.{Calendar}
use Rattle.calendar.specs.Width as width
use Rattle.calendar.specs.Next.{next_of}
use Rattle.calendar.proofs.Width.{next_within}
use Rattle.fm3130_companion.specs.declared.Registers.{Registers}
use Rattle.fm3130_companion.specs.declared.Companion.{Companion}
use Rattle.fm3130_companion.specs.Part.{Taken}
use Rattle.fm3130_registers.specs.Map.{LAST, OSCEN, CAL, W, R}
use Rattle.fm3130_registers.specs.Control.{flags_after, core_after, frozen, followed}
use Rattle.fm3130_companion.specs.Change.{with_time, with_registers, with_address}
use Rattle.fm3130_registers.specs.Stored.{trim_after}
use Rattle.fm3130_companion.specs.Write.{core_written, control_written, trim_written, byte_stored, written_of}
use Rattle.fm3130_companion.specs.Tick.{counted_of}
use Rattle.fm3130_companion.specs.Limits.{fixed_clear, alarm_within, registers_within}
use Rattle.fm3130_companion.specs.Registers.{put_at}
use Rattle.fm3130_registers.specs.Control.{por_set}
use Rattle.fm3130_registers.specs.Map.{next_address}
use Rattle.fm3130_companion.specs.Part.{stepped_of, control_read, aim_of, loads_bad_date, store_of, loaded_of}
use Rattle.fm3130_companion.specs.Part.{tick_of, backed_of, lost_of, returned_of, is_within}
use Rattle.fm3130_companion.proofs.LimitFacts.{RegistersWithin, Within, within_facts, within_test}
use Rattle.fm3130_companion.proofs.Fits.{top_fits, put_within}

abbrev TimeWithin : Calendar → Type 0
TimeWithin t = width.is_within t ≡ true

-- registers with another 00h and another calendar that is within its limits
time_within : (r : Registers) (control : ℕ) (t : Calendar)
    → RegistersWithin r → TimeWithin t → RegistersWithin (with_time r control t)
time_within r control t w h = record { trim = w.trim; time = h; hours = w.hours; date = w.date; month = w.month }

-- a calendar that takes another's place, or does not
module _ (core time : Calendar) (p : TimeWithin core) (q : TimeWithin time) where
  core_after_within : (old b : ℕ) → TimeWithin (core_after old b core time)
  core_after_within old b = by_cond TimeWithin (has old W && not (has b W)) (λ h. q) (λ h. p)

  frozen_within : (old b : ℕ) → TimeWithin (frozen old b core time)
  frozen_within old b = by_cond TimeWithin (has b R && not (has old R)) (λ h. p) (λ h. q)

  followed_within : (control : ℕ) → TimeWithin (followed control core time)
  followed_within control = by_cond TimeWithin (has control W || has control R) (λ h. q) (λ h. p)

control_written_within : (c : Companion) (b : ℕ) → Within c → Within (control_written c b)
control_written_within c b w =
    let old = c.registers.control in
    let time = c.registers.time in
    let core = core_written c b in
    let p = core_after_within c.core time w.core w.registers.time old b in
    let q = frozen_within core time p w.registers.time old b in
    let t = followed_within core (frozen old b core time) p q b in
    record { address = w.address; registers = time_within c.registers _ _ w.registers t; core = p }

trim_within : (control old b : ℕ) → fixed_clear 64 (trim_after control old b) ≡ true
trim_within control old b =
    let at : (n : ℕ) → fixed_clear 64 (b / 128 * 128 + n % 64) ≡ true =
    λ n. top_fits 64 (b / 128) (n % 64) (mod-lt n (lit< tt)) (lit≤ tt) in
    by_cond (λ (n : ℕ). fixed_clear 64 (b / 128 * 128 + n) ≡ true) (has control CAL) (λ h. at b) (λ h. at old)

trim_written_within : (c : Companion) (b : ℕ) → Within c → Within (trim_written c b)
trim_written_within c b w =
    let r = w.registers in
    record {
      address = w.address;
      registers =
          record {
            trim = trim_within c.registers.control c.registers.trim b;
            time = r.time;
            hours = r.hours;
            date = r.date;
            month = r.month;
          };
      core = w.core;
    }

byte_stored_within : (c : Companion) (b : ℕ) → 1 < c.address → Within c → Within (byte_stored c b)
byte_stored_within c b h w =
    let l = w.address in
    let r = put_within c.registers c.address b h (omega arith) w.registers in
    record { address = l; registers = r; core = w.core }

above_one : (a : ℕ) → eqb a 0 ≡ false → eqb a 1 ≡ false → 1 < a
above_one a p q = let z = eqb-false a 0 p in let o = eqb-false a 1 q in omega arith

written_within : (c : Companion) (b : ℕ) → Within c → Within (written_of c b)
written_within c b w =
    by_cond Within (eqb c.address 0) (λ h. control_written_within c b w)
    (λ p. by_cond Within (eqb c.address 1) (λ h. trim_written_within c b w)
    (λ q.
    let s = byte_stored_within c b (above_one c.address p q) w in
    by_cond Within (leb c.address 8)
    (λ h. by_cond Within (has c.registers.control W) (λ h. s) (λ h. w)) (λ h. s)))

-- 00h replaced, which has no fixed bit
control_within : (c : Companion) (control : ℕ) → Within c → Within (with_registers c (put_at c.registers 0 control))
control_within c control w =
    record {
      address = w.address;
      registers = time_within c.registers control c.registers.time w.registers w.registers.time;
      core = w.core;
    }

-- the address replaced by a register's, or stepped on
address_within : (c : Companion) (a : ℕ) → a ≤ LAST → Within c → is_within (with_address c a) ≡ true
address_within c a h w =
    within_test (with_address c a) (record { address = h; registers = w.registers; core = w.core })

stepped_within : (c : Companion) → Within c → is_within (stepped_of c) ≡ true
stepped_within c w = address_within c (next_address c.address) (omega arith) w

pub aim_within : (c : Companion) → is_within c ≡ true → (b : ℕ) → is_within (aim_of c b).companion ≡ true
unfolding aim_of
aim_within c h b =
    by_cond (λ (t : Taken). is_within t.companion ≡ true) (leb b LAST)
    (λ l. address_within c b (leb-true b LAST l) (within_facts c h)) (λ l. h)

pub store_within : (c : Companion) → is_within c ≡ true → (b : ℕ) → is_within (store_of c b).companion ≡ true
unfolding store_of
store_within c h b =
    let w = within_facts c h in
    by_cond (λ (t : Taken). is_within t.companion ≡ true) (loads_bad_date c b) (λ e. stepped_within c w)
    (λ e. stepped_within (written_of c b) (written_within c b w))

pub loaded_within : (c : Companion) → is_within c ≡ true → (b : ℕ) → is_within (loaded_of c b) ≡ true
unfolding loaded_of
loaded_within c h b =
    let w = within_facts c h in
    stepped_within (cond (eqb c.address 0) (control_read c b) c)
    (by_cond Within (eqb c.address 0) (λ e. control_within c (flags_after c.registers.control b) w) (λ e. w))

pub tick_within : (c : Companion) → is_within c ≡ true → is_within (tick_of c) ≡ true
unfolding tick_of
tick_within c h =
    let w = within_facts c h in
    let core = next_within c.core w.core in
    let time = followed_within (next_of c.core).calendar _ core w.registers.time c.registers.control in
    let registers = time_within c.registers _ _ w.registers time in
    by_cond (λ (d : Companion). is_within d ≡ true) (has c.registers.trim OSCEN) (λ e. h)
    (λ e. within_test (counted_of c) (record { address = w.address; registers = registers; core = core }))

pub backed_within : (c : Companion) → is_within c ≡ true → is_within (backed_of c) ≡ true
backed_within c h = address_within c 0 (omega arith) (within_facts c h)

pub lost_within : is_within lost_of ≡ true
unfolding is_within lost_of registers_within alarm_within width.is_within
lost_within = refl

pub returned_within : (c : Companion) → is_within c ≡ true → is_within (returned_of c) ≡ true
unfolding returned_of
returned_within c h = within_test _ (control_within c (por_set c.registers.control) (within_facts c h))
