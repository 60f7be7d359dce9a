-- SPDX-License-Identifier: Apache-2.0
-- A valid core stays valid, whatever is done to the companion (02, number 6). Only a tick and a write of 00h change the
-- core: the calendar's own law keeps the next second valid, and where W falls 02h to 08h are a valid calendar, or the byte
-- was refused.
use Prim.Native.Nat.{ℕ}
use mathlib.Core.Path.{◌≡◌, refl}
use mathlib.Core.Bool.{true, false}
use lib.Dec.{leb, eqb}
use borrow.Author.Tests.{not-false}
use Rattle.bits.specs.Weight.{has}
use Rattle.bits.proofs.Cases.{by_cond}
use Rattle.calendar.specs.declared.Calendar.{Calendar}
use Rattle.calendar.specs.Field.{in_field}
use Rattle.calendar.specs.Month.{month_length}
use Rattle.calendar.specs.Next.{is_valid}
use Rattle.calendar.proofs.Tests.{true_test, test_true}
use Rattle.calendar.proofs.Next.{next_valid}
use Rattle.fm3130_companion.specs.declared.Companion.{Companion}
use Rattle.fm3130_companion.specs.Part.{Taken}
use Rattle.fm3130_registers.specs.Map.{OSCEN, W}
use Rattle.fm3130_registers.specs.Control.{w_falls}
use Rattle.fm3130_companion.specs.Write.{written_of}
use Rattle.fm3130_companion.specs.Part.{aim_of, loads_bad_date, store_of, loaded_of, tick_of, lost_of, returned_of}

abbrev pub CoreValid : Companion → Type 0
CoreValid c = is_valid c.core ≡ true

pub aim_valid : (c : Companion) (b : ℕ) → CoreValid c → CoreValid (aim_of c b).companion
unfolding aim_of
aim_valid c b v = by_cond (λ (t : Taken). CoreValid t.companion) (leb b 14) (λ h. v) (λ h. v)

written_valid : (c : Companion) (b : ℕ) → loads_bad_date c b ≡ false → CoreValid c → CoreValid (written_of c b)
written_valid c b n v =
    by_cond CoreValid (eqb c.address 0)
    (λ a. by_cond (λ (t : Calendar). is_valid t ≡ true) (w_falls c.registers.control b)
    (λ f. not-false (is_valid c.registers.time) (rw (a, f) at n)) (λ f. v))
    (λ a. by_cond CoreValid (eqb c.address 1) (λ h. v)
    (λ h. by_cond CoreValid (leb c.address 8)
    (λ h. by_cond CoreValid (has c.registers.control W) (λ h. v) (λ h. v)) (λ h. v)))

pub store_valid : (c : Companion) (b : ℕ) → CoreValid c → CoreValid (store_of c b).companion
unfolding store_of
store_valid c b v =
    by_cond (λ (t : Taken). CoreValid t.companion) (loads_bad_date c b) (λ e. v) (λ e. written_valid c b e v)

pub loaded_valid : (c : Companion) (b : ℕ) → CoreValid c → CoreValid (loaded_of c b)
unfolding loaded_of
loaded_valid c b v = by_cond CoreValid (eqb c.address 0) (λ h. v) (λ h. v)

pub tick_valid : (c : Companion) → CoreValid c → CoreValid (tick_of c)
unfolding tick_of
tick_valid c v =
    by_cond CoreValid (has c.registers.trim OSCEN) (λ h. v)
    (λ h. test_true _ (next_valid c.core (true_test _ v)))

pub lost_valid : CoreValid lost_of
unfolding lost_of is_valid in_field month_length
lost_valid = refl

pub returned_valid : (c : Companion) → CoreValid c → CoreValid (returned_of c)
unfolding returned_of
returned_valid c v = v
