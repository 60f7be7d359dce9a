-- SPDX-License-Identifier: Apache-2.0
-- The opening of a read of 02h with ticks before each of its events. No clock of it touches a register, so while R or W is 1 what
-- stands in 02h to 08h stays; at the eighth clock of the address byte the address is 02h, and ticks leave it.
use Prim.Native.Nat.{ℕ}
use mathlib.Core.Path.{◌≡◌, refl, ◌∙◌}
use mathlib.Core.Bool.{true, ◌||◌}
use mathlib.Core.List.{List}
use lib.Dec.{lit≤}
use Rattle.bits.specs.Weight.{has}
use Rattle.wire.specs.declared.Side.TheVariants.{Companion}
use Rattle.wire.specs.declared.Phase.{Phase}
use Rattle.wire.specs.declared.Phase.TheVariants.{Write, Read}
use Rattle.calendar.specs.declared.Calendar.{Calendar}
use Rattle.fm3130_companion.specs.Change.{with_address}
use Rattle.law_registers.specs.ReadOut.{open_read}
use Rattle.law_registers.proofs.Ticks.{ticked, ticked_address}
use Rattle.law_registers.proofs.Clocking.{Desk}
use Rattle.law_registers.proofs.Held.{still_held}
use Rattle.law_registers.proofs.Going.{ticks_leave}
use Rattle.law_registers.proofs.Ways.{Ways, arrives, begins, named, named_to_read, pointed}

-- 02h to 08h are held, and are this calendar
pub record Frozen (t : Calendar) (c : Desk) : Type 0 where
  pub time : c.registers.time ≡ t
  pub holds : (has c.registers.control 0x02 || has c.registers.control 0x01) ≡ true

-- and the address is this
pub record Still (t : Calendar) (k : ℕ) (c : Desk) : Type 0 where
  pub address : c.address ≡ k
  pub frozen : Frozen t c

module _ (t : Calendar) where
  pub frozen_ticked : (n : ℕ) (c : Desk) → Frozen t c → Frozen t (ticked n c)
  frozen_ticked n c s =
      let l = ticks_leave n c s.holds in
      record { time = l.time ∙ s.time; holds = still_held c (ticked n c) l s.holds }

  pub still_ticked : (k n : ℕ) (c : Desk) → Still t k c → Still t k (ticked n c)
  still_ticked k n c s =
      record { address = ticked_address n c ∙ s.address; frozen = frozen_ticked n c s.frozen }

  aimed : (c : Desk) → Frozen t c → Still t 2 (with_address c 2)
  aimed c h = record { address = refl; frozen = record { time = h.time; holds = h.holds } }

  pub opening : (a : ℕ) (m : List ℕ) (p : Phase) → Ways a m (Frozen t) p (open_read 2) (Still t 2) (Read Companion 0 0)
  opening a m p =
      begins a m frozen_ticked p
      (named a m frozen_ticked
      (pointed a m frozen_ticked (still_ticked 2) 2 (lit≤ tt) aimed
      (begins a m (still_ticked 2) (Write Companion 0 0) (named_to_read a m (still_ticked 2) (arrives a m)))))
