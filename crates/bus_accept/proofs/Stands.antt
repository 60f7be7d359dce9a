-- SPDX-License-Identifier: Apache-2.0
-- Numbers that stand for supplies and for a phase are those of the supplies and of the phase they stand for; and what these
-- write stands for some.
use Prim.Native.Nat.{ℕ, zero, suc, ◌≤◌}
use mathlib.Core.Path.{◌≡◌, refl}
use mathlib.Core.Bool.{true, ◌&&◌, false≢true}
use native.Mathlib.Omega.{arith}
use lib.Dec.{eqb, leb}
use borrow.Author.Tests.{eqb-true, ne_eqb, leb-true, lt-leb}
use Rattle.wire.specs.declared.Side.TheVariants.{Memory, Companion}
use Rattle.wire.specs.declared.Phase.{Phase}
use Rattle.wire.specs.declared.Phase.TheVariants.{Idle, Slave, AddressHigh, AddressLow, Pointer, Write, Read}
use Rattle.wire.proofs.Tests.{and_split}
use Rattle.bus.specs.declared.Power.{Power}
use Rattle.bus.specs.declared.Power.TheVariants.{On, Backup, Off}
use Rattle.bus_image.specs.Layout.{power_number, power_of, transfer, transfer_of, phase_of}
use Rattle.bus_accept.specs.Tests.{transfer_stands}

-- a number that stands for supplies is that of the supplies it stands for
pub power_stands : (p : ℕ) → leb p 2 ≡ true → power_number (power_of p) ≡ p
unfolding power_of
power_stands zero h = refl
power_stands (suc zero) h = refl
power_stands (suc (suc zero)) h = refl
power_stands (suc (suc (suc p))) h = let z = leb-true (suc (suc (suc p))) 2 h in absurd (omega arith)

none_first : (n k b f : ℕ) → eqb f 0 ≡ true → transfer n k b 0 ≡ transfer n k b f
none_first n k b f h = rw (eqb-true f 0 h)

stands_below : (n k b f : ℕ) → 9 ≤ n → transfer_stands n k b f ≡ true → ⊥
unfolding transfer_stands
stands_below n k b f l h =
    false≢true (rw (ne_eqb n 0 (λ e. omega arith), ne_eqb n 3 (λ e. omega arith), lt-leb n 8 (omega arith)) at h)

pub transfer_stands_lem : (n k b f : ℕ) → transfer_stands n k b f ≡ true → transfer_of (phase_of n k b f) ≡ transfer n k b f
unfolding phase_of transfer_stands
transfer_stands_lem zero k b f h =
    let t = and_split (eqb k 0 && eqb b 0) (eqb f 0) h in
    let u = and_split (eqb k 0) (eqb b 0) t.0 in
    rw (eqb-true k 0 u.0, eqb-true b 0 u.1, eqb-true f 0 t.1)
transfer_stands_lem (suc zero) k b f h = none_first 1 k b f h
transfer_stands_lem (suc (suc zero)) k b f h = none_first 2 k b f h
transfer_stands_lem (suc (suc (suc zero))) k b f h = refl
transfer_stands_lem (suc (suc (suc (suc zero)))) k b f h = none_first 4 k b f h
transfer_stands_lem (suc (suc (suc (suc (suc zero))))) k b f h = none_first 5 k b f h
transfer_stands_lem (suc (suc (suc (suc (suc (suc zero)))))) k b f h = none_first 6 k b f h
transfer_stands_lem (suc (suc (suc (suc (suc (suc (suc zero))))))) k b f h = none_first 7 k b f h
transfer_stands_lem (suc (suc (suc (suc (suc (suc (suc (suc zero)))))))) k b f h = none_first 8 k b f h
transfer_stands_lem (suc (suc (suc (suc (suc (suc (suc (suc (suc n))))))))) k b f h =
    absurd (stands_below (suc (suc (suc (suc (suc (suc (suc (suc (suc n))))))))) k b f (omega arith) h)

-- what supplies and a phase write passes the tests
pub power_written : (p : Power) → leb (power_number p) 2 ≡ true
power_written On = refl
power_written Backup = refl
power_written Off = refl

pub transfer_written : (p : Phase)
    → transfer_stands (transfer_of p).phase (transfer_of p).clocks (transfer_of p).byte (transfer_of p).first ≡ true
unfolding transfer_stands
transfer_written Idle = refl
transfer_written (Slave k b) = refl
transfer_written (AddressHigh k b) = refl
transfer_written (AddressLow h k b) = refl
transfer_written (Pointer k b) = refl
transfer_written (Write Memory k b) = refl
transfer_written (Write Companion k b) = refl
transfer_written (Read Memory k b) = refl
transfer_written (Read Companion k b) = refl
