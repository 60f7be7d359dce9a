-- SPDX-License-Identifier: Apache-2.0
-- Select bits 00 are those of 01's slave bytes: a part with them is named as one without, and has its limits.
use Prim.Native.Nat.{ℕ, ◌*◌, ◌-◌}
use mathlib.Core.Path.{◌≡◌, refl, sym}
use mathlib.Core.Bool.{Bool}
use native.Mathlib.Omega.{arith}
use lib.Dec.{eqb}
use borrow.Author.Tests.{eqb-true, eqb-false, ne_eqb}
use Rattle.wire.specs.Slave.{slave_names}
use Rattle.wire.specs.Limits.{phase_within}
use Rattle.wire.specs.declared.Named.TheVariants.{Nobody}
use Rattle.wire.specs.declared.Phase.{Phase}
use Rattle.wire.specs.declared.Phase.TheVariants.{Idle, Slave, AddressHigh, AddressLow, Pointer, Write, Read}
use Rattle.wire.proofs.Tests.{by_test}
use Rattle.bus.specs.Select.{select_of, slave_names_for, lone}

selected_nobody : (b : ℕ) → (select_of b ≡ 0 → ⊥) → slave_names b ≡ Nobody
unfolding slave_names
selected_nobody b h =
    rw (
      ne_eqb b 0xA0 (λ e. h (rw e refl)),
      ne_eqb b 0xA1 (λ e. h (rw e refl)),
      ne_eqb b 0xD0 (λ e. h (rw e refl)),
      ne_eqb b 0xD1 (λ e. h (rw e refl)),
    )

pub lone_names : (b : ℕ) → slave_names_for 0 b ≡ slave_names b
unfolding slave_names_for
lone_names b =
    by_test (eqb (select_of b) 0)
    (λ t.
    let z = eqb-true (select_of b) 0 t in
    let m : b - 2 * select_of b ≡ b = omega arith in
    rw (t, m))
    (λ t. rw t (sym (selected_nobody b (eqb-false (select_of b) 0 t))))

-- the same of the two as functions: a part with select bits 00 is a part with 01's slave bytes
pub lone_is : slave_names_for lone ≡ slave_names
lone_is = λ i b. lone_names b i

pub lone_within : (legal : ℕ → Bool) (p : Phase)
    → phase_within (slave_names_for 0) legal p ≡ phase_within slave_names legal p
unfolding phase_within
lone_within legal Idle = refl
lone_within legal (Slave k b) = rw (lone_names b) refl
lone_within legal (AddressHigh k b) = refl
lone_within legal (AddressLow h k b) = refl
lone_within legal (Pointer k b) = refl
lone_within legal (Write s k b) = refl
lone_within legal (Read s k b) = refl
