-- SPDX-License-Identifier: Apache-2.0
-- The pin's function is one of four.
use Prim.Native.Nat.{ℕ, ◌≤◌}
use lib.Dec.{lit≤}
use Rattle.bits.specs.Weight.{has}
use Rattle.bits.proofs.Cases.{by_cond}
use Rattle.fm3130_registers.specs.Map.{AEN, CAL, ALSW}
use Rattle.fm3130_registers.specs.Pin.{function_of}

pub function_le : (control setup : ℕ) → function_of control setup ≤ 3
function_le control setup =
    let Q : ℕ → Type 0 = λ n. n ≤ 3 in
    by_cond Q (has control CAL) (λ h. lit≤ tt)
    (λ h. by_cond Q (has setup ALSW) (λ h. by_cond Q (has control AEN) (λ h. lit≤ tt) (λ h. lit≤ tt)) (λ h. lit≤ tt))
