-- SPDX-License-Identifier: Apache-2.0
-- What the companion shows outside: neither an address byte, nor the end of a read, nor a tick changes the protection, which
-- stands in 0Eh alone.
use Prim.Native.Nat.{ℕ}
use mathlib.Core.Path.{◌≡◌, refl}
use lib.Dec.{leb, eqb}
use Rattle.bits.specs.Weight.{has}
use Rattle.bits.proofs.Cases.{by_cond}
use Rattle.fm3130_companion.specs.declared.Companion.{Companion}
use Rattle.fm3130_companion.specs.Part.{Taken}
use Rattle.fm3130_registers.specs.Map.{LAST, OSCEN}
use Rattle.fm3130_companion.specs.Part.{aim_of, loaded_of, tick_of, guard_of}

pub aim_guard : (c : Companion) (b : ℕ) → guard_of (aim_of c b).companion ≡ guard_of c
unfolding aim_of
aim_guard c b = by_cond (λ (t : Taken). guard_of t.companion ≡ guard_of c) (leb b LAST) (λ h. refl) (λ h. refl)

pub loaded_guard : (c : Companion) (b : ℕ) → guard_of (loaded_of c b) ≡ guard_of c
unfolding loaded_of
loaded_guard c b = by_cond (λ (d : Companion). guard_of d ≡ guard_of c) (eqb c.address 0) (λ h. refl) (λ h. refl)

pub tick_guard : (c : Companion) → guard_of (tick_of c) ≡ guard_of c
unfolding tick_of
tick_guard c =
    by_cond (λ (d : Companion). guard_of d ≡ guard_of c) (has c.registers.trim OSCEN) (λ h. refl) (λ h. refl)
