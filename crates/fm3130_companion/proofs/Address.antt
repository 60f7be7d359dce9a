-- SPDX-License-Identifier: Apache-2.0
-- The companion's address. A write leaves it: so it does at 00h, at 01h, where the byte is stored and where it is
-- not. An address byte is acknowledged exactly if some register has that address.
use Prim.Native.Nat.{ℕ}
use mathlib.Core.Path.{◌≡◌, refl}
use mathlib.Core.Bool.{Bool, true, false, cond}
use lib.Dec.{leb, eqb}
use Rattle.bits.specs.Weight.{has}
use Rattle.bits.proofs.Cases.{by_cond}
use Rattle.fm3130_companion.specs.declared.Companion.{Companion}
use Rattle.fm3130_registers.specs.Map.{LAST, W}
use Rattle.fm3130_companion.specs.Change.{with_address}
use Rattle.fm3130_companion.specs.Write.{written_of}
use Rattle.fm3130_companion.specs.Part.{aim_of, refused_address}

pub written_address : (c : Companion) (b : ℕ) → (written_of c b).address ≡ c.address
written_address c b =
    let Q : Companion → Type 0 = λ d. d.address ≡ c.address in
    by_cond Q (eqb c.address 0) (λ h. refl)
    (λ h. by_cond Q (eqb c.address 1) (λ h. refl)
    (λ h. by_cond Q (leb c.address 8)
    (λ h. by_cond Q (has c.registers.control W) (λ h. refl) (λ h. refl)) (λ h. refl)))

acknowledged : (t : Bool) (c d : Companion)
    → (cond t (record { companion = d; acknowledged = true }) (refused_address c)).acknowledged ≡ t
acknowledged true c d = refl
acknowledged false c d = refl

pub aim_acknowledged : (c : Companion) (b : ℕ) → (aim_of c b).acknowledged ≡ leb b LAST
unfolding aim_of
aim_acknowledged c b = acknowledged (leb b LAST) c (with_address c b)
