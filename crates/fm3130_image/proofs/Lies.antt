-- SPDX-License-Identifier: Apache-2.0
-- What lies where in an accepted image: the register at the companion's address, the two addresses within their limits;
-- and which bytes of an image differ when the phase or the memory address of its state does.
use Prim.Native.Nat.{ℕ, zero, suc, ◌+◌, ◌*◌, ◌/◌, ◌%◌, ◌≤◌, ◌<◌}
use mathlib.Core.Path.{◌≡◌, refl}
use mathlib.Core.Bool.{true}
use mathlib.Core.List.{List, [], ◌∷◌}
use native.Mathlib.Omega.{arith}
use lib.ListN.{length, get_or}
use lib.Seq.{sets}
use Rattle.wire.specs.declared.Phase.{Phase}
use Rattle.fm3130_companion.specs.Part.{load_of}
use Rattle.fm3130.proofs.Cases.{with_phase}
use Rattle.fm3130.specs.Chip.{memory_size}
use Rattle.fm3130.specs.declared.State.{State}
use Rattle.fm3130.proofs.Entry.{ready}
use Rattle.fm3130_image.specs.Image.{image_of, companion_at, candidate}
use Rattle.fm3130_image.specs.Code.Accepting.{is_image, transfer_bytes}
use Rattle.fm3130_image.proofs.Accepts.{listed, image_well}

-- a register lies in the image at its address
listed_at : (n k : ℕ) (i : List ℕ) (a : ℕ) → a < n → get_or (listed n k i) a 0 ≡ get_or i (k + a) 0
unfolding listed
listed_at zero k i a h = absurd (omega arith)
listed_at (suc n) k i zero h = let z : k + 0 ≡ k = omega arith in rw z
listed_at (suc n) k i (suc a) h =
    let z : k + suc a ≡ suc k + a = omega arith in rw z (listed_at n (suc k) i a (omega arith))

pub load_place : (i : List ℕ) → get_or i 22 0 ≤ 14 → load_of (companion_at i) ≡ get_or i (get_or i 22 0) 0
unfolding load_of listed
load_place i h =
    let z : 0 + get_or i 22 0 ≡ get_or i 22 0 = omega arith in
    rw z at (listed_at 15 0 i (get_or i 22 0) (omega arith))

-- the two addresses
pub image_places : (i m : List ℕ) → length m ≡ memory_size → is_image i ≡ true
    → (get_or i 22 0 ≤ 14) × (get_or i 23 0 * 256 + get_or i 24 0 < memory_size)
unfolding candidate
image_places i m l h = let r = ready (candidate i) m l (image_well i h) in (r.desk, r.address)

-- another phase; another address and phase
module _ (s : State) (p : Phase) where
  pub phase_over : image_of (with_phase s p) ≡ sets (image_of s) 26 (transfer_bytes p)
  unfolding image_of
  phase_over = refl

  pub address_over : (a : ℕ)
      → image_of (record { power = s.power; phase = p; address = a; companion = s.companion })
      ≡ sets (sets (image_of s) 23 (a / 256 ∷ a % 256 ∷ [])) 26 (transfer_bytes p)
  unfolding image_of
  address_over a = refl
