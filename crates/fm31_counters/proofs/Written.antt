-- SPDX-License-Identifier: Apache-2.0
-- A write by its address: 0Dh to 18h keep the whole byte; outside a locked serial number the byte is stored.
use Rattle.std.proofs.Common.{◌≡◌, ℕ, ◌-◌, ◌<◌, ◌≤◌, true, false, ◌&&◌, leb, [], ◌∷◌, get_or, refl, arith}
use Rattle.bits.proofs.Cases.{Below, none, ◌then◌, below}
use Rattle.fm31_counters.specs.declared.Registers.{Registers}
use Rattle.fm31_counters.specs.Map.{SERIAL}
use Rattle.fm31_counters.specs.Registers.{put_at}
use Rattle.fm31_counters.specs.Write.{flags_after, watchdog_after, control_after, counting_after}
use Rattle.fm31_counters.specs.Write.{kept_at, is_locked, registers_after}

-- the addresses past 0Ch
pub past_counting : (a : ℕ) → 9 ≤ a → (a ≡ 9 → ⊥) → (a ≡ 10 → ⊥) → (a ≡ 11 → ⊥) → (a ≡ 12 → ⊥) → 13 ≤ a
past_counting a l d e f g = omega arith

-- past the fourth of sixteen, of which the last twelve are equal
past : (w x y z b : ℕ) (k : ℕ) → k < 16 → 4 ≤ k
    → get_or (w ∷ x ∷ y ∷ z ∷ b ∷ b ∷ b ∷ b ∷ b ∷ b ∷ b ∷ b ∷ b ∷ b ∷ b ∷ b ∷ []) k 0 ≡ b
past w x y z b k h =
    below (λ k. 4 ≤ k → get_or (w ∷ x ∷ y ∷ z ∷ b ∷ b ∷ b ∷ b ∷ b ∷ b ∷ b ∷ b ∷ b ∷ b ∷ b ∷ b ∷ []) k 0 ≡ b) each k h
  where
    each : Below (λ k. 4 ≤ k → get_or (w ∷ x ∷ y ∷ z ∷ b ∷ b ∷ b ∷ b ∷ b ∷ b ∷ b ∷ b ∷ b ∷ b ∷ b ∷ b ∷ []) k 0 ≡ b) 16
    each =
        none then (λ h. absurd (omega arith)) then (λ h. absurd (omega arith))
        then (λ h. absurd (omega arith)) then (λ h. absurd (omega arith))
        then (λ h. refl) then (λ h. refl) then (λ h. refl) then (λ h. refl)
        then (λ h. refl) then (λ h. refl) then (λ h. refl) then (λ h. refl)
        then (λ h. refl) then (λ h. refl) then (λ h. refl) then (λ h. refl)

pub kept_whole : (r : Registers) (a b : ℕ) → 13 ≤ a → a ≤ 24 → kept_at r a b ≡ b
kept_whole r a b l h =
    past (flags_after r.flags b) (watchdog_after b) (control_after r.control b) (counting_after b) b (a - 9)
    (omega arith) (omega arith)

pub locked_write : (r : Registers) (a b : ℕ) → (is_locked r && leb SERIAL a) ≡ true → registers_after r a b ≡ r
locked_write r a b e = rw e

pub open_write_lem : (r : Registers) (a b : ℕ) → (is_locked r && leb SERIAL a) ≡ false
    → registers_after r a b ≡ put_at r a (kept_at r a b)
open_write_lem r a b e = rw e
