-- SPDX-License-Identifier: Apache-2.0
-- A stretch of the memory, from an address on and over 1FFFh to 0000h, under a protection (01, Transfers).
--   AllBytes, Free       every element is a byte; no address of a stretch is protected
--   flags_by, stored_by    what a write of bytes there is told, and leaves
--   fetched_from          the bytes of a stretch
use Rattle.std.specs.Prelude.{ℕ, zero, suc, ◌<◌, ◌≡◌, false, cond, List, [], ◌∷◌, length, get_or, set, replicate}
use Rattle.wire.specs.Memory.{next, is_protected}
use Rattle.fm3130.specs.Chip.{memory_size}

abbrev pub AllBytes : List ℕ → Type 0
AllBytes [] = Unit {0}
AllBytes (b ∷ bs) = (b < 256) × AllBytes bs

-- n addresses from a on are unprotected under wp. "Memory goes from 1FFFh to 0000h."
abbrev pub Free : ℕ → ℕ → ℕ → Type 0
Free wp a zero = Unit {0}
Free wp a (suc n) = (is_protected memory_size wp a ≡ false) × Free wp (next memory_size a) n

-- "A data byte to a protected address is not acknowledged .. and the transfer ends": it and all after it are flagged 0.
abbrev pub flags_by : ℕ → ℕ → List ℕ → List ℕ
flags_by wp a [] = []
flags_by wp a (b ∷ bs) =
    cond (is_protected memory_size wp a) (replicate (suc (length bs)) 0) (1 ∷ flags_by wp (next memory_size a) bs)

-- Those flagged 1 are stored, and nothing else changes.
abbrev pub stored_by : ℕ → List ℕ → ℕ → List ℕ → List ℕ
stored_by wp m a [] = m
stored_by wp m a (b ∷ bs) =
    cond (is_protected memory_size wp a) m (stored_by wp (set m a b) (next memory_size a) bs)

abbrev pub fetched_from : List ℕ → ℕ → ℕ → List ℕ
fetched_from m a zero = []
fetched_from m a (suc n) = get_or m a 0 ∷ fetched_from m (next memory_size a) n
