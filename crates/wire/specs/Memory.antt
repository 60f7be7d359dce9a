-- SPDX-License-Identifier: Apache-2.0
-- The memory, over its size (01, Transfers). `Cells` is the lent bytes with the memory address.
--   joined, next       addresses           protected_below, is_protected   the write protection
--   pointed, put_byte, byte_at, stepped_on    what a transfer does to a memory
use Rattle.std.specs.Prelude.{ℕ, ◌+◌, ◌*◌, ◌/◌, ◌%◌, Bool, true, false, cond, List, eqb, ltb, get_or, set}
use Rattle.wire.specs.Clock.{Taken}

pub record Cells : Type 0 where
  pub bytes : List ℕ
  pub address : ℕ

-- Auxiliary: the lent bytes, at an address.
abbrev pub lent : List ℕ → ℕ → Cells
lent m a = record { bytes = m; address = a }

-- "Two address bytes .. the upper three bits ignored (ruling)": in 8,192 bytes those above the size.
abbrev pub joined : ℕ → ℕ → ℕ → ℕ
joined size high low = (high * 256 + low) % size

-- "Memory goes from 1FFFh to 0000h."
abbrev pub next : ℕ → ℕ → ℕ
next size a = (a + 1) % size

-- "Protection by WP1 WP0 of 0Eh: 00 none; 01 0000h to 07FFh; 10 0000h to 0FFFh; 11 all": the first address that is free.
abbrev pub protected_below : ℕ → ℕ → ℕ
protected_below size wp =
    cond (eqb wp 0) 0 (cond (eqb wp 1) (size / 4) (cond (eqb wp 2) (size / 2) size))

abbrev pub is_protected : ℕ → ℕ → ℕ → Bool
is_protected size wp a = ltb a (protected_below size wp)

-- The address is taken.
abbrev pub pointed : ℕ → Cells → ℕ → ℕ → Cells
pointed size m high low = lent m.bytes (joined size high low)

-- 01: "A data byte to a protected address is not acknowledged"; 02, number 3: "a refused data byte steps the address too, from
-- 1FFFh to 0000h, and still changes no memory".
unfoldable pub refused_byte : ℕ → Cells → Taken Cells
refused_byte size m = record { next = lent m.bytes (next size m.address); good = false }

-- "A data byte is stored at its eighth clock, and then the address steps on."
unfoldable pub put_byte : ℕ → ℕ → Cells → ℕ → Taken Cells
put_byte size wp m b =
    cond (is_protected size wp m.address) (refused_byte size m)
    (record { next = lent (set m.bytes m.address b) (next size m.address); good = true })

-- "A read uses the current address."
abbrev pub byte_at : Cells → ℕ
byte_at m = get_or m.bytes m.address 0

-- "The address steps on at the eighth."
abbrev pub stepped_on : ℕ → Cells → Cells
stepped_on size m = lent m.bytes (next size m.address)
