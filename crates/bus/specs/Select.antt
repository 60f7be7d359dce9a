-- SPDX-License-Identifier: Apache-2.0
-- The select bits of a slave byte (02, number 12: "each with its two select bits (slave byte bits 2 and 1) in its
-- record").
--   select_of        bits 2 and 1 of a byte
--   slave_names_for   whom a byte names, of a part with these select bits
--   lone            the select bits of a part that is alone on its line
use Rattle.std.specs.Prelude.{ℕ, ◌-◌, ◌*◌, ◌/◌, ◌%◌, cond, eqb}
use Rattle.wire.specs.Slave.{slave_names}
use Rattle.wire.specs.declared.Named.{Named}
use Rattle.wire.specs.declared.Named.TheVariants.{Nobody}

abbrev pub select_of : ℕ → ℕ
select_of b = b / 2 % 4

-- Slave byte 1010 0ssx is the memory, 1101 0ssx the companion, of the part whose select bits are ss.
unfoldable pub slave_names_for : ℕ → ℕ → Named
slave_names_for select b = cond (eqb (select_of b) select) (slave_names (b - 2 * select_of b)) Nobody

-- 01's slave bytes have 00 there: those of the FM3130, and of a device of the larger family by itself.
abbrev pub lone : ℕ
lone = 0
