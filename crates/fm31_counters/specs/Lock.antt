-- SPDX-License-Identifier: Apache-2.0
-- The lock (02, number 5: "Once SNL is 1 no event of any kind changes registers 11h to 18h or SNL").
--   Locked, SerialKept, KeepsSerial   SNL is 1; it stays, with the serial number; whatever is done keeps both
use Rattle.std.specs.Prelude.{◌≡◌, true}
use Rattle.fm31_counters.specs.declared.Counters.{Counters}
use Rattle.fm31_counters.specs.Write.{is_locked}

-- SNL is 1.
abbrev pub Locked : Counters → Type 0
Locked c = is_locked c.registers ≡ true

-- d is still locked, with the serial number of c.
pub record SerialKept (c d : Counters) : Type 0 where
  pub locked : Locked d
  pub serial : d.registers.serial ≡ c.registers.serial

-- Whatever the change is, it keeps a locked serial number.
abbrev pub KeepsSerial : (Counters → Counters) → Type 0
KeepsSerial f = (c : Counters) → Locked c → SerialKept c (f c)
