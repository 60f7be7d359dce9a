-- SPDX-License-Identifier: Apache-2.0
-- 02h to 08h beside the core while ticks come (01, Ticks, alarm, power: "02h to 08h take the core if R and W are 0"; "The core
-- runs on while W is 1 (ruling)"). W and R are bits 02h and 01h of 00h, OSCEN is bit 80h of 01h.
--   Held         while R or W is 1 ticks leave 02h to 08h
--   CoreRunsOn   the core goes on, whatever R and W are
--   Follows      where both are 0 the registers show the core
use Rattle.std.specs.Prelude.{ℕ, ◌≡◌, true, false, ◌||◌, List}
use Rattle.bits.specs.Weight.{has}
use Rattle.calendar.specs.Next.{next_of}
use Rattle.fm3130.specs.Power.{is_supplied}
use Rattle.fm3130.specs.declared.State.{State}
use Rattle.law_registers.specs.Ticks.{after_ticks}

-- Of every state and memory, whatever the supplies, after any number of ticks.
abbrev pub Held : Type 0
Held =
    (s : State) (m : List ℕ) (n : ℕ)
    → (has s.companion.registers.control 0x02 || has s.companion.registers.control 0x01) ≡ true
    → (after_ticks s m n).registers.time ≡ s.companion.registers.time

-- "A tick counts if OSCEN is 0 and power or backup is present."
abbrev pub CoreRunsOn : Type 0
CoreRunsOn =
    (s : State) (m : List ℕ) → is_supplied s.power ≡ true → has s.companion.registers.trim 0x80 ≡ false
    → (after_ticks s m 1).core ≡ (next_of s.companion.core).calendar

abbrev pub Follows : Type 0
Follows =
    (s : State) (m : List ℕ) → is_supplied s.power ≡ true → has s.companion.registers.trim 0x80 ≡ false
    → has s.companion.registers.control 0x02 ≡ false → has s.companion.registers.control 0x01 ≡ false
    → (after_ticks s m 1).registers.time ≡ (after_ticks s m 1).core
