-- SPDX-License-Identifier: Apache-2.0
-- 02, number 8: "A read from the current address has no such assurance; say so." Two sessions in which this master does
-- nothing, and the other, in the second, sets the memory address and writes no byte. A read that sets its address is
-- answered alike after both; one from the current address is not.
--   current_read, set_read     the two reads
--   silent, aimed            the two sessions
--   NoAssuranceOn, NoAssurance   what is so, on a memory that the entries take
use Rattle.std.specs.Prelude.{ℕ, ◌≡◌, true, List, [], ◌∷◌, ◌++◌, length}
use Rattle.fm3130.specs.Chip.{memory_size}
use Rattle.fm3130.specs.Power.{fresh}
use Rattle.wire_clocks.specs.Events.{written, asked, write_events}
use Rattle.masters_hold.specs.declared.Master.TheVariants.{Rig, Handheld}
use Rattle.law_assurance.specs.Session.{Act, asks, calls, after_acts, begin}
use Rattle.law_assurance.specs.Same.{answers_after, Alongside}

-- Start, the slave byte A1h, one byte, Stop.
abbrev pub current_read : List ℕ
current_read = 0 ∷ (written 0xA1 ++ (asked true ++ (1 ∷ [])))

-- Start, the slave byte A0h, the address 0000h, and then the same.
abbrev pub set_read : List ℕ
set_read = 0 ∷ (written 0xA0 ++ (written 0 ++ (written 0 ++ current_read)))

-- A memory whose first two bytes differ.
abbrev pub lent_bytes : List ℕ → List ℕ
lent_bytes rest = 0x00 ∷ 0xFF ∷ rest

abbrev pub silent : List Act
silent = []

abbrev pub aimed : List Act
aimed = asks Handheld ∷ calls Handheld (write_events 1 []) ∷ []

pub record NoAssuranceOn (m : List ℕ) : Type 0 where
  pub lent : length m ≡ memory_size
  pub alongside : Alongside Rig (λ a. true) fresh m silent aimed
  pub same :
      answers_after (after_acts (begin fresh m) silent) set_read
      ≡ answers_after (after_acts (begin fresh m) aimed) set_read
  pub differs :
      answers_after (after_acts (begin fresh m) silent) current_read
      ≡ answers_after (after_acts (begin fresh m) aimed) current_read → ⊥

-- Whatever the other 8,190 bytes are: on a memory of a length that the entries take.
abbrev pub NoAssurance : Type 0
NoAssurance = (rest : List ℕ) → length rest ≡ 8190 → NoAssuranceOn (lent_bytes rest)
