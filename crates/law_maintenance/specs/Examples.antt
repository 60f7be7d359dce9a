-- SPDX-License-Identifier: Apache-2.0
-- Worked examples on a fresh device with any memory: lamp 0 proved by the master's own read (request 1), and what then
-- happens to it.
--   Shown         the proving read lights lamp 0; two ticks leave it lit, the third darkens it; a hang darkens it
--   LineNotMemory what a read gave is what the line showed: the master can pull a byte 3 down to 1
use Rattle.std.specs.Prelude.{ℕ, ◌≡◌, true, List, [], ◌∷◌, ◌++◌}
use Rattle.fm3130.specs.Power.{fresh}
use Rattle.wire_clocks.specs.Events.{written, asked, opening, read_events}
use Rattle.law_maintenance.specs.Maintenance.{reported}

abbrev pub proving_read : List ℕ
proving_read = read_events 0x1000 1

-- The same without its Stop.
abbrev pub unstopped_read : List ℕ
unstopped_read = opening 0x1000 ++ (0 ∷ (written 0xA1 ++ asked true))

pub record Shown (m : List ℕ) : Type 0 where
  pub lit : reported fresh m proving_read ≡ 1
  pub two : reported fresh m (proving_read ++ (4 ∷ 4 ∷ [])) ≡ 1
  pub three : reported fresh m (proving_read ++ (4 ∷ 4 ∷ 4 ∷ [])) ≡ 0
  -- Start, one clock, silence for a tick, and the Start that frees the bus
  pub hang : reported fresh m (proving_read ++ (0 ∷ 3 ∷ 4 ∷ 0 ∷ [])) ≡ 0
  -- without its Stop the read does not count
  pub unstopped : reported fresh m unstopped_read ≡ 0

-- The seventh clock is pulled low by the master.
abbrev pub pulled_read : List ℕ
pulled_read =
    opening 0x1000 ++ (0 ∷ (written 0xA1 ++ (3 ∷ 3 ∷ 3 ∷ 3 ∷ 3 ∷ 3 ∷ 2 ∷ 3 ∷ 3 ∷ 1 ∷ [])))

abbrev pub LineNotMemory : List ℕ → Type 0
LineNotMemory m = reported fresh m pulled_read ≡ 1
