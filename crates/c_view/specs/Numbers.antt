-- SPDX-License-Identifier: Apache-2.0
-- The FM3130's viewer in literal numbers (01, Entries and refusal numbers): which number is given when, in their order, and what the
-- part then holds.
--   EmptyBy       a number other than 0, with "an empty part of memory"
--   ViewNumbers   the numbers, each given exactly when its line says; "length 0 at the very end is accepted"
use Rattle.std.specs.Prelude.{ℕ, ◌+◌, ◌≤◌, ◌<◌, ◌≡◌, List, [], length, take, drop}
use Rattle.std.specs.Borrow.{Bor}
use Rattle.fm3130_registers.specs.Map.{COUNT}
use Rattle.fm3130.specs.Chip.{memory_size}
use Rattle.c_view.specs.View.{view_number, view_of, view_place}

-- Of the FM3130. The empty part lies at the memory's front.
pub record EmptyBy (number : ℕ) (i m : Bor (List ℕ)) (selector start len : ℕ) : Type 0 where
  pub given : view_number memory_size COUNT i.now m.now selector start len ≡ number
  pub empty : view_of memory_size COUNT i.now m.now selector start len ≡ []
  pub place : view_place memory_size COUNT i m selector start len ≡ m.ref_ptr

pub record ViewNumbers (i m : Bor (List ℕ)) (selector start len : ℕ) : Type 0 where
  pub memory : (length m.now ≡ 8192 → ⊥) → EmptyBy 1 i m selector start len
  pub image : length m.now ≡ 8192 → (length i.now ≡ 64 → ⊥) → EmptyBy 2 i m selector start len
  pub selector_unknown : length m.now ≡ 8192 → length i.now ≡ 64 → 1 < selector → EmptyBy 5 i m selector start len
  pub memory_passed : length m.now ≡ 8192 → length i.now ≡ 64 → selector ≡ 0 → 8192 < start + len
      → EmptyBy 6 i m selector start len
  pub registers_passed : length m.now ≡ 8192 → length i.now ≡ 64 → selector ≡ 1 → 15 < start + len
      → EmptyBy 6 i m selector start len
  pub of_memory : length m.now ≡ 8192 → length i.now ≡ 64 → selector ≡ 0 → start + len ≤ 8192
      → view_of memory_size COUNT i.now m.now selector start len ≡ take len (drop start m.now)
  pub of_registers : length m.now ≡ 8192 → length i.now ≡ 64 → selector ≡ 1 → start + len ≤ 15
      → view_of memory_size COUNT i.now m.now selector start len ≡ take len (drop start (take 15 i.now))

abbrev pub EveryViewNumber : Type 0
EveryViewNumber = (i m : Bor (List ℕ)) (selector start len : ℕ) → ViewNumbers i m selector start len
