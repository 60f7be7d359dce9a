-- SPDX-License-Identifier: Apache-2.0
-- 02, number 1: "More than 256, a read of none, an address above 1FFFh, too little room, or answers not as many as the events is
-- refused by 1 to 5 of its own in that order, and nothing is written." Of a master's four functions, each number exactly where its
-- line says. A write of n bytes has 29 + 9 n events, a read 39 + 9 n.
use Rattle.std.specs.Prelude.{ℕ, ◌+◌, ◌*◌, ◌≤◌, ◌<◌, ◌≡◌, List, length}
use Rattle.c_master.specs.Outcome.{Outcome, write_events_of, read_events_of, write_told_of, read_told_of}

abbrev pub refused_by : ℕ → List ℕ → Outcome
refused_by n e = record { number = n; count = 0; buffer = e }

pub record WriteEvents (a : ℕ) (bs e : List ℕ) : Type 0 where
  pub many : 256 < length bs → write_events_of a bs e ≡ refused_by 1 e
  pub address : length bs ≤ 256 → 0x1FFF < a → write_events_of a bs e ≡ refused_by 3 e
  pub room : length bs ≤ 256 → a ≤ 0x1FFF → length e < 29 + 9 * length bs → write_events_of a bs e ≡ refused_by 4 e
  pub taken : length bs ≤ 256 → a ≤ 0x1FFF → 29 + 9 * length bs ≤ length e → (write_events_of a bs e).number ≡ 0

pub record ReadEvents (a n : ℕ) (e : List ℕ) : Type 0 where
  pub many : 256 < n → read_events_of a n e ≡ refused_by 1 e
  pub none : n ≡ 0 → read_events_of a n e ≡ refused_by 2 e
  pub address : 1 ≤ n → n ≤ 256 → 0x1FFF < a → read_events_of a n e ≡ refused_by 3 e
  pub room : 1 ≤ n → n ≤ 256 → a ≤ 0x1FFF → length e < 39 + 9 * n → read_events_of a n e ≡ refused_by 4 e
  pub taken : 1 ≤ n → n ≤ 256 → a ≤ 0x1FFF → 39 + 9 * n ≤ length e → (read_events_of a n e).number ≡ 0

pub record WriteTold (n : ℕ) (answers e : List ℕ) : Type 0 where
  pub many : 256 < n → write_told_of n answers e ≡ refused_by 1 e
  pub room : n ≤ 256 → length e < n → write_told_of n answers e ≡ refused_by 4 e
  pub answers_wrong : n ≤ 256 → n ≤ length e → (length answers ≡ 29 + 9 * n → ⊥) → write_told_of n answers e ≡ refused_by 5 e
  pub taken : n ≤ 256 → n ≤ length e → length answers ≡ 29 + 9 * n → (write_told_of n answers e).number ≡ 0

pub record ReadTold (n : ℕ) (answers e : List ℕ) : Type 0 where
  pub many : 256 < n → read_told_of n answers e ≡ refused_by 1 e
  pub none : n ≡ 0 → read_told_of n answers e ≡ refused_by 2 e
  pub room : 1 ≤ n → n ≤ 256 → length e < n → read_told_of n answers e ≡ refused_by 4 e
  pub answers_wrong : 1 ≤ n → n ≤ 256 → n ≤ length e → (length answers ≡ 39 + 9 * n → ⊥)
      → read_told_of n answers e ≡ refused_by 5 e
  pub taken : 1 ≤ n → n ≤ 256 → n ≤ length e → length answers ≡ 39 + 9 * n → (read_told_of n answers e).number ≡ 0

pub record MastersNumbers : Type 0 where
  pub write_events : (a : ℕ) (bs e : List ℕ) → WriteEvents a bs e
  pub read_events : (a n : ℕ) (e : List ℕ) → ReadEvents a n e
  pub write_told : (n : ℕ) (answers e : List ℕ) → WriteTold n answers e
  pub read_told : (n : ℕ) (answers e : List ℕ) → ReadTold n answers e
