-- SPDX-License-Identifier: Apache-2.0
-- Events laid into a buffer from a place on: auxiliary to the contracts of the functions that lay them.
use Rattle.std.specs.Prelude.{ℕ, ◌+◌, ◌≡◌, List, length}
use Rattle.std.proofs.lemmas.List.Edits.{sets}

-- The place after them, and the buffer, which is as it was elsewhere.
pub record Laid (e : List ℕ) (at : ℕ) (xs : List ℕ) (r : ℕ) (e' : List ℕ) : Type 0 where
  pub place : r ≡ at + length xs
  pub buffer : e' ≡ sets e at xs
