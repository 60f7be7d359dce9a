-- SPDX-License-Identifier: Apache-2.0
-- One event for C, over the size (01, Entries: "One entry does one event on a state and the lent memory"), refusals too: it
-- is the list of that event, and what is told is its answer. `SingleSettled` is the whole outcome of the two entries.
use Rattle.std.specs.Prelude.{ℕ, List, [], ◌∷◌}
use Rattle.c_fm31.specs.Run.{RunSettled}

-- Refused by 3 where the event is above 9, by 4 where no byte is lent for the answer; bytes past it stay.
abbrev pub SingleSettled : ℕ → List ℕ → List ℕ → ℕ → List ℕ → ℕ → List ℕ → List ℕ → List ℕ → Type 0
SingleSettled size i m e t n i' m' t' = RunSettled size i m (e ∷ []) t n i' m' t'
