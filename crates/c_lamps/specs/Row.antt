-- SPDX-License-Identifier: Apache-2.0
-- A row of Clocks of one byte, up to its eighth. All is auxiliary: the entry's contract speaks of the whole list.
--   Clocks         every event of a list is a Clock
--   gathered_over   a byte read from the memory, gathered from answers
--   rowed_by        the byte under way after a row, by phase and clocks as numbers
--   Row, RowDone   what makes a row, and what it leaves, whatever the lamps are
use Rattle.std.specs.Prelude.{ℕ, ◌+◌, ◌/◌, ◌<◌, ◌≤◌, ◌≡◌, Bool, false, cond, List, [], ◌∷◌, eqb, length}
use Rattle.fm3130.specs.declared.State.{State}
use Rattle.wire_clocks.specs.Clocks.{is_high}
use Rattle.fm3130_list.specs.Run.{RanThrough}
use Rattle.lamps_eight.specs.declared.Lamps.{Lamps}
use Rattle.lamps.specs.Log.{clocks_of}
use Rattle.lamps.specs.Step.{following, gathered_at}
use Rattle.lamps.specs.Statement.{proven_by}
use Rattle.lamps.specs.declared.Follower.{Follower}
use Rattle.lamps.specs.declared.Proving.{Proving}

abbrev pub Clocks : List ℕ → Type 0
Clocks [] = Unit {0}
Clocks (e ∷ es) = (e / 2 ≡ 1) × Clocks es

-- From so many clocks done and what they gathered, with the memory's address.
abbrev pub gathered_over : ℕ → Follower → ℕ → List ℕ → Follower
gathered_over k f a [] = f
gathered_over k f a (x ∷ xs) = gathered_over (k + 1) (gathered_at k f a false (is_high x)) a xs

-- Of a byte from the memory, phase number 7, the record keeps more than whether it was refused.
abbrev pub rowed_by : ℕ → ℕ → Follower → ℕ → Bool → List ℕ → Follower
rowed_by n k f a w xs =
    cond (eqb n 7) (following w (gathered_over k f a xs).place (gathered_over k f a xs).byte) (following w 0 0)

pub record Row (s : State) (f : Follower) (es : List ℕ) : Type 0 where
  pub unrefused : f.refused ≡ false
  pub clocks : Clocks es
  pub some : 0 < length es
  pub few : clocks_of s.phase + length es ≤ 8

abbrev pub proving_of : Follower → Lamps → Proving
proving_of f l = record { follower = f; lamps = l }

pub record RowDone (s : State) (f : Follower) (m es a : List ℕ) (r : Follower) (i' m' a' : List ℕ) : Type 0 where
  pub ran : RanThrough s m es a i' m' a'
  pub proving : (l : Lamps) → proving_of r l ≡ proven_by (proving_of f l) s m es
