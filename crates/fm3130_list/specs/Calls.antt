-- SPDX-License-Identifier: Apache-2.0
-- Calls of the FM3130's list run, one after the other (01, Transfers: "in one list or in calls that hand memory and state
-- on untouched"): those of every part (crate `bus_list`).
use Rattle.std.specs.Prelude.{ℕ, List}
use Rattle.bus_list.specs.Calls as list
use Rattle.fm3130_list.specs.Run.{outcome_of}
pub use Rattle.bus_list.specs.Calls.{Left, left_of}

-- One call or more, all accepted, with these events between them, leave this.
abbrev pub Leaves : List ℕ → List ℕ → List ℕ → Left → Type 0
Leaves i m es l = list.Leaves outcome_of i m es l

-- A call with number 0 is one of the ways in which a list leaves something.
abbrev pub OneCall : Type 0
OneCall = list.OneCall outcome_of

-- However a list is cut into accepted calls, one call with the whole list leaves and answers the same.
abbrev pub CallsAsOne : Type 0
CallsAsOne = list.CallsAsOne outcome_of

-- And however the list of an accepted call is cut, the calls leave and answer the same.
abbrev pub OneAsCalls : Type 0
OneAsCalls = list.OneAsCalls outcome_of
