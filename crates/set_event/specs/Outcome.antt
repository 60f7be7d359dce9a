-- SPDX-License-Identifier: Apache-2.0
-- What the functions over a set ask of it, return and leave.
use Rattle.std.specs.Prelude.{ℕ, ◌≡◌, true, List}
use Rattle.set_event.specs.Set.{Together, after_event, line_to}
use Rattle.set_event.specs.Make.{is_lent, is_within, places_are}
use Rattle.set_event.specs.declared.Set.{Set}
use Rattle.set_event.specs.declared.Happened.{Happened}

-- Auxiliary: a set and four memories.
abbrev pub lent_to : Set → List ℕ → List ℕ → List ℕ → List ℕ → Together
lent_to s a b c d = record { set = s; one = a; two = b; three = c; four = d }

pub record SetFit (t : Together) : Type 0 where
  pub lent : places_are is_lent t ≡ true
  pub within : places_are is_within t ≡ true

pub record HappenedAs (t : Together) (e : ℕ) (r : Happened) (a b c d : List ℕ) : Type 0 where
  pub set : lent_to r.set a b c d ≡ after_event t e
  pub line : r.line ≡ line_to t e
