-- SPDX-License-Identifier: Apache-2.0
-- Calls of a list run, whichever it is, one after the other, each on the image and the memory that the one before it left (01,
-- Transfers: "in one list or in calls that hand memory and state on untouched"). However a list is cut into such calls,
-- they leave and answer what one call with the whole list leaves and answers.
--   Call, events_in                     a call's own two buffers; the list that is cut into calls
--   Left, left_of                       what a call leaves and answers
--   calls_of, AllAccepted               calls, one after the other; all of them get number 0
--   Leaves                             a list, as one accepted call or cut into several, leaves this
--   OneCall, CallsAsOne, OneAsCalls    the statements
use Rattle.std.specs.Prelude.{ℕ, ◌≤◌, ◌≡◌, List, [], ◌∷◌, ◌++◌, length, take}
use Rattle.numbers.specs.Numbers.{accepted}
use Rattle.bus_list.specs.Outcome.{Outcome}

-- The two buffers that a call has for itself; image and memory are handed on.
pub record Call : Type 0 where
  pub events : List ℕ
  pub answers : List ℕ

-- The list that is cut into these calls.
abbrev pub events_in : List Call → List ℕ
events_in [] = []
events_in (c ∷ cs) = c.events ++ events_in cs

-- Image and memory, and the answers that were given.
pub record Left : Type 0 where
  pub image : List ℕ
  pub memory : List ℕ
  pub answers : List ℕ

-- Of a call: its answers are as many bytes as its count says; the others of its buffer are not its own.
abbrev pub left_of : Outcome → Left
left_of o = record { image = o.image; memory = o.memory; answers = take o.count o.answers }

-- Auxiliary: a call, and what the calls after it leave and answer.
abbrev pub onward : Left → Left → Left
onward first rest = record { image = rest.image; memory = rest.memory; answers = first.answers ++ rest.answers }

-- No answers are shorter than their events.
abbrev pub AllRoom : List Call → Type 0
AllRoom [] = Unit {0}
AllRoom (c ∷ cs) = (length c.events ≤ length c.answers) × AllRoom cs

module _ (run : List ℕ → List ℕ → List ℕ → List ℕ → Outcome) where
  -- "Calls that hand memory and state on untouched."
  abbrev pub calls_of : List ℕ → List ℕ → List Call → Left
  calls_of i m [] = record { image = i; memory = m; answers = [] }
  calls_of i m (c ∷ cs) =
      let o = run i m c.events c.answers in onward (left_of o) (calls_of o.image o.memory cs)

  -- Every one of them gets number 0.
  abbrev pub AllAccepted : List ℕ → List ℕ → List Call → Type 0
  AllAccepted i m [] = Unit {0}
  AllAccepted i m (c ∷ cs) =
      let o = run i m c.events c.answers in
      (o.number ≡ accepted) × AllAccepted o.image o.memory cs

  -- One call or more, all accepted, with these events between them, leave this.
  pub record Leaves (i m es : List ℕ) (l : Left) : Type 0 where
    pub first : Call
    pub more : List Call
    pub cut : events_in (first ∷ more) ≡ es
    pub all : AllAccepted i m (first ∷ more)
    pub result : calls_of i m (first ∷ more) ≡ l

  -- A call with number 0 is one of the ways in which a list leaves something.
  abbrev pub OneCall : Type 0
  OneCall =
      (i m es a : List ℕ) → (run i m es a).number ≡ accepted → Leaves i m es (left_of (run i m es a))

  -- However a list is cut into accepted calls: one call with the whole list and room for its answers is accepted, and
  -- leaves and answers the same.
  abbrev pub CallsAsOne : Type 0
  CallsAsOne =
      (i m es a : List ℕ) (l : Left) → Leaves i m es l → length es ≤ length a
      → ((run i m es a).number ≡ accepted) × (left_of (run i m es a) ≡ l)

  -- And however the list of an accepted call is cut, each call with room for its answers: all are accepted, and they
  -- leave and answer the same.
  abbrev pub OneAsCalls : Type 0
  OneAsCalls =
      (i m a : List ℕ) (cs : List Call) → AllRoom cs → (run i m (events_in cs) a).number ≡ accepted
      → AllAccepted i m cs × (calls_of i m cs ≡ left_of (run i m (events_in cs) a))
