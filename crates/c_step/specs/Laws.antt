-- SPDX-License-Identifier: Apache-2.0
-- What the entry for one event has to do with the list run, and when a tick says nothing (02, number 4).
--   AsTheListRun        one event leaves and answers what the list of that event does
--   is_silent            no tick; no supply; the oscillator is halted; or an invalid core
--   NothingExactly      nothing is said exactly then
--   SaysWhatChanged     what a tick says is what differs
use Rattle.std.specs.Prelude.{ℕ, ◌≡◌, Bool, true, not, ◌||◌, List, [], ◌∷◌, eqb, take}
use Rattle.bits.specs.Weight.{has}
use Rattle.calendar.specs.Highest.{changed_of}
use Rattle.calendar.specs.Next.{is_valid}
use Rattle.calendar.specs.declared.Rolled.TheVariants.{Nothing}
use Rattle.fm3130_registers.specs.Map.{OSCEN}
use Rattle.fm3130.specs.Power.{is_supplied}
use Rattle.fm3130.specs.Event.{event_of, rolled_in}
use Rattle.numbers.specs.Numbers.{accepted}
use Rattle.fm3130.specs.declared.State.{State}
use Rattle.fm3130_list.specs.Run.{outcome_of}
use Rattle.c_step.specs.Single.{single_of}

-- "Answer bytes stay the same." Of an accepted call: image, memory and answer byte, in the same buffer.
pub record SameAsList (i m : List ℕ) (e : ℕ) (t : List ℕ) : Type 0 where
  pub number : (outcome_of i m (e ∷ []) t).number ≡ accepted
  pub image : (single_of i m e t).image ≡ (outcome_of i m (e ∷ []) t).image
  pub memory : (single_of i m e t).memory ≡ (outcome_of i m (e ∷ []) t).memory
  pub answer : take 1 (single_of i m e t).told ≡ take 1 (outcome_of i m (e ∷ []) t).answers

abbrev pub AsTheListRun : Type 0
AsTheListRun = (i m : List ℕ) (e : ℕ) (t : List ℕ) → (single_of i m e t).number ≡ accepted → SameAsList i m e t

-- "A tick that does not count, or finds an invalid core, says nothing"; no other event says a field.
abbrev pub is_silent : State → ℕ → Bool
is_silent s e =
    not (eqb e 4) || (not (is_supplied s.power) || (has s.companion.registers.trim OSCEN
    || not (is_valid s.companion.core)))

pub record SilentExactly (s : State) (e : ℕ) : Type 0 where
  pub then_nothing : is_silent s e ≡ true → rolled_in s e ≡ Nothing
  pub only_then : rolled_in s e ≡ Nothing → is_silent s e ≡ true

abbrev pub NothingExactly : Type 0
NothingExactly = (s : State) (e : ℕ) → SilentExactly s e

-- "The highest field that changed": in the core after the tick, compared with the core before it.
abbrev pub SaysWhatChanged : Type 0
SaysWhatChanged =
    (s : State) (m : List ℕ) → rolled_in s 4 ≡ changed_of s.companion.core (event_of s m 4).state.companion.core
