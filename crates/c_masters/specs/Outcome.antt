-- SPDX-License-Identifier: Apache-2.0
-- The whole outcomes of an ask and of a master's call (02, number 8: "is refused with a new number 7, tested after number 3
-- and before number 4, and changes nothing"). What a call does to the device is the list run's own outcome.
--   AskOutcome, ask_on, ask_of                       an ask
--   CallOutcome, refused_call, ran_call, call_on, call_of   a call
--   AskSettled, CallSettled                        the entries' contracts
use Rattle.std.specs.Prelude.{ℕ, ◌≡◌, Bool, true, false, cond, List, [], ◌∷◌, eqb, length, Option, Some, None}
use Rattle.numbers.specs.Numbers.{accepted, wrong_memory, wrong_state, unknown_event, not_held}
use Rattle.fm3130.specs.Chip.{memory_size}
use Rattle.fm3130.specs.declared.State.{State}
use Rattle.fm3130_image.specs.Image.{decode_of}
use Rattle.fm3130_list.specs.Run.{Outcome, refused, outcome_of, all_known}
use Rattle.c_run.specs.Run.{outcome_with}
use Rattle.c_run.specs.declared.Ran.{Ran}
use Rattle.masters_hold.specs.Bus.{may_ask, may_call, master_number, standing_of, bus_freed}
use Rattle.masters_hold.specs.declared.Standing.{Standing}

-- What a caller can see of an ask: its number, and the lent byte.
pub record AskOutcome : Type 0 where
  pub number : ℕ
  pub bus : List ℕ

-- "An ask while the other holds it .. is refused .. and changes nothing."
abbrev pub ask_on : Option Standing → List ℕ → AskOutcome
ask_on None b = record { number = wrong_state; bus = b }
ask_on (Some s) b =
    cond (may_ask s.holder s.master) (record { number = accepted; bus = master_number s.master ∷ [] })
    (record { number = not_held; bus = b })

unfoldable pub ask_of : List ℕ → ℕ → AskOutcome
ask_of b x = ask_on (standing_of b x) b

-- What a caller can see of a master's call: all of the list run, and the lent byte.
pub record CallOutcome : Type 0 where
  pub run : Outcome
  pub bus : List ℕ

-- "Changes nothing."
abbrev pub refused_call : ℕ → List ℕ → List ℕ → List ℕ → List ℕ → CallOutcome
refused_call n b i m a = record { run = refused n i m a; bus = b }

-- "The bus is freed when an answered call ends whose last Stop, event 5 or event 6 has no Start after it."
abbrev pub bus_after : ℕ → List ℕ → List ℕ → List ℕ
bus_after n es b = cond (eqb n accepted) (bus_freed es b) b

-- The list run's own outcome, number 4 with it.
abbrev pub ran_call : Outcome → List ℕ → List ℕ → CallOutcome
ran_call o es b = record { run = o; bus = bus_after o.number es b }

-- Number 7 after number 3.
abbrev pub call_on : Option Standing → List ℕ → List ℕ → List ℕ → List ℕ → List ℕ → CallOutcome
call_on None b i m es a = refused_call wrong_state b i m a
call_on (Some s) b i m es a =
    cond (all_known es)
    (cond (may_call s.holder s.master es) (ran_call (outcome_of i m es a) es b) (refused_call not_held b i m a))
    (refused_call unknown_event b i m a)

-- Auxiliary: whether a well-formed state writes an image.
abbrev pub is_good : Option State → Bool
is_good None = false
is_good (Some s) = true

-- Numbers 1 and 2 first, then whether the lent byte and the master exist.
unfoldable pub call_of : List ℕ → ℕ → List ℕ → List ℕ → List ℕ → List ℕ → CallOutcome
call_of b x i m es a =
    cond (eqb (length m) memory_size)
    (cond (is_good (decode_of i)) (call_on (standing_of b x) b i m es a) (refused_call wrong_state b i m a))
    (refused_call wrong_memory b i m a)

-- The contract of `fm3130_ask`.
abbrev pub AskSettled : List ℕ → ℕ → ℕ → List ℕ → Type 0
AskSettled b x n b' = record { number = n; bus = b' } ≡ ask_of b x

-- The contract of `fm3130_call`: what it returns and leaves in the five buffers is `call_of` of what it was given.
abbrev pub CallSettled : List ℕ → ℕ → List ℕ → List ℕ → List ℕ → List ℕ → Ran → List ℕ → List ℕ → List ℕ → List ℕ → Type 0
CallSettled b x i m es a r b' i' m' a' = record { run = outcome_with r i' m' a'; bus = b' } ≡ call_of b x i m es a
