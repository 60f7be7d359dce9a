-- SPDX-License-Identifier: Apache-2.0
-- What the laws of calls speak of: all that a list run asks of a part, together, with its definitions at it; and what is
-- asked of the part's images: one that is read holds a state that is within its limits and writes it, a state within its
-- limits is read from the image that it writes, and no image is read otherwise.
use Prim.Native.Nat.{ℕ}
use mathlib.Core.Path.{◌≡◌}
use mathlib.Core.List.{List}
use Rattle.std.specs.Prelude.{Option, Some, None}
use Rattle.numbers.specs.Numbers.{wrong_state}
use Rattle.bus_list.specs.Run.{Stepped, Ended}
use Rattle.bus_list.specs.Outcome as outcome

-- one event on a state and the memory, the image of a state, the memory's size, the last event byte; and of reading an
-- image the number and the state, if any
pub record Lists : Type 1 where
  pub State : Type 0
  pub after : State → List ℕ → ℕ → Stepped State
  pub image_of : State → List ℕ
  pub size : ℕ
  pub last : ℕ
  pub number : List ℕ → ℕ
  pub returned : List ℕ → Option State

abbrev pub written : (L : Lists) → Ended L.State → List ℕ → List ℕ → outcome.Outcome
written L r es a = outcome.written L.image_of r es a

abbrev pub outcome_of : Lists → List ℕ → List ℕ → List ℕ → List ℕ → outcome.Outcome
outcome_of L i m es a =
    outcome.outcome_of L.after L.image_of L.size L.last (L.number i) (L.returned i) i m es a

pub record Reads (L : Lists) : Type 1 where
  pub Ok : L.State → Type 0
  pub Read : List ℕ → L.State → Type 0
  pub Unread : List ℕ → Type 0
  pub or_not : {X : Type 0} (i : List ℕ) → ((s : L.State) → Read i s → X) → (Unread i → X) → X
  pub some_read : (i : List ℕ) (s : L.State) → Read i s → L.returned i ≡ Some s
  pub none_read : (i : List ℕ) → Unread i → L.returned i ≡ None
  pub number : (i : List ℕ) → Unread i → L.number i ≡ wrong_state
  pub again : (s : L.State) → Ok s → Read (L.image_of s) s
  pub ok : (i : List ℕ) (s : L.State) → Read i s → Ok s
  pub image : (i : List ℕ) (s : L.State) → Read i s → L.image_of s ≡ i
