-- SPDX-License-Identifier: Apache-2.0
-- The loop of a list of events: what is known before each turn, why it is known after one, and the end.
use Prim.Native.Nat.{ℕ, ◌+◌, ◌<◌, ◌≤◌}
use mathlib.Core.Path.{◌≡◌, refl, ◌∙◌}
use mathlib.Core.Bool.{true}
use mathlib.Core.List.{List}
use native.Mathlib.Omega.{arith}
use lib.ListN.{length, take, drop, get_or, set, length-set}
use Rattle.fm31.specs.Limits.{well_formed}
use Rattle.fm31.specs.Run.{following}
use Rattle.fm31.specs.declared.State.{State}
use Rattle.fm31_run.specs.Seat.{ran_in, HeardInPlace, RanAt}
use Rattle.fm31_run.specs.declared.Seat.{Seat}
use Rattle.fm31_run.proofs.Seats.{over, heard_well, heard_sized, seat_more, seat_done}

module _ (z : Seat) (s₀ : State) (m₀ es a₀ : List ℕ) where
  -- what is known before a turn, of the state, the memory, the answers and the place in the list
  pub record Known (s : State) (m a : List ℕ) (i : ℕ) : Type 0 where
    pub well : well_formed z.size z.select s ≡ true
    pub sized : length m ≡ z.size
    pub within : i ≤ length es
    pub memory_length : length m ≡ length m₀
    pub answers_length : length a ≡ length a₀
    pub ran : following (take i a) (over z.place (drop i a) (ran_in z s m (drop i es))) ≡ over z.place a₀ (ran_in
        z s₀ m₀ es)

  pub record Turn : Type 0 where
    pub state : State
    pub memory : List ℕ
    pub answers : List ℕ
    pub at : ℕ
    pub known : Known state memory answers at

  pub started_known : well_formed z.size z.select s₀ ≡ true → length m₀ ≡ z.size → Known s₀ m₀ a₀ 0
  started_known w l =
      record {
        well = w;
        sized = l;
        within = omega arith;
        memory_length = refl;
        answers_length = refl;
        ran = refl;
      }

  -- before the first turn
  abbrev pub started : well_formed z.size z.select s₀ ≡ true → length m₀ ≡ z.size → Turn
  started w l = record { state = s₀; memory = m₀; answers = a₀; at = 0; known = started_known w l }

  module _ (t : Turn) (s' : State) (m' : List ℕ) (v : ℕ) (p : 0 < z.size) (h : t.at < length es)
      (g : length es ≤ length a₀)
      (e : HeardInPlace z t.state t.memory (get_or es t.at 0) (get_or t.answers t.at 0) s' v m')
      (l : length m' ≡ length t.memory) where
    pub turned_known : Known s' m' (set t.answers t.at v) (t.at + 1)
    turned_known =
        let k = t.known in
        let x = get_or es t.at 0 in
        record {
          well = rw e.state (heard_well z t.state t.memory x p k.well k.sized);
          sized = rw e.memory (heard_sized z t.state t.memory x p k.well k.sized);
          within = omega arith;
          memory_length = l ∙ k.memory_length;
          answers_length = length-set t.answers t.at v ∙ k.answers_length;
          ran =
              rw (e.state, e.memory, e.answer)
              (seat_more z t.state t.memory es t.answers t.at h (omega (arith, k.answers_length)) ∙ k.ran);
        }

    -- after one
    abbrev pub turned : Turn
    turned =
        record {
          state = s';
          memory = m';
          answers = set t.answers t.at v;
          at = t.at + 1;
          known = turned_known;
        }

  -- at the end
  pub ended : (t : Turn) → length es ≤ t.at → RanAt z s₀ m₀ es a₀ t.state t.memory t.answers
  ended t g = seat_done z s₀ t.state m₀ t.memory es a₀ t.answers t.at g t.known.ran
