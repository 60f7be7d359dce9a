-- SPDX-License-Identifier: Apache-2.0
-- Every event keeps each device of a set within its limits, with all its memory.
use Prim.Native.Nat.{ℕ}
use mathlib.Core.Path.{◌≡◌}
use mathlib.Core.Bool.{true}
use lib.Dec.{ltb}
use borrow.Author.Tests.{eq-eqb}
use Rattle.bits.proofs.Cases.{by_cond}
use Rattle.wire.proofs.Tests.{and_join}
use Rattle.fm31.proofs.Entry.{event_ok, size_positive}
use Rattle.set_event.specs.Set.{Held, Together, Place, first, second, third, fourth, number_of, at, size_in}
use Rattle.set_event.specs.Set.{select_in, hears, own_byte, after_own, after_at, after_event}
use Rattle.set_event.specs.Make.{is_lent, is_within, if_here}
use Rattle.set_event.specs.Outcome.{SetFit}
use Rattle.set_event.specs.Code.Outcome.{Fit}
use Rattle.set_event.proofs.Facts.{of_here, of_places}
use Rattle.set_event.proofs.Ears.{heard_here, fit_length, fit_select, fit_well, fit_at}

-- an event keeps the limits of each device
module _ (n v : ℕ) (h : Held) (e : ℕ) (f : Fit n v h) where
  own_fit : ltb v n ≡ true → (is_lent (after_own h (own_byte e)) ≡ true) × (is_within (after_own h (own_byte e)) ≡ true)
  unfolding is_lent is_within
  own_fit k =
      let o = event_ok (size_in h) (select_in h) (size_positive h.member.size) h.member.state h.memory
      (own_byte e) (fit_well n v h f k) (fit_length n v h f k) in
      (eq-eqb _ _ o.memory, and_join _ _ (fit_select n v h f k) o.state)

  pub fit_next : Fit n v (after_at n v h e)
  fit_next =
      record {
        lent = by_cond (λ (z : Held). if_here n v (is_lent z) ≡ true) (hears n v e)
            (λ k. of_here n v _ (λ l. (own_fit (heard_here n v e k)).0)) (λ k. f.lent);
        within = by_cond (λ (z : Held). if_here n v (is_within z) ≡ true) (hears n v e)
            (λ k. of_here n v _ (λ l. (own_fit (heard_here n v e k)).1)) (λ k. f.within);
      }

module _ (t : Together) (e : ℕ) (f : SetFit t) where
  next_at : (v : Place) → Fit t.set.count (number_of v) (at v (after_event t e))
  next_at first = fit_next t.set.count 0 (at first t) e (fit_at t f first)
  next_at second = fit_next t.set.count 1 (at second t) e (fit_at t f second)
  next_at third = fit_next t.set.count 2 (at third t) e (fit_at t f third)
  next_at fourth = fit_next t.set.count 3 (at fourth t) e (fit_at t f fourth)

  pub set_fit_next : SetFit (after_event t e)
  set_fit_next =
      record {
        lent = of_places is_lent (after_event t e) (λ v. (next_at v).lent);
        within = of_places is_within (after_event t e) (λ v. (next_at v).within);
      }
