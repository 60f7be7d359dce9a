-- SPDX-License-Identifier: Apache-2.0
-- One event on one device of a set, and on the set, from what the code finds; what each device of a set has that is fit.
use Prim.Native.Nat.{ℕ, ◌+◌, ◌/◌}
use mathlib.Core.Path.{◌≡◌, refl, ap, subst, ◌∙◌}
use mathlib.Core.Bool.{Bool, true, false, ◌||◌}
use mathlib.Core.List.{List}
use lib.Dec.{eqb, ltb}
use lib.ListN.{length}
use borrow.Author.Tests.{eqb-true}
use Rattle.wire.proofs.Tests.{and_split}
use Rattle.fm31.specs.Limits.{well_formed}
use Rattle.fm31.specs.Chip.{event_of}
use Rattle.fm31.specs.Step.{Ready, AnsweredWith, answer_byte}
use Rattle.fm31.specs.declared.Answered.{Answered}
use Rattle.fm31.proofs.Entry.{ready}
use Rattle.set_event.specs.Set.{Held, held, Together, Place, number_of, at, size_in, select_in}
use Rattle.set_event.specs.Set.{hears, own_byte, done_in}
use Rattle.set_event.specs.Make.{is_lent, is_within}
use Rattle.set_event.specs.Outcome.{SetFit}
use Rattle.set_event.specs.Code.Outcome.{Fit, HeardAs}
use Rattle.set_event.proofs.Facts.{here_is, place_has}

pub heard_here : (n v e : ℕ) → hears n v e ≡ true → ltb v n ≡ true
unfolding hears
heard_here n v e h = (and_split (ltb v n) (ltb e 8 || eqb (e / 2) (v + 4)) h).0

-- a device on the line
module _ (n v : ℕ) (h : Held) (f : Fit n v h) (k : ltb v n ≡ true) where
  pub fit_length : length h.memory ≡ size_in h
  unfolding is_lent
  fit_length = eqb-true (length h.memory) (size_in h) (here_is n v (is_lent h) f.lent k)

  both : (ltb (select_in h) 4 ≡ true) × (well_formed (size_in h) (select_in h) h.member.state ≡ true)
  unfolding is_within
  both =
      and_split (ltb (select_in h) 4) (well_formed (size_in h) (select_in h) h.member.state)
      (here_is n v (is_within h) f.within k)

  pub fit_select : ltb (select_in h) 4 ≡ true
  fit_select = both.0

  pub fit_well : well_formed (size_in h) (select_in h) h.member.state ≡ true
  fit_well = both.1

pub fit_at : (t : Together) → SetFit t → (v : Place) → Fit t.set.count (number_of v) (at v t)
fit_at t f v = record { lent = place_has is_lent t f.lent v; within = place_has is_within t f.within v }

pub fit_ready : (n v : ℕ) (h : Held) (e : ℕ) → Fit n v h → hears n v e ≡ true → Ready (size_in h) h.member.state h.memory
fit_ready n v h e f k =
    let here = heard_here n v e k in
    ready (size_in h) (select_in h) h.member.state h.memory (fit_length n v h f here) (fit_well n v h f here)

line_of : (d : Bool) → eqb (answer_byte d) 1 ≡ d
line_of true = refl
line_of false = refl

pub heard_yes : (n v : ℕ) (h : Held) (e : ℕ) (a : Answered) (m : List ℕ) → hears n v e ≡ true
    → AnsweredWith (size_in h) (select_in h) a m (done_in h (own_byte e))
    → HeardAs n v h e
    (record {
      member = record { size = h.member.size; select = h.member.select; state = a.state };
      line = eqb a.answer 1;
    })
    m
heard_yes n v h e a m k w =
    record {
      device =
          rw k (λ i. held (record {
            size = h.member.size;
            select = h.member.select;
            state = (w.result i).state;
          }) (w.memory i));
      line = rw k (ap (λ (z : Answered). eqb z.answer 1) w.result ∙ line_of _);
    }

-- the same, of the size and the event that the code worked out
pub heard_from : (n v : ℕ) (h : Held) (e z o : ℕ) (a : Answered) (m : List ℕ) → z ≡ size_in h → o ≡ own_byte e
    → hears n v e ≡ true → AnsweredWith z (select_in h) a m (event_of z (select_in h) h.member.state h.memory o)
    → HeardAs n v h e
    (record {
      member = record { size = h.member.size; select = h.member.select; state = a.state };
      line = eqb a.answer 1;
    })
    m
heard_from n v h e z o a m p q k w =
    let g = select_in h in
    heard_yes n v h e a m k
    (subst (λ (o : ℕ). AnsweredWith (size_in h) g a m (event_of (size_in h) g h.member.state h.memory o)) q
    (subst (λ (z : ℕ). AnsweredWith z g a m (event_of z g h.member.state h.memory o)) p w))

pub heard_no : (n v : ℕ) (h : Held) (e : ℕ) → hears n v e ≡ false
    → HeardAs n v h e (record { member = h.member; line = true }) h.memory
heard_no n v h e k = record { device = rw k refl; line = rw k refl }
