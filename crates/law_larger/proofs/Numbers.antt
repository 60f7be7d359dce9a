-- SPDX-License-Identifier: Apache-2.0
-- The family's numbers: the ways through the entry's tests, with the test of all events told by its words.
use Prim.Native.Nat.{ℕ, ◌≤◌}
use mathlib.Core.Path.{◌≡◌, refl, ap}
use mathlib.Core.Bool.{true, false, and-false}
use mathlib.Core.List.{List, [], ◌∷◌, ◌++◌}
use native.Mathlib.Omega.{arith}
use lib.Dec.{leb}
use borrow.Author.Tests.{lt-leb, leb-false}
use Rattle.wire.proofs.Tests.{by_test}
use Rattle.fm31.specs.Chip.{last_event}
use Rattle.bus_list.specs.Run as list
use Rattle.fm31_run.specs.Code.Run.{all_known}
use Rattle.c_fm31.specs.Run.{Outcome}
use Rattle.c_fm31.proofs.Runs.{outcome_wrong_memory, outcome_wrong_image, outcome_unknown_event}
use Rattle.c_fm31.proofs.Runs.{outcome_short_answers, outcome_written}
use Rattle.law_larger.specs.Numbers.{UnknownIn, EveryNumber}

-- the test finds an unknown event wherever it stands
found : (xs : List ℕ) (e : ℕ) (ys : List ℕ) → 10 ≤ e → all_known (xs ++ (e ∷ ys)) ≡ false
unfolding list.all_known
found [] e ys h = rw (lt-leb e last_event (omega arith))
found (x ∷ xs) e ys h = rw (found xs e ys h) (and-false (leb x last_event))

unknown_found : (es : List ℕ) → UnknownIn es → all_known es ≡ false
unknown_found es u = rw u.list (found u.before u.event u.rest u.unknown)

-- and finds none where there is none
behind : (x : ℕ) (es : List ℕ) → UnknownIn es → UnknownIn (x ∷ es)
behind x es u =
    record {
      before = x ∷ u.before;
      event = u.event;
      rest = u.rest;
      unknown = u.unknown;
      list = ap (λ (z : List ℕ). x ∷ z) u.list;
    }

none_found : (es : List ℕ) → (UnknownIn es → ⊥) → all_known es ≡ true
unfolding list.all_known
none_found [] n = refl
none_found (x ∷ es) n =
    by_test (leb x last_event)
    (λ t. rw (t, none_found es (λ u. n (behind x es u))))
    (λ t. let l = leb-false x last_event t in
    absurd (n (record { before = []; event = x; rest = es; unknown = omega arith; list = refl })))

pub every_number : (size : ℕ) → EveryNumber size
every_number size i m es a =
    record {
      one = outcome_wrong_memory size i m es a;
      two = outcome_wrong_image size i m es a;
      three = λ l s d u. outcome_unknown_event size i m es a l s d (unknown_found es u);
      four = λ l s d n r. outcome_short_answers size i m es a l s d (none_found es n) r;
      zero = λ l s d n r. ap (λ (o : Outcome). o.number) (outcome_written size i m es a l s d (none_found es n) r);
    }
