-- SPDX-License-Identifier: Apache-2.0
-- What one event leaves of a set, from what it leaves of each device; and that a set is refused by one answer alone.
use Prim.Native.Nat.{ℕ}
use mathlib.Core.Path.{◌≡◌, refl, sym, ap, ◌∙◌}
use mathlib.Core.Bool.{◌&&◌}
use mathlib.Core.List.{List}
use lib.Dec.{eqb}
use Rattle.std.specs.Prelude.{cond, Result, Ok, Err}
use Rattle.numbers.specs.Refusal.{number_told}
use Rattle.numbers.specs.declared.Refusal.{Refusal}
use Rattle.numbers.specs.declared.Refusal.TheVariants.{
  WrongMemory,
  WrongState,
  UnknownEvent,
  ShortAnswers,
  UnknownSelector,
  PastTheEnd,
  NotHeld,
  TooManyTicks,
  WrongCount,
  EqualSelects,
  InTransfer,
}
use Rattle.set_event.specs.Set.{Together, first, second, third, fourth, at}
use Rattle.set_event.specs.Outcome.{HappenedAs}
use Rattle.set_event.specs.Code.Outcome.{HeardAs}
use Rattle.set_event.specs.declared.Heard.{Heard}

pub happened : (t : Together) (e : ℕ) (a b c d : Heard) (k l m o : List ℕ)
    → HeardAs t.set.count 0 (at first t) e a k → HeardAs t.set.count 1 (at second t) e b l
    → HeardAs t.set.count 2 (at third t) e c m → HeardAs t.set.count 3 (at fourth t) e d o
    → HappenedAs t e
    (record {
      set = record {
        count = t.set.count;
        first = a.member;
        second = b.member;
        third = c.member;
        fourth = d.member;
      };
      line = a.line && (b.line && (c.line && d.line));
    })
    k l m o
happened t e a b c d k l m o p q r s =
    record {
      set =
          λ i. record {
            set = record {
              count = t.set.count;
              first = (p.device i).member;
              second = (q.device i).member;
              third = (r.device i).member;
              fourth = (s.device i).member;
            };
            one = (p.device i).memory;
            two = (q.device i).memory;
            three = (r.device i).memory;
            four = (s.device i).memory;
          };
      line = λ i. p.line i && (q.line i && (r.line i && s.line i));
    }

-- the answer of a number
told_by : ℕ → Result (Unit {0}) Refusal
told_by n =
    cond (eqb n 1) (Err WrongMemory)
    (cond (eqb n 2) (Err WrongState)
    (cond (eqb n 3) (Err UnknownEvent)
    (cond (eqb n 4) (Err ShortAnswers)
    (cond (eqb n 5) (Err UnknownSelector)
    (cond (eqb n 6) (Err PastTheEnd)
    (cond (eqb n 7) (Err NotHeld)
    (cond (eqb n 8) (Err TooManyTicks)
    (cond (eqb n 9) (Err WrongCount)
    (cond (eqb n 10) (Err EqualSelects)
    (cond (eqb n 11) (Err InTransfer) (Ok tt)))))))))))

told_back : (a : Result (Unit {0}) Refusal) → told_by (number_told a) ≡ a
unfolding told_by
told_back (Ok tt) = refl
told_back (Err WrongMemory) = refl
told_back (Err WrongState) = refl
told_back (Err UnknownEvent) = refl
told_back (Err ShortAnswers) = refl
told_back (Err UnknownSelector) = refl
told_back (Err PastTheEnd) = refl
told_back (Err NotHeld) = refl
told_back (Err TooManyTicks) = refl
told_back (Err WrongCount) = refl
told_back (Err EqualSelects) = refl
told_back (Err InTransfer) = refl

-- no second answer has the number of the first
pub number_told_unique : (a b : Result (Unit {0}) Refusal) → number_told a ≡ number_told b → a ≡ b
number_told_unique a b e = sym (told_back a) ∙ ap told_by e ∙ told_back b
