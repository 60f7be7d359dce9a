-- SPDX-License-Identifier: Apache-2.0
-- The search tells whether one of the ticks rings the alarm. A day is in one month, so in a month that passes a date is
-- asked for at one day alone. A property of the larger unit, found in the narrowed stretch, is found in the stretch
-- itself and the other way round. And the advanced core's fields are the quotients and remainders of its second.
use Prim.Native.Nat.{ℕ, zero, suc, min, max, ◌+◌, ◌*◌, ◌-◌, ◌/◌, ◌%◌, ◌≤◌, ◌<◌}
use mathlib.Core.Path.{◌≡◌, refl, sym, ◌∙◌, ap, subst}
use mathlib.Core.Bool.{Bool, true, false, ◌&&◌, ◌||◌}
use native.Mathlib.Omega.{arith}
use lib.Dec.{T, eqb, ltb, leb}
use borrow.Author.Tests.{eqb-true, eqb-false, lt-ltb, le-ltb, le-leb, ltb-true, ltb-false, leb-true}
use Rattle.bits.specs.Weight.{has}
use Rattle.calendar.specs.Next.{is_valid}
use Rattle.calendar.specs.Instant.{month_start, instant}
use Rattle.calendar.specs.After.{after}
use Rattle.calendar.specs.declared.Calendar.{Calendar}
use Rattle.calendar.specs.Field.{value}
use Rattle.calendar.proofs.Valid.{valid_facts}
use Rattle.law_century.proofs.Instants.{instant_below, month_start_before}
use Rattle.calendar_days.specs.Code.Places.{InMonth, day_of_second, calendar_at}
use Rattle.calendar_days.specs.declared.places.Moment.{Moment}
use Rattle.calendar_days.specs.After.{most_ticks}
use Rattle.calendar_days.proofs.Months.{in_month_unique, month_exists}
use Rattle.calendar_days.proofs.Later.{date_below, weekday_of, after_at_lem}
use Rattle.fm3130_companion.specs.declared.Alarm.{Alarm}
use Rattle.c_catch_up.specs.declared.search.Stretch.{Stretch}
use Rattle.fm3130_registers.specs.Map.{MATCH}
use Rattle.fm3130_companion.specs.Tick.{matches}
use Rattle.c_catch_up.specs.Code.Search.{passes, Asks, Some, Tells, DayRings, Narrowed, Skips}
use Rattle.c_catch_up.specs.Code.Ticks.{rung_within, TellsRung}
use Rattle.c_catch_up.proofs.Narrow.{passes_any, passes_one, one_passes}

-- true is not false
clash : {A : Type 0} (b : Bool) → b ≡ true → b ≡ false → A
clash b p q = absurd (differ (sym p ∙ q))
  where
    differ : true ≡ false → ⊥
    differ e = subst (λ (b : Bool). T b) e tt

both : {a b : Bool} → a ≡ true → b ≡ true → a && b ≡ true
both p q = rw (p, q)

split : (a b : Bool) → a && b ≡ true → (a ≡ true) × (b ≡ true)
split true b e = (refl, e)
split false b e = clash false e refl

-- one month's days
abbrev pub RingsIn : Alarm → ℕ → ℕ → Type 0
RingsIn a month d = (d < month_start (month + 1)) × DayRings a d

module _ (a : Alarm) (month from to : ℕ) (known : month < 2400) (least : month_start month ≤ from) where
  -- a day of the month that is not before `from` has no other month
  day_in : (d : ℕ) → from ≤ d → d < month_start (month + 1) → InMonth d month
  day_in d h k = record { known = known; from = omega arith; to = k }

  same : (d : ℕ) → from ≤ d → d < month_start (month + 1) → (r : DayRings a d) → r.month ≡ month
  same d h k r = in_month_unique d r.month month r.in_month (day_in d h k)

  pub rings_other : passes a.month (month % 12 + 1) ≡ false → Tells false (Some (RingsIn a month) from to)
  rings_other e =
      record {
        yes = λ p. clash false p refl;
        no =
            λ p s.
            let r = s.holds.1 in
            let k = same s.at s.from s.holds.0 r in
            clash (passes a.month (month % 12 + 1))
            (subst (λ (k : ℕ). passes a.month (k % 12 + 1) ≡ true) k r.name) e;
      }

  module _ (some : from < to) (name : passes a.month (month % 12 + 1) ≡ true) where
    -- any date: the month must not be over
    pub rings_any : has a.date MATCH ≡ true → Tells (ltb from (month_start (month + 1))) (Some (RingsIn a month) from to)
    rings_any e =
        record {
          yes =
              λ p.
              let l = ltb-true from (month_start (month + 1)) p in
              record {
                at = from;
                from = omega arith;
                to = some;
                holds = (
                  l,
                  record {
                    month = month;
                    in_month = day_in from (omega arith) l;
                    date = passes_any a.date (from - month_start month + 1) e;
                    name = name;
                  },
                );
              };
          no = λ p s. omega (arith, ltb-false from (month_start (month + 1)) p, s.from, s.holds.0);
        }

    module _ (n : ℕ) (k : Asks a.date n) (one : has a.date MATCH ≡ false) where
      abbrev end : ℕ
      end = month_start month + n

      abbrev found : Bool
      found = ltb from end && leb end (min (month_start (month + 1)) to)

      one_yes : found ≡ true → Some (RingsIn a month) from to
      one_yes p =
          let s = split (ltb from end) (leb end (min (month_start (month + 1)) to)) p in
          let l = ltb-true from end s.0 in
          let h = leb-true end (min (month_start (month + 1)) to) s.1 in
          let i = day_in (end - 1) (omega arith) (omega arith) in
          let e : end - 1 - month_start month + 1 ≡ n = omega arith in
          let w = date_below (end - 1) month i in
          record {
            at = end - 1;
            from = omega arith;
            to = omega arith;
            holds = (
              i.to,
              record {
                month = month;
                in_month = i;
                date = one_passes a.date n (end - 1 - month_start month + 1) k (omega arith) e;
                name = name;
              },
            );
          }

      one_no : Some (RingsIn a month) from to → found ≡ true
      one_no s =
          let d = s.at in
          let r = s.holds.1 in
          let i = day_in d s.from s.holds.0 in
          let w = date_below d month i in
          let p = subst (λ (k : ℕ). passes a.date (d - month_start k + 1) ≡ true) (same d s.from s.holds.0 r) r.date in
          let e = passes_one a.date n (d - month_start month + 1) k (omega arith) one p in
          let f = i.from in
          let t = i.to in
          both (lt-ltb from end (omega (arith, s.from)))
          (le-leb end (min (month_start (month + 1)) to) (omega (arith, s.to)))

      pub rings_one : Tells found (Some (RingsIn a month) from to)
      rings_one = record { yes = one_yes; no = λ p s. clash found (one_no s) p }

      -- the same by the first of its two tests
      pub rings_begun : from < end → Tells (leb end (min (month_start (month + 1)) to)) (Some (RingsIn a month) from to)
      rings_begun l = rw (lt-ltb from end l) at rings_one

      pub rings_past : end ≤ from → Tells (ltb from end) (Some (RingsIn a month) from to)
      rings_past l = rw (le-ltb from end l) (rw (le-ltb from end l) at rings_one)

-- the days of the months before, and those of one more month
pub none_more :
    (a : Alarm) (first day to month : ℕ) → ((d : ℕ) → first ≤ d → d < day → d < to → DayRings a d → ⊥)
    → (Some (RingsIn a month) day to → ⊥)
    → (d : ℕ) → first ≤ d → d < month_start (month + 1) → d < to → DayRings a d → ⊥
none_more a first day to month before here d l h k r = by_day (ltb d day) refl
  where
    by_day : (b : Bool) → ltb d day ≡ b → ⊥
    by_day true e = before d l (ltb-true d day e) k r
    by_day false e = here (record { at = d; from = ltb-false d day e; to = k; holds = (h, r) })

-- a day from the end of one month to the start of another is in a month between them
between_from : (d month k : ℕ) → InMonth d k → month_start (month + 1) ≤ d → month < k
between_from d month k m h = by_order (ltb month k) refl
  where
    by_order : (b : Bool) → ltb month k ≡ b → month < k
    by_order true e = ltb-true month k e
    by_order false e =
        let l = ltb-false month k e in
        absurd (omega (arith, month_start_before k (month + 1) (omega arith), m.to))

between_to : (d later k : ℕ) → InMonth d k → 0 < later → d < month_start later → k < later
between_to d later k m p h = by_order (ltb k later) refl
  where
    by_order : (b : Bool) → ltb k later ≡ b → k < later
    by_order true e = ltb-true k later e
    by_order false e =
        let l = ltb-false k later e in
        let s : later - 1 + 1 ≡ later = omega arith in
        absurd (omega (arith, month_start_before (later - 1) k (omega arith), ap month_start s, m.from))

-- and those of the months that are passed over
pub none_skipped :
    (a : Alarm) (first day to month later : ℕ) → ((d : ℕ) → first ≤ d → d < day → d < to → DayRings a d → ⊥)
    → (Some (RingsIn a month) day to → ⊥) → Skips a.month month later
    → (d : ℕ) → first ≤ d → d < month_start later → d < to → DayRings a d → ⊥
none_skipped a first day to month later before here s d l h k r = by_month (ltb d (month_start (month + 1))) refl
  where
    by_month : (b : Bool) → ltb d (month_start (month + 1)) ≡ b → ⊥
    by_month true e = none_more a first day to month before here d l (ltb-true d (month_start (month + 1)) e) k r
    by_month false e =
        s.none r.month (between_from d month r.month r.in_month (ltb-false d (month_start (month + 1)) e))
        (between_to d later r.month r.in_month (omega (arith, s.after)) h) r.name

-- none up to the later of two days
pub none_later :
    (a : Alarm) (first day to start : ℕ)
    → ((d : ℕ) → first ≤ d → d < day → d < to → DayRings a d → ⊥)
    → ((d : ℕ) → first ≤ d → d < start → d < to → DayRings a d → ⊥)
    → (d : ℕ) → first ≤ d → d < max day start → d < to → DayRings a d → ⊥
none_later a first day to start before skipped d l h k = by_start (ltb d start) refl
  where
    by_start : (b : Bool) → ltb d start ≡ b → DayRings a d → ⊥
    by_start true e = skipped d l (ltb-true d start e) k
    by_start false e = before d l (omega (arith, h, ltb-false d start e)) k

-- neither a date nor a month is asked for: the first day rings
pub tells_first : (a : Alarm) (first to : ℕ) → has a.date MATCH ≡ true → has a.month MATCH ≡ true → first < to → to ≤ 72000
    → Tells true (Some (DayRings a) first to)
tells_first a first to d n l h =
    let m = month_exists first (omega arith) in
    record {
      yes =
          λ p. record {
            at = first;
            from = omega arith;
            to = l;
            holds =
                record {
                  month = m.index;
                  in_month = m.in_month;
                  date = passes_any a.date (first - month_start m.index + 1) d;
                  name = passes_any a.month (m.index % 12 + 1) n;
                };
          };
      no = λ p. clash true refl p;
    }

-- all days told
pub tells_none :
    (a : Alarm) (first to : ℕ) → ((d : ℕ) → first ≤ d → d < to → DayRings a d → ⊥)
    → Tells false (Some (DayRings a) first to)
tells_none a first to f =
    record { yes = λ p. clash false p refl; no = λ p s. f s.at s.from s.to s.holds }

pub tells_some : (a : Alarm) (first day to month : ℕ) → first ≤ day → Some (RingsIn a month) day to
    → Tells true (Some (DayRings a) first to)
tells_some a first day to month l s =
    record {
      yes = λ p. record { at = s.at; from = omega (arith, s.from); to = s.to; holds = s.holds.1 };
      no = λ p. clash true refl p;
    }

-- from the larger unit to the smaller
abbrev pub Passing : ℕ → ℕ → (ℕ → Type 0) → ℕ → Type 0
Passing alarm span P x = (passes alarm (x % span) ≡ true) × P (x / span)

pub tells_narrowed :
    (alarm span : ℕ) (s r : Stretch) (P : ℕ → Type 0) {t : Bool} → Narrowed alarm span s r
    → Tells t (Some P r.from r.to) → Tells t (Some (Passing alarm span P) s.from s.to)
tells_narrowed alarm span s r P n t =
    record {
      yes =
          λ p.
          let f = t.yes p in
          let u = n.up f.at f.from f.to in
          record {
            at = u.at;
            from = u.from;
            to = u.to;
            holds = (u.holds.1, subst P (sym u.holds.0) f.holds);
          };
      no =
          λ p f.
          let d = n.down f.at f.from f.to f.holds.0 in
          t.no p (record { at = f.at / span; from = d.0; to = d.1; holds = f.holds.1 });
    }

-- an empty stretch has none
pub tells_empty : (P : ℕ → Type 0) (lo hi : ℕ) → hi ≤ lo → Tells false (Some P lo hi)
tells_empty P lo hi l =
    record { yes = λ p. clash false p refl; no = λ p s. omega (arith, s.from, s.to) }

-- the first of a narrowed stretch is not before the stretch
pub narrowed_first : (alarm span : ℕ) (s r : Stretch) → Narrowed alarm span s r → r.from < r.to
    → Some (λ x. x / span ≡ r.from) s.from s.to
narrowed_first alarm span s r n l =
    let u = n.up r.from (omega arith) l in
    record { at = u.at; from = u.from; to = u.to; holds = u.holds.0 }

-- a second rings: its three times pass, and its day rings
abbrev pub SecondRings : Alarm → ℕ → Type 0
SecondRings a =
    Passing a.seconds 60 (Passing a.minutes 60 (Passing a.hours 24 (DayRings a)))

matches_at : (a : Alarm) (i k w : ℕ) → InMonth (day_of_second i) k
    → (matches a (calendar_at i k w) ≡ true → SecondRings a i)
unfolding calendar_at
matches_at a i k w m e =
    let months = split _ (passes a.month (k % 12 + 1)) e in
    let dates = split _ (passes a.date (day_of_second i - month_start k + 1)) months.0 in
    let hours = split _ (passes a.hours (i / 60 / 60 % 24)) dates.0 in
    let minutes = split (passes a.seconds (i % 60)) (passes a.minutes (i / 60 % 60)) hours.0 in
    (minutes.0, (minutes.1, (hours.1, record { month = k; in_month = m; date = dates.1; name = months.1 })))

rings_at : (a : Alarm) (i w : ℕ) (r : SecondRings a i) → matches a (calendar_at i r.1.1.1.month w) ≡ true
unfolding calendar_at
rings_at a i w r =
    let d = r.1.1.1 in
    both (both (both (both r.0 r.1.0) r.1.1.0) d.date) d.name

-- one of the ticks 1 to n, or none
abbrev RungAt : Alarm → Calendar → ℕ → Type 0
RungAt a c j = matches a (after j c) ≡ true

or_left : (a b : Bool) → a ≡ true → a || b ≡ true
or_left a b e = rw e

or_right : (a b : Bool) → b ≡ true → a || b ≡ true
or_right true b e = refl
or_right false b e = e

or_none : {a b : Bool} → a ≡ false → b ≡ false → a || b ≡ false
or_none p q = rw (p, q)

module _ (a : Alarm) (c : Calendar) where
  rung_or : (n j : ℕ) → j < suc n + 1 → RungAt a c j → (j < n + 1 → rung_within n a c ≡ true) → (b : Bool) → eqb j (suc n) ≡ b
      → rung_within (suc n) a c ≡ true
  unfolding rung_within
  rung_or n j h r earlier true e =
      or_right (rung_within n a c) _ (subst (λ (j : ℕ). matches a (after j c) ≡ true) (eqb-true j (suc n) e) r)
  rung_or n j h r earlier false e =
      let d = eqb-false j (suc n) e in
      or_left (rung_within n a c) _ (earlier (omega arith))

  rung_some : (n j : ℕ) → 1 ≤ j → j < n + 1 → RungAt a c j → rung_within n a c ≡ true
  rung_some zero j l h r = absurd (omega arith)
  rung_some (suc n) j l h r = rung_or n j h r (λ k. rung_some n j l k r) (eqb j (suc n)) refl

  never : (b : Bool) → (b ≡ true → ⊥) → b ≡ false
  never true f = absurd (f refl)
  never false f = refl

  rung_none : (n : ℕ) → ((j : ℕ) → 1 ≤ j → j < n + 1 → RungAt a c j → ⊥) → rung_within n a c ≡ false
  unfolding rung_within
  rung_none zero f = refl
  rung_none (suc n) f =
      or_none (rung_none n (λ j l h. f j l (omega arith)))
      (never (matches a (after (suc n) c)) (f (suc n) (omega arith) (omega arith)))

module _ (a : Alarm) (c : Calendar) (v : T (is_valid c)) (n : ℕ) (small : n ≤ most_ticks) where
  abbrev start : ℕ
  start = instant c

  abbrev weekday : ℕ → ℕ
  weekday j = weekday_of (value c.day) (instant c) (instant c + j)

  rung_rings : (j : ℕ) → j ≤ n → RungAt a c j → SecondRings a (start + j)
  rung_rings j h r =
      let l = instant_below c (valid_facts c v) in
      let k = month_exists (day_of_second (start + j)) (omega arith) in
      matches_at a (start + j) k.index (weekday j) k.in_month
      (subst (λ (x : Calendar). matches a x ≡ true) (after_at_lem c v j k.index k.in_month) r)

  rings_rung : (j : ℕ) → SecondRings a (start + j) → RungAt a c j
  rings_rung j r =
      let d = r.1.1.1 in
      subst (λ (x : Calendar). matches a x ≡ true) (sym (after_at_lem c v j d.month d.in_month))
      (rings_at a (start + j) (weekday j) r)

  -- the search over the seconds tells whether a tick rings
  pub tells_rung : (t : Bool) → Tells t (Some (SecondRings a) (start + 1) (start + 1 + n)) → t ≡ rung_within n a c
  tells_rung true t =
      let s = t.yes refl in
      let lo = s.from in
      let hi = s.to in
      let e : s.at ≡ start + (s.at - start) = omega arith in
      sym (rung_some a c n (s.at - start) (omega arith) (omega arith)
      (rings_rung (s.at - start) (subst (SecondRings a) e s.holds)))
  tells_rung false t =
      sym (rung_none a c n (λ j l h r. t.no refl
      (record {
        at = start + j;
        from = omega arith;
        to = omega arith;
        holds = rung_rings j (omega arith) r;
      })))

-- the same where it is known where the core stands
pub rung_by : (a : Alarm) (m : Moment) (n : ℕ) (t : Bool) → n ≤ most_ticks
    → Tells t (Some (SecondRings a) (m.day * 86400 + m.second + 1) (m.day * 86400 + m.second + 1 + n)) → TellsRung n a m t
rung_by a m n t small u c v e =
    tells_rung a c v n small t
    (subst (λ (m : Moment). Tells t (Some (SecondRings a) (m.day * 86400 + m.second + 1) (m.day * 86400 + m.second + 1 + n))) e u)
