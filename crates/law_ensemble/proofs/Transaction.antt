-- SPDX-License-Identifier: Apache-2.0
-- A whole transaction of one device leaves the others as they were, and the line is that device's.
use Prim.Native.Nat.{ℕ, ◌-◌, ◌*◌}
use mathlib.Core.Path.{◌≡◌, refl, sym, ap, subst, ◌∙◌}
use mathlib.Core.Bool.{Bool, true, false, cond, ◌&&◌}
use mathlib.Core.List.{List, [], ◌∷◌}
use lib.Dec.{eqb, ltb}
use borrow.Author.Tests.{eqb-true, ne_eqb}
use Rattle.wire.specs.Slave.{slave_names, answers}
use Rattle.wire.specs.Memory.{lent}
use Rattle.wire.specs.Machine.{Parts, Line, start, stop, clock, lined, masters_line}
use Rattle.wire.specs.declared.Named.{Named}
use Rattle.wire.specs.declared.Named.TheVariants.{Nobody}
use Rattle.wire.specs.declared.Phase.{Phase}
use Rattle.wire.specs.declared.Phase.TheVariants.{Idle}
use Rattle.bus.specs.Select.{select_of, slave_names_for}
use Rattle.bus.specs.Desk.{Desks, part_of}
use Rattle.bus.specs.Happening.{happening}
use Rattle.bus.specs.Event.{Done, done, done_of, event_on, event_of}
use Rattle.bus.specs.declared.Bus.{Bus}
use Rattle.bus.specs.declared.Power.{Power}
use Rattle.bus.specs.declared.Power.TheVariants.{On, Backup, Off}
use Rattle.law_merging.specs.Merge.{Reader, between, next, MayStand}
use Rattle.law_merging.specs.Party.{foreign, MayName}
use Rattle.law_merging.proofs.Stands.{Byte, Stands, stands_next}
use Rattle.law_merging.proofs.Own.{foreign_own}
use Rattle.law_wired.proofs.Wire.{stand_as, line_below, by_bool, not_true}
use Rattle.fm31.specs.Chip.{companion31}
use Rattle.fm31.specs.Step.{state_of}
use Rattle.set_event.specs.Set.{Held, held, Together, Place, first, second, third, fourth, number_of, at, size_in}
use Rattle.set_event.specs.Set.{select_in, hears, own_byte, done_in, after_own, after_at, line_at, after_event, line_to}
use Rattle.set_event.specs.Set.{lines_to}
use Rattle.law_ensemble.specs.Alone.{heard_by, alone, alone_lines}
use Rattle.law_ensemble.specs.Transaction.{line_byte, line_bytes, WholeLines, NamesIt, same_place, Here}
use Rattle.law_ensemble.specs.Transaction.{Unlike, TransactionLeaves, TransactionLine}
use Rattle.law_set.proofs.Heard.{at_after}
use Rattle.law_ensemble.proofs.Alone.{as_alone}

-- a byte that names a part names no part with other select bits
no_two : (a b : ℕ) (n : Named) (x y : Bool) → eqb a b ≡ x → answers (cond x n Nobody) ≡ true → x ≡ true
unfolding answers
no_two a b n true y e h = refl
no_two a b n false y e h = h

pub other_names : (own other b : ℕ) → (own ≡ other → ⊥) → answers (slave_names_for own b) ≡ true → slave_names_for other
    b ≡ Nobody
unfolding slave_names_for
other_names own other b d h =
    let e : select_of b ≡ own = eqb-true (select_of b) own (no_two (select_of b) own (slave_names (b - 2 * select_of b))
    (eqb (select_of b) own) true refl h) in
    rw (ne_eqb (select_of b) other (λ f. d (sym e ∙ f)))

-- one event of others' transactions, on a part with main power: the phase alone moves, and the line is the master's
module _ (size : ℕ) (names : ℕ → Named) (D : Desks) where
  abbrev pub P : Parts
  P = part_of size names D

  abbrev pub next_phase : Phase → ℕ → D.Desk → List ℕ → Line → Phase
  next_phase p a c m x = (lined P p (lent m a) c x).state.phase

  pub line_event : (p : Phase) (a : ℕ) (c : D.Desk) (m : List ℕ) (x : Line)
      → event_of size names D (record { power = On; phase = p; address = a }) c m (line_byte x)
      ≡ done_of size names D (lined P p (lent m a) c x)
  unfolding happening event_on
  line_event p a c m start = refl
  line_event p a c m stop = refl
  line_event p a c m (clock false) = refl
  line_event p a c m (clock true) = refl

  foreign_event : (q : Reader) (p : Phase) (a : ℕ) (c : D.Desk) (m : List ℕ) (x : Line) → MayStand (Byte P foreign)
      q x → Stands P foreign q p
      → event_of size names D (record { power = On; phase = p; address = a }) c m (line_byte x)
      ≡ done size names D (record { power = On; phase = next_phase p a c m x; address = a }) c m (masters_line x)
  foreign_event q p a c m x w s =
      line_event p a c m x ∙ ap (done_of size names D) (foreign_own P (lent m a) c q p x w s)

  backup_event : (u : Bus) (c : D.Desk) (m : List ℕ) (x : Line) → u.power ≡ Backup
      → event_of size names D u c m (line_byte x) ≡ done size names D u c m (masters_line x)
  unfolding happening event_on
  backup_event u c m start e = rw e refl
  backup_event u c m stop e = rw e refl
  backup_event u c m (clock false) e = rw e refl
  backup_event u c m (clock true) e = rw e refl

  off_event : (u : Bus) (c : D.Desk) (m : List ℕ) (x : Line) → u.power ≡ Off
      → event_of size names D u c m (line_byte x) ≡ done size names D u c m (masters_line x)
  unfolding happening event_on
  off_event u c m start e = rw e refl
  off_event u c m stop e = rw e refl
  off_event u c m (clock false) e = rw e refl
  off_event u c m (clock true) e = rw e refl

abbrev pub power_in : Held → Power
power_in h = h.member.state.bus.power

abbrev pub phase_in : Held → Phase
phase_in h = h.member.state.bus.phase

abbrev pub part_in : Held → Parts
part_in h = part_of (size_in h) (slave_names_for (select_in h)) companion31

-- a powered device in another phase
abbrev pub phased : Held → Phase → Held
phased h p =
    held
    (record {
      size = h.member.size;
      select = h.member.select;
      state = record {
        bus = record { power = On; phase = p; address = h.member.state.bus.address };
        counters =
            h.member.state.counters;
      };
    })
    h.memory

phased_is : (h : Held) (p : Phase) → power_in h ≡ On → phase_in h ≡ p → phased h p ≡ h
phased_is h p e f =
    λ i. held
    (record {
      size = h.member.size;
      select = h.member.select;
      state = record {
        bus = record { power = sym e i; phase = sym f i; address = h.member.state.bus.address };
        counters = h.member.state.counters;
      };
    })
    h.memory

abbrev pub left : (h : Held) → Done (size_in h) (slave_names_for (select_in h)) companion31 → Held
left h d = held (record { size = h.member.size; select = h.member.select; state = state_of d }) d.memory

-- where a device stands in others' transactions: as it was, but for its phase
abbrev pub Rests : Power → Held → Reader → Held → Type 0
Rests On h q k = (p : Phase) × (k ≡ phased h p) × Stands (part_in h) foreign q p
Rests Backup h q k = k ≡ h
Rests Off h q k = k ≡ h

rests_first : (w : Power) (h : Held) → power_in h ≡ w → phase_in h ≡ Idle → Rests w h between h
rests_first On h e f = (Idle, sym (phased_is h Idle e f), refl)
rests_first Backup h e f = refl
rests_first Off h e f = refl

rests_last : (w : Power) (h k : Held) → power_in h ≡ w → phase_in h ≡ Idle → Rests w h between k → k ≡ h
rests_last On h k e f r = r.1 ∙ phased_is h r.0 e (f ∙ sym r.2)
rests_last Backup h k e f r = r
rests_last Off h k e f r = r

rests_next : (w : Power) (h k : Held) (q : Reader) (x : Line) → power_in h ≡ w → MayStand (Byte (part_in h) foreign) q
    x
    → Rests w h q k → Rests w h (next q x) (after_own k (line_byte x)) × ((done_in k (line_byte x)).line ≡ masters_line x)
rests_next On h k q x e m r =
    let p = r.0 in
    let c = h.member.state.counters in
    let a = h.member.state.bus.address in
    let o = foreign_event (size_in h) (slave_names_for (select_in h)) companion31 q p a c h.memory x m r.2 in
    let p' = next_phase (size_in h) (slave_names_for (select_in h)) companion31 p a c h.memory x in (
      (
        p',
        ap (λ (z : Held). after_own z (line_byte x)) r.1 ∙ ap (left h) o,
        stands_next (part_in h) (lent h.memory a) c foreign q p x m r.2,
      ),
      ap (λ (z : Held). (done_in z (line_byte x)).line) r.1 ∙ ap (λ d. d.line) o,
    )
rests_next Backup h k q x e m r =
    let o = backup_event (size_in h) (slave_names_for (select_in h)) companion31 h.member.state.bus
    h.member.state.counters
    h.memory x e in (
      ap (λ (z : Held). after_own z (line_byte x)) r ∙ ap (left h) o,
      ap (λ (z : Held). (done_in z (line_byte x)).line) r
          ∙ ap (λ d. d.line) o,
    )
rests_next Off h k q x e m r =
    let o = off_event (size_in h) (slave_names_for (select_in h)) companion31 h.member.state.bus
    h.member.state.counters
    h.memory x e in (
      ap (λ (z : Held). after_own z (line_byte x)) r ∙ ap (left h) o,
      ap (λ (z : Held). (done_in z (line_byte x)).line) r
          ∙ ap (λ d. d.line) o,
    )

-- a device whose line is high has a master whose line is
line_below_in : (w : Power) (h : Held) (x : Line) → power_in h ≡ w → (done_in h (line_byte x)).line ≡ true → masters_line
    x ≡ true
line_below_in On h x e t =
    let p = phase_in h in
    let c = h.member.state.counters in
    let a = h.member.state.bus.address in
    let o = line_event (size_in h) (slave_names_for (select_in h)) companion31 p a c h.memory x in
    let k : phased h p ≡ h = phased_is h p e refl in
    line_below (part_in h) p (lent h.memory a) c x
    (sym (ap (λ d. d.line) o) ∙ (ap (λ (z : Held). (done_in z (line_byte x)).line) k ∙ t))
line_below_in Backup h x e t =
    sym (ap (λ d. d.line) (backup_event (size_in h) (slave_names_for (select_in h)) companion31 h.member.state.bus h.member.state.counters h.memory x e)) ∙ t
line_below_in Off h x e t =
    sym (ap (λ d. d.line) (off_event (size_in h) (slave_names_for (select_in h)) companion31 h.member.state.bus
    h.member.state.counters h.memory x e)) ∙ t

-- others' whole transactions leave a device as it was
left_run : (w : Power) (h k : Held) (q : Reader) (xs : List Line) → power_in h ≡ w → phase_in h ≡ Idle → Rests w h q k
    → WholeLines (Byte (part_in h) foreign) q xs → alone k (line_bytes xs) ≡ h
left_run w h k q [] e f r m = rests_last w h k e f (subst (λ (z : Reader). Rests w h z k) m r)
left_run w h k q (x ∷ xs) e f r m =
    left_run w h (after_own k (line_byte x)) (next q x) xs e f (rests_next w h k q x e m.0 r).0 m.1

-- Start, Stop and Clock reach every device on the line, and no other
pub line_own : (x : Line) → own_byte (line_byte x) ≡ line_byte x
unfolding own_byte
line_own start = refl
line_own stop = refl
line_own (clock false) = refl
line_own (clock true) = refl

and_right : (a : Bool) → (a && true) ≡ a
and_right true = refl
and_right false = refl

pub line_heard : (n v : ℕ) (x : Line) → hears n v (line_byte x) ≡ ltb v n
unfolding hears
line_heard n v start = and_right (ltb v n)
line_heard n v stop = and_right (ltb v n)
line_heard n v (clock false) = and_right (ltb v n)
line_heard n v (clock true) = and_right (ltb v n)

heard_here : (n v : ℕ) (xs : List Line) → ltb v n ≡ true → heard_by n v (line_bytes xs) ≡ line_bytes xs
heard_here n v [] e = refl
heard_here n v (x ∷ xs) e = rw (line_heard n v x, e, line_own x) (ap (λ (z : List ℕ). line_byte x ∷ z) (heard_here n
    v xs e))

heard_away : (n v : ℕ) (xs : List Line) → ltb v n ≡ false → heard_by n v (line_bytes xs) ≡ []
heard_away n v [] e = refl
heard_away n v (x ∷ xs) e = rw (line_heard n v x, e) (heard_away n v xs e)

whole_as : (Own Good : ℕ → Type 0) → ((b : ℕ) → Own b → Good b) → (q : Reader) (xs : List Line) → WholeLines Own q
    xs → WholeLines Good q xs
whole_as Own Good f q [] h = h
whole_as Own Good f q (x ∷ xs) h = (stand_as Own Good f q x h.0, whole_as Own Good f (next q x) xs h.1)

-- a byte that names one device is a foreign one to each other
module _ (t : Together) (u : Unlike t) (i v : Place) (hi : Here t i) (hv : Here t v) (d : same_place i v ≡ false)
  where
    foreign_byte : (b : ℕ) → NamesIt (at i t) b → Byte (part_in (at v t)) foreign b
    foreign_byte b e =
        subst (λ (z : Named). MayName foreign z) (sym (other_names (select_in (at i t)) (select_in (at v t)) b (u i v hi
        hv d) e)) tt

pub transaction_leaves : TransactionLeaves
transaction_leaves t i v xs b u hi w d =
    let n = t.set.count in
    as_alone t v (line_bytes xs)
    ∙ by_bool (ltb (number_of v) n)
    (λ hv. ap (alone (at v t)) (heard_here n (number_of v) xs hv)
    ∙ left_run (power_in (at v t)) (at v t) (at v t) between xs refl (b v hv) (rests_first (power_in (at v t)) (at v
    t) refl (b v hv))
    (whole_as (NamesIt (at i t)) (Byte (part_in (at v t)) foreign) (foreign_byte t u i v hi hv d) between xs w))
    (λ hv. ap (alone (at v t)) (heard_away n (number_of v) xs hv))

-- the device at a place
pub place_is : (v w : Place) → same_place v w ≡ true → v ≡ w
place_is first first e = refl
place_is first second e = not_true e
place_is first third e = not_true e
place_is first fourth e = not_true e
place_is second first e = not_true e
place_is second second e = refl
place_is second third e = not_true e
place_is second fourth e = not_true e
place_is third first e = not_true e
place_is third second e = not_true e
place_is third third e = refl
place_is third fourth e = not_true e
place_is fourth first e = not_true e
place_is fourth second e = not_true e
place_is fourth third e = not_true e
place_is fourth fourth e = refl

-- the line of four
abbrev pub and_all : (Place → Bool) → Bool
and_all f = f first && (f second && (f third && f fourth))

pub all_high_four : (f : Place → Bool) → ((v : Place) → f v ≡ true) → and_all f ≡ true
all_high_four f h = rw (h first, h second, h third, h fourth)

-- one that is low of four
pub low_one : (a b c d : Bool) → a ≡ false → (a && (b && (c && d))) ≡ false
low_one a b c d e = rw e

pub low_two : (a b c d : Bool) → b ≡ false → (a && (b && (c && d))) ≡ false
low_two true b c d e = rw e
low_two false b c d e = refl

pub low_three : (a b c d : Bool) → c ≡ false → (a && (b && (c && d))) ≡ false
low_three true true c d e = rw e
low_three true false c d e = refl
low_three false b c d e = refl

pub low_four : (a b c d : Bool) → d ≡ false → (a && (b && (c && d))) ≡ false
low_four true true true d e = e
low_four true true false d e = refl
low_four true false c d e = refl
low_four false b c d e = refl

pub one_low_four : (f : Place → Bool) (v : Place) → f v ≡ false → and_all f ≡ false
one_low_four f first e = low_one (f first) (f second) (f third) (f fourth) e
one_low_four f second e = low_two (f first) (f second) (f third) (f fourth) e
one_low_four f third e = low_three (f first) (f second) (f third) (f fourth) e
one_low_four f fourth e = low_four (f first) (f second) (f third) (f fourth) e

all_one_four : (f : Place → Bool) (i : Place) (d : Bool) → ((v : Place) → same_place i v ≡ false → d ≡ true → f v ≡
    true)
    → (f i ≡ true → d ≡ true) → and_all f ≡ f i
all_one_four f i d others below =
    by_bool (f i)
    (λ e. all_high_four f (λ v. by_bool (same_place i v) (λ k. ap f (sym (place_is i v k)) ∙ e) (λ k. others v k
    (below e))) ∙ sym e)
    (λ e. one_low_four f i e ∙ sym e)

-- Start, Stop and Clock on one device of a set
module _ (n v : ℕ) (h : Held) (x : Line) where
  pub after_here : ltb v n ≡ true → after_at n v h (line_byte x) ≡ after_own h (line_byte x)
  after_here e = rw (line_heard n v x, e, line_own x) refl

  pub line_here : ltb v n ≡ true → line_at n v h (line_byte x) ≡ (done_in h (line_byte x)).line
  line_here e = rw (line_heard n v x, e, line_own x) refl

  pub line_away : ltb v n ≡ false → line_at n v h (line_byte x) ≡ true
  line_away e = rw (line_heard n v x, e) refl

module _ (Own : ℕ → Type 0) (base : Place → Held) (i : Place) where
  -- all but the device i rest in its transaction
  abbrev Rest : Reader → Together → Type 0
  Rest q t = (v : Place) → Here t v → same_place i v ≡ false → Rests (power_in (base v)) (base v) q (at v t)

  module _ (q : Reader) (t : Together) (r : Rest q t)
      (f : (v : Place) → Here t v → same_place i v ≡ false → (b : ℕ) → Own b → Byte (part_in (base v)) foreign b)
      (x : Line) (m : MayStand Own q x) where
    moved : (v : Place) (hv : Here t v) (d : same_place i v ≡ false)
        → Rests (power_in (base v)) (base v) (next q x) (after_own (at v t) (line_byte x)) × ((done_in (at v t) (line_byte
        x)).line ≡ masters_line x)
    moved v hv d =
        rests_next (power_in (base v)) (base v) (at v t) q x refl (stand_as Own (Byte (part_in (base v)) foreign) (f v
        hv d) q x m) (r v hv d)

    rest_next : Rest (next q x) (after_event t (line_byte x))
    rest_next v hv d =
        subst (Rests (power_in (base v)) (base v) (next q x))
        (sym (at_after t v (line_byte x) ∙ after_here t.set.count (number_of v) (at v t) x hv)) (moved v hv d).0

    one_line : Here t i → line_to t (line_byte x) ≡ (done_in (at i t) (line_byte x)).line
    one_line hi =
        let n = t.set.count in
        all_one_four (λ v. line_at n (number_of v) (at v t) (line_byte x)) i (masters_line x)
        (λ v d e. by_bool (ltb (number_of v) n)
        (λ hv. line_here n (number_of v) (at v t) x hv ∙ ((moved v hv d).1 ∙ e))
        (λ hv. line_away n (number_of v) (at v t) x hv))
        (λ e. line_below_in (power_in (at i t)) (at i t) x refl (sym (line_here n (number_of i) (at i t) x hi) ∙ e))
        ∙ line_here n (number_of i) (at i t) x hi

  lines_run : (q : Reader) (t : Together) (xs : List Line) → Rest q t
      → ((v : Place) → Here t v → same_place i v ≡ false → (b : ℕ) → Own b → Byte (part_in (base v)) foreign b)
      → Here t i → WholeLines Own q xs → lines_to t (line_bytes xs) ≡ alone_lines (at i t) (line_bytes xs)
  lines_run q t [] r f hi w = refl
  lines_run q t (x ∷ xs) r f hi w =
      let this = one_line q t r f x w.0 hi in
      let rest =
      lines_run (next q x) (after_event t (line_byte x)) xs (rest_next q t r f x w.0) f hi w.1
      ∙ ap (λ (h : Held). alone_lines h (line_bytes xs)) (at_after t i (line_byte x) ∙ after_here t.set.count
      (number_of i) (at i t) x hi) in
      λ j. this j ∷ rest j

pub transaction_line : TransactionLine
transaction_line t i xs b u hi w =
    lines_run (NamesIt (at i t)) (λ v. at v t) i between t xs
    (λ v hv d. rests_first (power_in (at v t)) (at v t) refl (b v hv)) (λ v hv d. foreign_byte t u i v hi hv d) hi w
