-- SPDX-License-Identifier: Apache-2.0
-- Of two devices of a set one is idle, or both are in the same slave byte (`Clear`), and a device without main power is
-- idle; every event byte keeps both.
use Prim.Native.Nat.{ℕ, ◌≤◌}
use mathlib.Core.Path.{◌≡◌, refl, sym, ap, subst, ◌∙◌}
use mathlib.Core.Bool.{Bool, true, false, cond}
use mathlib.Core.List.{List, [], ◌∷◌}
use native.Mathlib.Omega.{arith}
use lib.Dec.{ltb, eqb}
use borrow.Author.Tests.{ne_eqb}
use Rattle.bits.proofs.Cases.{by_cond}
use Rattle.wire.specs.Memory.{lent}
use Rattle.wire.specs.declared.Side.{Side}
use Rattle.wire.specs.declared.Named.{Named}
use Rattle.wire.specs.declared.Phase.{Phase}
use Rattle.wire.specs.declared.Phase.TheVariants.{Idle}
use Rattle.wire.proofs.Tests.{by_test}
use Rattle.fm31_counters.specs.declared.Counters.{Counters}
use Rattle.bus.specs.Select.{slave_names_for}
use Rattle.bus.specs.Desk.{part_of}
use Rattle.bus.specs.Happening.{Happening, on_wire, beat, lost, gone, returned, happening, edges}
use Rattle.bus.specs.Event.{event_on}
use Rattle.bus.specs.declared.Beat.{Beat}
use Rattle.bus.specs.declared.Beat.TheVariants.{Cnt1, Cnt2}
use Rattle.bus.specs.declared.Bus.{Bus}
use Rattle.bus.specs.declared.Power.{Power}
use Rattle.bus.specs.declared.Power.TheVariants.{On, Backup, Off}
use Rattle.law_merging.specs.Party.{to, foreign, MayName}
use Rattle.fm31.specs.Chip.{companion31}
use Rattle.law_wired.proofs.Pulls.{Clear, this_idle, that_idle, line_clear}
use Rattle.set_event.specs.Set.{Held, Together, Place, number_of, at, size_in, select_in, hears, own_byte, after_own}
use Rattle.set_event.specs.Set.{after_at, after_event, after_events}
use Rattle.law_ensemble.specs.Transaction.{Here}
use Rattle.law_ensemble.specs.Stand.{bus_in}
use Rattle.law_set.proofs.Heard.{at_after}
use Rattle.law_ensemble.proofs.Transaction.{other_names}
use Rattle.law_ensemble.proofs.Demand.{named_answers}

-- a device without main power is idle
abbrev pub OffIdle : Power → Phase → Type 0
OffIdle On p = Unit {0}
OffIdle Backup p = p ≡ Idle
OffIdle Off p = p ≡ Idle

pub clear_this : (p r : Phase) → p ≡ Idle → Clear p r
clear_this p r e = subst (λ (z : Phase). Clear z r) (sym e) this_idle

pub clear_that : (p r : Phase) → r ≡ Idle → Clear p r
clear_that p r e = subst (λ (z : Phase). Clear p z) (sym e) that_idle

-- one event on two parts with different select bits
module _ (y z : ℕ) (a b : ℕ) (never : (x : Side) (n : ℕ) → MayName (to x) (slave_names_for a n) → MayName foreign
    (slave_names_for b n)) where
  next_clear : (p q : Power) (h : Happening) (u r : Bus) (c d : Counters) (m n : List ℕ) → Clear u.phase r.phase
      → OffIdle p u.phase → OffIdle q r.phase
      → Clear (event_on y (slave_names_for a) companion31 p h u c m).bus.phase (event_on z (slave_names_for b) companion31 q h r d n).bus.phase
  unfolding event_on
  next_clear On On (on_wire x) u r c d m n k o w =
      line_clear (part_of y (slave_names_for a) companion31) (part_of z (slave_names_for b) companion31) never u.phase r.phase (lent m u.address) c
      (lent n r.address) d x k
  next_clear On Backup (on_wire x) u r c d m n k o w = clear_that _ _ w
  next_clear On Off (on_wire x) u r c d m n k o w = clear_that _ _ w
  next_clear Backup On (on_wire x) u r c d m n k o w = clear_this _ _ o
  next_clear Backup Backup (on_wire x) u r c d m n k o w = k
  next_clear Backup Off (on_wire x) u r c d m n k o w = k
  next_clear Off On (on_wire x) u r c d m n k o w = clear_this _ _ o
  next_clear Off Backup (on_wire x) u r c d m n k o w = k
  next_clear Off Off (on_wire x) u r c d m n k o w = k
  next_clear On On (beat t) u r c d m n k o w = k
  next_clear On Backup (beat t) u r c d m n k o w = k
  next_clear On Off (beat t) u r c d m n k o w = k
  next_clear Backup On (beat t) u r c d m n k o w = k
  next_clear Backup Backup (beat t) u r c d m n k o w = k
  next_clear Backup Off (beat t) u r c d m n k o w = k
  next_clear Off On (beat t) u r c d m n k o w = k
  next_clear Off Backup (beat t) u r c d m n k o w = k
  next_clear Off Off (beat t) u r c d m n k o w = k
  next_clear On q lost u r c d m n k o w = this_idle
  next_clear Backup q lost u r c d m n k o w = clear_this _ _ o
  next_clear Off q lost u r c d m n k o w = clear_this _ _ o
  next_clear On q gone u r c d m n k o w = this_idle
  next_clear Backup q gone u r c d m n k o w = this_idle
  next_clear Off q gone u r c d m n k o w = clear_this _ _ o
  next_clear On On returned u r c d m n k o w = k
  next_clear On Backup returned u r c d m n k o w = k
  next_clear On Off returned u r c d m n k o w = k
  next_clear Backup On returned u r c d m n k o w = k
  next_clear Backup Backup returned u r c d m n k o w = k
  next_clear Backup Off returned u r c d m n k o w = k
  next_clear Off On returned u r c d m n k o w = k
  next_clear Off Backup returned u r c d m n k o w = k
  next_clear Off Off returned u r c d m n k o w = k

-- one event on one part
module _ (y a : ℕ) where
  same_off : (u : Bus) (p : Power) → u.power ≡ p → OffIdle p u.phase → OffIdle u.power u.phase
  same_off u p e o = subst (λ (w : Power). OffIdle w u.phase) (sym e) o

  off_next : (p : Power) (h : Happening) (u : Bus) (c : Counters) (m : List ℕ) → u.power ≡ p → OffIdle p u.phase
      → OffIdle (event_on y (slave_names_for a) companion31 p h u c m).bus.power (event_on y (slave_names_for a) companion31 p h u c m).bus.phase
  unfolding event_on
  off_next On (on_wire x) u c m e o = tt
  off_next On (beat t) u c m e o = same_off u On e o
  off_next On lost u c m e o = refl
  off_next On gone u c m e o = refl
  off_next On returned u c m e o = same_off u On e o
  off_next Backup (on_wire x) u c m e o = same_off u Backup e o
  off_next Backup (beat t) u c m e o = same_off u Backup e o
  off_next Backup lost u c m e o = same_off u Backup e o
  off_next Backup gone u c m e o = refl
  off_next Backup returned u c m e o = tt
  off_next Off (on_wire x) u c m e o = same_off u Off e o
  off_next Off (beat t) u c m e o = same_off u Off e o
  off_next Off lost u c m e o = same_off u Off e o
  off_next Off gone u c m e o = same_off u Off e o
  off_next Off returned u c m e o = tt

  beat_keeps : (p : Power) (t : Beat) (u : Bus) (c : Counters) (m : List ℕ) → (event_on y (slave_names_for a) companion31 p (beat t) u c m
      ).bus ≡ u
  unfolding event_on
  beat_keeps On t u c m = refl
  beat_keeps Backup t u c m = refl
  beat_keeps Off t u c m = refl

abbrev pub OffIn : Held → Type 0
OffIn h = OffIdle (bus_in h).power (bus_in h).phase

-- an edge leaves the bus as it is
beat_of_lem : (b : Bool) → cond b (beat Cnt1) (beat Cnt2) ≡ beat (cond b Cnt1 Cnt2)
beat_of_lem true = refl
beat_of_lem false = refl

edge_is : (n : ℕ) → 8 ≤ n → happening edges n ≡ beat (cond (eqb n 8) Cnt1 Cnt2)
unfolding happening
edge_is n h =
    rw (
      ne_eqb n 0 (λ e. omega (arith, e)),
      ne_eqb n 1 (λ e. omega (arith, e)),
      ne_eqb n 2 (λ e. omega (arith, e)),
      ne_eqb n 3 (λ e. omega (arith, e)),
      ne_eqb n 4 (λ e. omega (arith, e)),
      ne_eqb n 5 (λ e. omega (arith, e)),
      ne_eqb n 6 (λ e. omega (arith, e)),
      ne_eqb n 7 (λ e. omega (arith, e)),
    ) (beat_of_lem (eqb n 8))

edge_keeps : (h : Held) (n : ℕ) → 8 ≤ n → bus_in (after_own h n) ≡ bus_in h
edge_keeps h n g =
    let s = h.member.state in
    ap (λ (x : Happening). (event_on (size_in h) (slave_names_for (select_in h)) companion31 s.bus.power x s.bus s.counters h.memory).bus) (edge_is n g)
    ∙ beat_keeps (size_in h) (select_in h) s.bus.power _ s.bus s.counters h.memory

own_edge : (e : ℕ) → ltb e 8 ≡ false → 8 ≤ own_byte e
unfolding own_byte
own_edge e f = rw f (omega arith)

kept_by_edge : (n v : ℕ) (h : Held) (e : ℕ) → ltb e 8 ≡ false → bus_in (after_at n v h e) ≡ bus_in h
kept_by_edge n v h e f =
    by_cond (λ (k : Held). bus_in k ≡ bus_in h) (hears n v e) (λ g. edge_keeps h (own_byte e) (own_edge e f)) (λ g. refl)

-- all others reach every device on the line, as they are
all_hear : (n v e : ℕ) → ltb v n ≡ true → ltb e 8 ≡ true → hears n v e ≡ true
unfolding hears
all_hear n v e a b = rw (a, b)

own_is : (e : ℕ) → ltb e 8 ≡ true → own_byte e ≡ e
unfolding own_byte
own_is e b = rw b

heard_is : (n v : ℕ) (h : Held) (e : ℕ) → ltb v n ≡ true → ltb e 8 ≡ true → after_at n v h e ≡ after_own h e
heard_is n v h e a b = rw (all_hear n v e a b, own_is e b) refl

select_kept : (n v : ℕ) (h : Held) (e : ℕ) → select_in (after_at n v h e) ≡ select_in h
select_kept n v h e = by_cond (λ (k : Held). select_in k ≡ select_in h) (hears n v e) (λ g. refl) (λ g. refl)

pub record Calm (h k : Held) : Type 0 where
  pub unlike : select_in h ≡ select_in k → ⊥
  pub clear : Clear (bus_in h).phase (bus_in k).phase
  pub this_off : OffIn h
  pub that_off : OffIn k

pub never_both : (h k : Held) → (select_in h ≡ select_in k → ⊥) → (x : Side) (n : ℕ) → MayName (to x) (slave_names_for
    (select_in h) n) → MayName foreign (slave_names_for (select_in k) n)
never_both h k d x n m =
    subst (λ (z : Named). MayName foreign z)
    (sym (other_names (select_in h) (select_in k) n d (named_answers x (slave_names_for (select_in h) n) m)))
    tt

off_own : (h : Held) (e : ℕ) → OffIn h → OffIn (after_own h e)
off_own h e o =
    let s = h.member.state in
    off_next (size_in h) (select_in h) s.bus.power (happening edges e) s.bus s.counters h.memory refl o

calm_own : (h k : Held) (e : ℕ) → Calm h k → Calm (after_own h e) (after_own k e)
calm_own h k e c =
    let s = h.member.state in
    let r = k.member.state in
    record {
      unlike = c.unlike;
      clear =
          next_clear (size_in h) (size_in k) (select_in h) (select_in k) (never_both h k c.unlike) s.bus.power
          r.bus.power (happening edges e) s.bus r.bus s.counters r.counters h.memory k.memory c.clear
          c.this_off c.that_off;
      this_off = off_own h e c.this_off;
      that_off = off_own k e c.that_off;
    }

calm_edge : (n v w : ℕ) (h k : Held) (e : ℕ) → ltb e 8 ≡ false → Calm h k → Calm (after_at n v h e) (after_at n w k e)
calm_edge n v w h k e f c =
    let p = kept_by_edge n v h e f in
    let q = kept_by_edge n w k e f in
    record {
      unlike = λ g. c.unlike (sym (select_kept n v h e) ∙ (g ∙ select_kept n w k e));
      clear =
          subst (λ (z : Bus). Clear z.phase (bus_in (after_at n w k e)).phase) (sym p)
          (subst (λ (z : Bus). Clear (bus_in h).phase z.phase) (sym q) c.clear);
      this_off = subst (λ (z : Bus). OffIdle z.power z.phase) (sym p) c.this_off;
      that_off = subst (λ (z : Bus). OffIdle z.power z.phase) (sym q) c.that_off;
    }

calm_at : (n v w : ℕ) (h k : Held) (e : ℕ) → ltb v n ≡ true → ltb w n ≡ true → Calm h k
    → Calm (after_at n v h e) (after_at n w k e)
calm_at n v w h k e a b c =
    by_test (ltb e 8)
    (λ t. subst (λ (z : Held). Calm z (after_at n w k e)) (sym (heard_is n v h e a t))
    (subst (λ (z : Held). Calm (after_own h e) z) (sym (heard_is n w k e b t)) (calm_own h k e c)))
    (λ f. calm_edge n v w h k e f c)

pub calm_run : (t : Together) (es : List ℕ) (v w : Place) → Here t v → Here t w → Calm (at v t) (at w t)
    → Calm (at v (after_events t es)) (at w (after_events t es))
calm_run t [] v w a b c = c
calm_run t (e ∷ es) v w a b c =
    calm_run (after_event t e) es v w a b
    (subst (λ (z : Held). Calm z (at w (after_event t e))) (sym (at_after t v e))
    (subst (λ (z : Held). Calm (after_at t.set.count (number_of v) (at v t) e) z) (sym (at_after t w e))
    (calm_at t.set.count (number_of v) (number_of w) (at v t) (at w t) e a b c)))

-- of one device alone
off_at : (n v : ℕ) (h : Held) (e : ℕ) → OffIn h → OffIn (after_at n v h e)
off_at n v h e o = by_cond OffIn (hears n v e) (λ g. off_own h (own_byte e) o) (λ g. o)

pub off_run : (t : Together) (es : List ℕ) (v : Place) → OffIn (at v t) → OffIn (at v (after_events t es))
off_run t [] v o = o
off_run t (e ∷ es) v o =
    off_run (after_event t e) es v
    (subst OffIn (sym (at_after t v e)) (off_at t.set.count (number_of v) (at v t) e o))
