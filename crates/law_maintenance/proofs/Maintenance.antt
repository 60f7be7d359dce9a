-- SPDX-License-Identifier: Apache-2.0
-- What maintenance may rely on.
use Prim.Native.Nat.{ℕ, zero, suc, ◌+◌, ◌≤◌}
use mathlib.Core.Path.{◌≡◌, refl, sym, ap, ◌∙◌}
use mathlib.Core.Bool.{Bool, true, false, cond, not, and-false, false≢true}
use mathlib.Core.List.{List, [], ◌∷◌, ◌++◌, append_assoc}
use native.Mathlib.Omega.{arith}
use lib.Dec.{eqb, ltb}
use lib.ListN.{replicate}
use borrow.Author.Tests.{eqb-true, eqb-false, lt-ltb, le-ltb, not-true}
use Rattle.wire.specs.Machine.{start, stop, clock}
use Rattle.wire.specs.declared.Phase.{Phase}
use Rattle.wire.specs.declared.Phase.TheVariants.{Idle}
use Rattle.wire.proofs.Tests.{by_test, and_split, and_join}
use Rattle.bus_limits.specs.Limits.{is_idle}
use Rattle.bus.specs.declared.Power.{Power}
use Rattle.bus.specs.declared.Power.TheVariants.{On, Backup, Off}
use Rattle.fm3130.specs.Event.{Happening, on_wire, beat, second, lost, gone, returned, happening, event_on, event_of}
use Rattle.fm3130.specs.declared.State.{State}
use Rattle.fm3130_list.specs.Run.{run_of}
use Rattle.fm3130_list.proofs.Pieces.{run_append}
use Rattle.lamps.specs.History.{Moment, History, moment, past_of}
use Rattle.lamps.specs.Log.{clocks_of, refused_at, refused_by, refused_in, pulls, gave_at, gave_what, is_part, ninth, mark_from, mark_of, log_of}
use Rattle.lamps_eight.specs.Lit.{lamp_address, is_stop, is_tick, none, count, Last, nothing, gave, read_in, decided, lit_from}
use Rattle.lamps.specs.Step.{pulls_of}
use Rattle.lamps.specs.Statement.{deserved, logged}
use Rattle.law_maintenance.specs.Maintenance.{reported, Unpowered, Hung, Unacknowledged, is_tick_event, is_stop_event, ticks_in, no_stop, Silent, is_nothing, unread, Unread, ReadAsOne}
use Rattle.lamps_eight.specs.declared.Mark.{Mark}
use Rattle.lamps_eight.specs.declared.Mark.TheVariants.{Failed, Ended, Ticked, Gave, Other}
use Rattle.lamps.specs.declared.Due.{Due}
use Rattle.lamps.specs.declared.Due.TheVariants.{Value, Silence, Acknowledge}
use Rattle.lamps.proofs.Events.{is_start_lem, is_stop_lem, is_clock_lem, is_second, lost_fails}
use Rattle.lamps.proofs.Byte.{three, pulls_idle}
use Rattle.lamps_eight.proofs.Words.{lit_words, words_lit}
use Rattle.lamps.proofs.Proven.{proven}

-- the history of a list in two pieces
pub past_append : (h : History) (s : State) (m xs ys : List ℕ)
    → past_of h s m (xs ++ ys) ≡ past_of (past_of h s m xs) (run_of s m xs).state (run_of s m xs).memory ys
unfolding run_of
past_append h s m [] ys = refl
past_append h s m (e ∷ xs) ys = past_append (moment s m e ∷ h) (event_of s m e).state (event_of s m e).memory xs ys

-- a failure darkens all
pub failed_dark : (l : List Mark) → deserved (Failed ∷ l) ≡ 0
unfolding lit_from
failed_dark l = refl

fails_dark : (x : Moment) (h : History) → mark_of x h ≡ Failed → deserved (log_of (x ∷ h)) ≡ 0
fails_dark x h e = rw e (failed_dark (log_of h))

-- the report after one event more
last_event_lem : (s : State) (m es : List ℕ) (e : ℕ) → s.phase ≡ Idle
    → mark_of (moment (run_of s m es).state (run_of s m es).memory e) (past_of [] s m es) ≡ Failed
    → reported s m (es ++ (e ∷ [])) ≡ 0
last_event_lem s m es e i f =
    proven s m (es ++ (e ∷ [])) i
    ∙ (rw (past_append [] s m es (e ∷ [])) (fails_dark (moment (run_of s m es).state (run_of s m es).memory e) (past_of [] s m es) f))

pub unpowered : Unpowered
unpowered s m es e i l u = last_event_lem s m es e i (lost_fails e _ _ _ _ _ l (omega arith))

-- ticks leave the transfer where it is
tick_phase_on : (p : Power) (s : State) (m : List ℕ) → (event_on p second s m).state.phase ≡ s.phase
unfolding event_on
tick_phase_on On s m = refl
tick_phase_on Backup s m = refl
tick_phase_on Off s m = refl

four : happening 4 ≡ second
four = is_second 4 refl

tick_phase : (s : State) (m : List ℕ) → (event_of s m 4).state.phase ≡ s.phase
tick_phase s m = rw four (tick_phase_on s.power s m)

ticks_phase : (n : ℕ) (s : State) (m : List ℕ) → (run_of s m (replicate n 4)).state.phase ≡ s.phase
unfolding run_of
ticks_phase zero s m = refl
ticks_phase (suc n) s m = ticks_phase n (event_of s m 4).state (event_of s m 4).memory ∙ tick_phase s m

ticks_refused : (n : ℕ) (h : History) (s : State) (m : List ℕ) → refused_in (past_of h s m (replicate n 4)) ≡ refused_in h
unfolding refused_in
ticks_refused zero h s m = refl
ticks_refused (suc n) h s m =
    ticks_refused n (moment s m 4 ∷ h) (event_of s m 4).state (event_of s m 4).memory ∙ (rw four)

is_part_lem : (k : ℕ) → 1 ≤ k → k ≤ 8 → is_part k ≡ true
is_part_lem k l u = and_join (ltb 0 k) (ltb k 9) (lt-ltb 0 k (omega arith)) (lt-ltb k 9 (omega arith))

-- a Start or Stop inside a byte
part_fails : (e k : ℕ) (d : Due) (p : Bool) (a v : ℕ) → e ≤ 1 → is_part k ≡ true → mark_from (happening e) k d p a v ≡ Failed
part_fails e k d p a v l q =
    by_test (eqb e 0) (λ t. rw (is_start_lem e (eqb-true e 0 t), q))
    (λ t. let n = eqb-false e 0 t in rw (is_stop_lem e (omega arith), q))

phase_after : (s : State) (m xs ys : List ℕ)
    → (run_of s m (xs ++ ys)).state.phase ≡ (run_of (run_of s m xs).state (run_of s m xs).memory ys).state.phase
phase_after s m xs ys = rw (run_append s m xs ys)

part_of : (r : Bool) (k : ℕ) → 1 ≤ k → k ≤ 8 → is_part (cond r 8 k) ≡ true
part_of true k l u = is_part_lem 8 (omega arith) (omega arith)
part_of false k l u = is_part_lem k l u

pub hung : Hung
hung s m es n e i l u b =
    let all = es ++ replicate n 4 in
    let same : (run_of s m all).state.phase ≡ (run_of s m es).state.phase =
    phase_after s m es (replicate n 4) ∙ ticks_phase n (run_of s m es).state (run_of s m es).memory in
    let k = clocks_of (run_of s m all).state.phase in
    let low : 1 ≤ k = rw same l in
    let high : k ≤ 8 = rw same u in
    rw (← append_assoc es (replicate n 4) (e ∷ []))
    (last_event_lem s m all e i (part_fails e _ _ _ _ _ b (part_of (refused_in (past_of [] s m all)) k low high)))

-- a Clock, Start or Stop where an acknowledge is due and is not given
refused_fails : (e : ℕ) (a v : ℕ) → e ≤ 3 → mark_from (happening e) 8 Acknowledge false a v ≡ Failed
refused_fails e a v l =
    by_test (eqb e 0) (λ t. part_fails e 8 Acknowledge false a v (let q = eqb-true e 0 t in omega arith) refl)
    (λ t. by_test (eqb e 1) (λ u. part_fails e 8 Acknowledge false a v (let q = eqb-true e 1 u in omega arith) refl)
    (λ u. rw (is_clock_lem e (eqb-false e 0 t) (eqb-false e 1 u) (omega arith))))

idle_pulls : (x : Moment) → x.state.phase ≡ Idle → pulls x ≡ false
idle_pulls x q =
    let p = x.state.power in
    let i : is_idle x.state.phase ≡ true = rw q in
    let z : pulls_of p x.state.phase ≡ pulls x = rw three (pulls_idle x p i) in
    sym z ∙ off p x.state.phase i
  where
    off : (p : Power) (f : Phase) → is_idle f ≡ true → pulls_of p f ≡ false
    off On f i = rw i
    off Backup f i = refl
    off Off f i = refl

clock_refuses : (d : Bool) (a b : Bool) → refused_by (happening (cond d 3 2)) a b ≡ a
unfolding happening
clock_refuses true a b = refl
clock_refuses false a b = refl

refused_marks : (x : Moment) (h : History) → refused_in h ≡ true → x.state.phase ≡ Idle → x.event ≤ 3 → mark_of x h ≡ Failed
refused_marks x h r q l = rw (r, idle_pulls x q) (refused_fails x.event (gave_at h) (gave_what h) l)

pub unacknowledged : Unacknowledged
unfolding run_of refused_in
unacknowledged s m es d n e i k o l =
    let c : ℕ = cond d 3 2 in
    let rest = c ∷ replicate n 4 in
    let all = es ++ rest in
    let S = (run_of s m es).state in
    let M = (run_of s m es).memory in
    let H = past_of [] s m es in
    let out : (event_of S M c).state.phase ≡ Idle = sym (phase_after s m es (c ∷ [])) ∙ o in
    let still : (run_of s m all).state.phase ≡ Idle =
    phase_after s m es rest ∙ (ticks_phase n (event_of S M c).state (event_of S M c).memory ∙ out) in
    let at : refused_at (moment S M c) ≡ true =
    and_join (eqb (clocks_of S.phase) 7) (is_idle (event_of S M c).state.phase) (rw k) (rw out) in
    let waits : refused_in (past_of [] s m all) ≡ true =
    ap refused_in (past_append [] s m es rest)
    ∙ (ticks_refused n (moment S M c ∷ H) (event_of S M c).state (event_of S M c).memory
    ∙ (clock_refuses d (refused_at (moment S M c)) (refused_in H) ∙ at)) in
    rw (← append_assoc es rest (e ∷ []))
    (last_event_lem s m all e i
    (refused_marks (moment (run_of s m all).state (run_of s m all).memory e) (past_of [] s m all) waits still l))

-- silence: what a list of events adds to the log
ninth_plain : (d : Due) (p : Bool) (a v : ℕ) → (is_stop (ninth d p a v) ≡ false) × (is_tick (ninth d p a v) ≡ false)
ninth_plain Value p a v = (refl, refl)
ninth_plain Silence p a v = (refl, refl)
ninth_plain Acknowledge true a v = (refl, refl)
ninth_plain Acknowledge false a v = (refl, refl)

mark_tick : (y : Happening) (k : ℕ) (d : Due) (p : Bool) (a v : ℕ) → is_tick (mark_from y k d p a v) ≡ is_tick_event y
mark_tick (on_wire start) k d p a v = by_test (is_part k) (λ q. rw q) (λ q. rw q)
mark_tick (on_wire stop) k d p a v = by_test (is_part k) (λ q. rw q) (λ q. rw q)
mark_tick (on_wire (clock z)) k d p a v = by_test (eqb k 8) (λ q. rw q (ninth_plain d p a v).1) (λ q. rw q)
mark_tick (beat t') k d p a v = refl
mark_tick lost k d p a v = refl
mark_tick gone k d p a v = refl
mark_tick returned k d p a v = refl

mark_stop : (y : Happening) (k : ℕ) (d : Due) (p : Bool) (a v : ℕ) → is_stop_event y ≡ false
    → is_stop (mark_from y k d p a v) ≡ false
mark_stop (on_wire start) k d p a v e = by_test (is_part k) (λ q. rw q) (λ q. rw q)
mark_stop (on_wire stop) k d p a v e = absurd (false≢true (sym e))
mark_stop (on_wire (clock z)) k d p a v e = by_test (eqb k 8) (λ q. rw q (ninth_plain d p a v).0) (λ q. rw q)
mark_stop (beat t') k d p a v e = refl
mark_stop lost k d p a v e = refl
mark_stop gone k d p a v e = refl
mark_stop returned k d p a v e = refl

-- with three ticks after them, lines decide nothing but dark
old_stop : (q : Last) (t : ℕ) (older : Bool) → 3 ≤ t → older ≡ false → decided q t older ≡ false
old_stop nothing t older h e = e
old_stop (gave v) t older h e = rw (le-ltb t 3 h) (and-false (eqb v 1))

old_dark : (at t : ℕ) (l : List Mark) → 3 ≤ t → lit_from at t l ≡ false
unfolding lit_from
old_dark at t [] h = refl
old_dark at t (Failed ∷ l) h = refl
old_dark at t (Ended ∷ l) h = old_stop (read_in at l) t (lit_from at t l) h (old_dark at t l h)
old_dark at t (Ticked ∷ l) h = old_dark at (suc t) l (omega arith)
old_dark at t (Gave a v ∷ l) h = old_dark at t l h
old_dark at t (Other ∷ l) h = old_dark at t l h

-- a Stop that ends no read of the byte decides nothing
undecided : (q : Last) (t : ℕ) (older : Bool) → is_nothing q ≡ true → decided q t older ≡ older
undecided nothing t older e = refl
undecided (gave v) t older e = absurd (false≢true e)

unread_dark : (at t : ℕ) (q l : List Mark) → unread at q l ≡ true → 3 ≤ t + count is_tick q → lit_from at t (q ++ l) ≡ false
unfolding lit_from
unread_dark at t [] l n h = old_dark at t l (omega arith)
unread_dark at t (Failed ∷ q) l n h = refl
unread_dark at t (Ended ∷ q) l n h =
    let both = and_split (is_nothing (read_in at (q ++ l))) (unread at q l) n in
    undecided (read_in at (q ++ l)) t (lit_from at t (q ++ l)) both.0 ∙ unread_dark at t q l both.1 h
unread_dark at t (Ticked ∷ q) l n h = unread_dark at (suc t) q l n (omega arith)
unread_dark at t (Gave a v ∷ q) l n h = unread_dark at t q l n h
unread_dark at t (Other ∷ q) l n h = unread_dark at t q l n h

pub unread_lamp : Unread
unread_lamp k newer older n h = unread_dark (lamp_address k) 0 newer older n (omega arith)

-- without a Stop nothing is wholly read
stopless_unread : (at : ℕ) (q l : List Mark) → none is_stop q ≡ true → unread at q l ≡ true
stopless_unread at [] l n = refl
stopless_unread at (x ∷ q) l n =
    let both = and_split (not (is_stop x)) (none is_stop q) n in
    rw (not-true (is_stop x) both.0) (stopless_unread at q l both.1)

-- a list of events with no Stop adds its ticks, and no Stop
record Adds (es : List ℕ) (l l' : List Mark) : Type 0 where
  pub lines : List Mark
  pub whole : l' ≡ lines ++ l
  pub ticks : count is_tick lines ≡ ticks_in es
  pub stops : none is_stop lines ≡ true

none_append : (xs : List Mark) (x : Mark) → none is_stop xs ≡ true → is_stop x ≡ false → none is_stop (xs ++ (x ∷ [])) ≡ true
none_append [] x n s = rw s
none_append (y ∷ xs) x n s =
    let both = and_split (not (is_stop y)) (none is_stop xs) n in
    and_join (not (is_stop y)) (none is_stop (xs ++ (x ∷ []))) both.0 (none_append xs x both.1 s)

count_append : (xs : List Mark) (x : Mark) → count is_tick (xs ++ (x ∷ [])) ≡ cond (is_tick x) (suc (count is_tick xs)) (count is_tick xs)
count_append [] x = refl
count_append (y ∷ xs) x =
    by_test (is_tick y)
    (λ q. rw (q, count_append xs x) (by_test (is_tick x) (λ u. rw u) (λ u. rw u)))
    (λ q. rw (q, count_append xs x))

adds : (es : List ℕ) (h : History) (s : State) (m : List ℕ) → no_stop es ≡ true
    → Adds es (log_of h) (log_of (past_of h s m es))
adds [] h s m n = record { lines = []; whole = refl; ticks = refl; stops = refl }
adds (e ∷ es) h s m n =
    let x = moment s m e in
    let y = mark_of x h in
    let both = and_split (not (is_stop_event (happening e))) (no_stop es) n in
    let r = adds es (x ∷ h) (event_of s m e).state (event_of s m e).memory both.1 in
    let plain : is_stop_event (happening e) ≡ false = not-true (is_stop_event (happening e)) both.0 in
    record {
      lines = r.lines ++ (y ∷ []);
      whole = r.whole ∙ sym (append_assoc r.lines (y ∷ []) (log_of h));
      ticks = count_append r.lines y ∙ (rw (mark_tick (happening e) _ _ _ _ _, r.ticks) refl);
      stops = none_append r.lines y r.stops (mark_stop (happening e) _ _ _ _ _ plain);
    }

dark_all : (l : List Mark) → ((at : ℕ) → lit_from at 0 l ≡ false) → deserved l ≡ 0
dark_all l f =
    rw (f (lamp_address 0), f (lamp_address 1), f (lamp_address 2), f (lamp_address 3), f (lamp_address 4), f (lamp_address 5), f (lamp_address 6), f (lamp_address 7)) refl

pub silent : Silent
silent s m es quiet i n t =
    let a = adds quiet (past_of [] s m es) (run_of s m es).state (run_of s m es).memory n in
    proven s m (es ++ quiet) i
    ∙ (ap (λ (h : History). deserved (log_of h)) (past_append [] s m es quiet)
    ∙ dark_all (log_of (past_of (past_of [] s m es) (run_of s m es).state (run_of s m es).memory quiet))
    (λ at. ap (lit_from at 0) a.whole
    ∙ unread_dark at 0 a.lines (log_of (past_of [] s m es)) (stopless_unread at a.lines (log_of (past_of [] s m es)) a.stops)
    (let q = a.ticks in omega arith)))

pub read_as_one : (k : ℕ) (s : State) (m es : List ℕ) → ReadAsOne k s m es
read_as_one k s m es = record { lit = lit_words (lamp_address k) (logged s m es); only = words_lit (lamp_address k) (logged s m es) }
