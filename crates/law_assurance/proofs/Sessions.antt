-- SPDX-License-Identifier: Apache-2.0
-- A session of two masters, beside the run of one master's own events, with those that belong to neither: the two devices
-- stay near. Nobody or the master holds the bus: they stand alike in the transfer. The other holds it: the second stands
-- between transfers.
use Prim.Native.Nat.{ℕ}
use mathlib.Core.Path.{◌≡◌, refl, ap}
use mathlib.Core.Bool.{Bool, true, false, cond, ◌||◌, true≢false, false≢true}
use mathlib.Core.List.{List, [], ◌∷◌}
use borrow.Author.Tests.{not-true}
use Rattle.wire.specs.Machine.{start, stop, clock, lined}
use Rattle.wire.specs.declared.Phase.TheVariants.{Idle}
use Rattle.wire.proofs.Tests.{by_test, and_split}
use Rattle.bus_limits.specs.Limits.{power_within}
use Rattle.bus.specs.declared.Power.{Power}
use Rattle.bus.specs.declared.Power.TheVariants.{On, Backup, Off}
use Rattle.fm3130.specs.Event.{Happening, on_wire, beat, lost, gone, returned, happening, event_on, event_of}
use Rattle.fm3130.specs.declared.State.{State}
use Rattle.fm3130_list.specs.Run.{run_of, all_known}
use Rattle.fm3130_list.proofs.Pieces.{run_append}
use Rattle.masters_hold.specs.Bus.{Holder, same_master, holds, after_ask, is_bus, any_bus, may_call, freed_by, frees}
use Rattle.masters_hold.specs.declared.Master.{Master}
use Rattle.masters_hold.specs.declared.Master.TheVariants.{Rig, Handheld}
use Rattle.std.specs.Prelude.{Some, None}
use Rattle.law_assurance.specs.Session.{World, Act, asks, calls, is_answered, ran_on, after_act, after_acts, neithers, own_in, own_of}
use Rattle.law_assurance.specs.Same.{marked, ReadsSet, marked_after, HarmlessIn, AskedOf, mark_after_act, Allowed, Fair}
use Rattle.law_assurance.proofs.Near.{equal, phases_idle}
use Rattle.law_assurance.proofs.Steps.{Alike, Together, Apart, lessened, mine, worlds, worlds_apart, theirs, Resting, rests}

or_false : (a b : Bool) → (a || b) ≡ false → (a ≡ false) × (b ≡ false)
or_false true b e = absurd (true≢false e)
or_false false b e = (refl, e)

by_cond : (E : List ℕ → Type 0) (b : Bool) (x y : List ℕ) → (b ≡ true → E x) → (b ≡ false → E y) → E (cond b x y)
by_cond E true x y f k = f refl
by_cond E false x y f k = k refl

by_cond₂ : (E : Holder → Type 0) (b : Bool) (x y : Holder) → E x → E y → E (cond b x y)
by_cond₂ E true x y f k = f
by_cond₂ E false x y f k = k

by_cond₃ : (E : Bool → Type 0) (b x y : Bool) → E x → E y → E (cond b x y)
by_cond₃ E true x y f k = f
by_cond₃ E false x y f k = k

-- a transfer exists only while main power is present
dark_on : (p : Power) (x : Happening) (h : State) (m : List ℕ) → h.power ≡ p → power_within h.power h.phase ≡ true
    → power_within (event_on p x h m).state.power (event_on p x h m).state.phase ≡ true
unfolding event_on lined power_within
dark_on On (on_wire start) h m e d = refl
dark_on On (on_wire stop) h m e d = refl
dark_on On (on_wire (clock b)) h m e d = refl
dark_on On (beat t') h m e d = d
dark_on On lost h m e d = refl
dark_on On gone h m e d = refl
dark_on On returned h m e d = d
dark_on Backup (on_wire x) h m e d = d
dark_on Backup (beat t') h m e d = d
dark_on Backup lost h m e d = d
dark_on Backup gone h m e d = refl
dark_on Backup returned h m e d = refl
dark_on Off (on_wire x) h m e d = d
dark_on Off (beat t') h m e d = d
dark_on Off lost h m e d = d
dark_on Off gone h m e d = d
dark_on Off returned h m e d = refl

-- lists of events
run_rests : (es : List ℕ) (h : State) (m : List ℕ) (f t : Bool) → power_within h.power h.phase ≡ true → Resting f t h.phase
    → Resting (frees f es) (marked_after t h m es) (run_of h m es).state.phase
unfolding run_of
run_rests [] h m f t d q = q
run_rests (i ∷ es) h m f t d q =
    run_rests es (event_of h m i).state (event_of h m i).memory (freed_by f (happening i)) (marked t h.phase (happening i))
    (dark_on h.power (happening i) h m refl d) (rests h m f t d q i)

frees_worlds : (es : List ℕ) → any_bus es ≡ false → frees true es ≡ true
frees_worlds [] b = refl
frees_worlds (i ∷ es) b =
    let s = or_false (is_bus (happening i)) (any_bus es) b in rw (go (happening i) s.0) (frees_worlds es s.1)
  where
    go : (x : Happening) → is_bus x ≡ false → freed_by true x ≡ true
    go (on_wire x) e = absurd (true≢false e)
    go (beat t') e = refl
    go lost e = refl
    go gone e = refl
    go returned e = refl

marked_worlds : (es : List ℕ) (h : State) (m : List ℕ) (t : Bool) → any_bus es ≡ false → t ≡ false → marked_after t h m es ≡ false
marked_worlds [] h m t b e = e
marked_worlds (i ∷ es) h m t b e =
    let s = or_false (is_bus (happening i)) (any_bus es) b in
    marked_worlds es (event_of h m i).state (event_of h m i).memory (marked t h.phase (happening i)) s.1
    (go (happening i) s.0)
  where
    go : (x : Happening) → is_bus x ≡ false → marked t h.phase x ≡ false
    go (on_wire x) b = absurd (true≢false b)
    go (beat t') b = e
    go lost b = refl
    go gone b = refl
    go returned b = e

neithers_worlds : (es : List ℕ) → any_bus es ≡ false → neithers es ≡ es
neithers_worlds [] b = refl
neithers_worlds (i ∷ es) b =
    let s = or_false (is_bus (happening i)) (any_bus es) b in rw s.0 (ap (λ (l : List ℕ). i ∷ l) (neithers_worlds es s.1))

module _ (A : ℕ → Bool) where
  run_mine : (es : List ℕ) (t : Bool) (h : State) (m : List ℕ) (r : State) (n : List ℕ) → Together A t h m r n → ReadsSet t h m es
      → Together A (marked_after t h m es) (run_of h m es).state (run_of h m es).memory (run_of r n es).state (run_of r n es).memory
  unfolding run_of
  run_mine [] t h m r n g s = g
  run_mine (i ∷ es) t h m r n g s =
      run_mine es (marked t h.phase (happening i)) (event_of h m i).state (event_of h m i).memory (event_of r n i).state
      (event_of r n i).memory (mine A h m r n t g i s.0) s.1

  run_worlds : (es : List ℕ) (t : Bool) (h : State) (m : List ℕ) (r : State) (n : List ℕ) → any_bus es ≡ false → Together A t h m r n
      → Together A t (run_of h m es).state (run_of h m es).memory (run_of r n es).state (run_of r n es).memory
  unfolding run_of
  run_worlds [] t h m r n b g = g
  run_worlds (i ∷ es) t h m r n b g =
      let s = or_false (is_bus (happening i)) (any_bus es) b in
      run_worlds es t (event_of h m i).state (event_of h m i).memory (event_of r n i).state
      (event_of r n i).memory s.1 (worlds A h m r n t g i s.0)

  run_worlds_apart : (es : List ℕ) (h : State) (m : List ℕ) (r : State) (n : List ℕ) → any_bus es ≡ false → Apart A h m r n
      → Apart A (run_of h m es).state (run_of h m es).memory (run_of r n es).state (run_of r n es).memory
  unfolding run_of
  run_worlds_apart [] h m r n b g = g
  run_worlds_apart (i ∷ es) h m r n b g =
      let s = or_false (is_bus (happening i)) (any_bus es) b in
      run_worlds_apart es (event_of h m i).state (event_of h m i).memory (event_of r n i).state
      (event_of r n i).memory s.1 (worlds_apart A h m r n g i s.0)

  run_theirs : (es : List ℕ) (h : State) (m : List ℕ) (r : State) (n : List ℕ) → Apart A h m r n → HarmlessIn A h m es
      → Apart A (run_of h m es).state (run_of h m es).memory (run_of r n (neithers es)).state (run_of r n (neithers es)).memory
  unfolding run_of
  run_theirs [] h m r n g s = g
  run_theirs (i ∷ es) h m r n g s =
      by_cond (λ (l : List ℕ). Apart A (run_of h m (i ∷ es)).state (run_of h m (i ∷ es)).memory (run_of r n l).state (run_of r n l).memory)
      (is_bus (happening i)) (neithers es) (i ∷ neithers es)
      (λ b. run_theirs es (event_of h m i).state (event_of h m i).memory r n (theirs A h m r n g i b s.0) s.1)
      (λ b. run_theirs es (event_of h m i).state (event_of h m i).memory (event_of r n i).state (event_of r n i).memory
      (worlds_apart A h m r n g i b) s.1)

-- who holds the bus
same_turn : (x y : Master) → same_master x y ≡ same_master y x
same_turn Rig Rig = refl
same_turn Rig Handheld = refl
same_turn Handheld Rig = refl
same_turn Handheld Handheld = refl

same_is : (x y : Master) → same_master x y ≡ true → x ≡ y
same_is Rig Rig e = refl
same_is Rig Handheld e = absurd (false≢true e)
same_is Handheld Rig e = absurd (false≢true e)
same_is Handheld Handheld e = refl

-- of two masters, one holds it
not_both : (g : Holder) (x y : Master) → holds g x ≡ true → same_master x y ≡ false → holds g y ≡ false
not_both None x y h e = absurd (false≢true h)
not_both (Some Rig) Rig Rig h e = absurd (true≢false e)
not_both (Some Rig) Rig Handheld h e = refl
not_both (Some Rig) Handheld y h e = absurd (false≢true h)
not_both (Some Handheld) Rig y h e = absurd (false≢true h)
not_both (Some Handheld) Handheld Rig h e = refl
not_both (Some Handheld) Handheld Handheld h e = absurd (true≢false e)

may_worlds : (g : Holder) (x : Master) (es : List ℕ) → may_call g x es ≡ true → holds g x ≡ false → any_bus es ≡ false
may_worlds g x es c h = not-true (any_bus es) (rw h at c)

ask_kept : (g : Holder) (me x : Master) → holds g me ≡ true → after_ask g x ≡ g
ask_kept None me x h = absurd (false≢true h)
ask_kept (Some y) me x h = refl

-- two devices between transfers
module _ (A : ℕ → Bool) (h : State) (m : List ℕ) (r : State) (n : List ℕ) where
  joined : Apart A h m r n → h.phase ≡ Idle → Together A false h m r n
  joined g e = record { alike = g.alike; phases = rw (e, g.rest) equal; placed = rw e tt }

  parted : (t : Bool) → t ≡ false → Together A t h m r n → h.phase ≡ Idle → Apart A h m r n
  parted t z g e = record { alike = (lessened false (λ q. absurd (false≢true q)) g).alike; rest = phases_idle g.phases e }

-- how a session stands, beside the run of the master's own events
pub data Stands (me : Master) (A : ℕ → Bool) (t : Bool) (w : World) (r : State) (n : List ℕ) : Type 0 where
  ours : holds w.holder me ≡ true → Together A t w.state w.memory r n → Stands me A t w r n
  others : (y : Master) → w.holder ≡ Some y → same_master y me ≡ false → t ≡ false → Apart A w.state w.memory r n → Stands me A t w r n
  free : w.holder ≡ None → t ≡ false → Together A t w.state w.memory r n → w.state.phase ≡ Idle → Stands me A t w r n

stands_alike : {me : Master} {A : ℕ → Bool} {t : Bool} {w : World} {r : State} {n : List ℕ} → Stands me A t w r n
    → (u : Bool) × Alike A u w.state w.memory r n
stands_alike {t = t} (ours h g) = (t, g.alike)
stands_alike (others y e s z g) = (false, g.alike)
stands_alike {t = t} (free e z g p) = (t, g.alike)

module _ (me : Master) (A : ℕ → Bool) (t : Bool) (w : World) (r : State) (n : List ℕ) where
  abbrev h : State
  h = w.state

  abbrev m : List ℕ
  m = w.memory

  asked : (x : Master) → Stands me A t w r n → Stands me A t (after_act w (asks x)) r n
  asked x (ours e g) = ours (rw (ask_kept w.holder me x e) e) g
  asked x (others y e s z g) = others y (rw e refl) s z g
  asked x (free e z g p) =
      by_test (same_master x me) (λ s. ours (rw e s) g) (λ s. others x (rw e refl) s z (parted A h m r n t z g p))

  module _ (x : Master) (es : List ℕ) (may : may_call w.holder x es ≡ true) where
    abbrev After : Bool → List ℕ → Type 0
    After u l = Stands me A u (ran_on w es) (run_of r n l).state (run_of r n l).memory

    -- where the bus is freed, and where not
    ended : (g : Together A t h m r n) (u : Bool) (l : List ℕ)
        → Together A u (run_of h m es).state (run_of h m es).memory (run_of r n l).state (run_of r n l).memory
        → (frees false es ≡ true → u ≡ false) → holds w.holder me ≡ true → After u l
    ended g u l k z e =
        by_test (frees false es)
        (λ q. free (rw q refl) (z q) k (run_rests es h m false false g.alike.dark (λ i. absurd (false≢true i)) q).0)
        (λ q. ours (rw q e) k)

    stayed : (u : Bool) (l : List ℕ) → power_within h.power h.phase ≡ true → w.holder ≡ None → h.phase ≡ Idle → any_bus es ≡ false
        → Together A u (run_of h m es).state (run_of h m es).memory (run_of r n l).state (run_of r n l).memory
        → u ≡ false → After u l
    stayed u l d e p b k z =
        let idle = (run_rests es h m true false d (λ i. (p, refl)) (frees_worlds es b)).0 in
        free (by_cond₂ (λ (g : Holder). g ≡ None) (frees false es) None w.holder refl e) z k idle

    parting : (u : Bool) (l : List ℕ) (y : Master) → power_within h.power h.phase ≡ true → w.holder ≡ Some y → same_master y me ≡ false
        → Apart A (run_of h m es).state (run_of h m es).memory (run_of r n l).state (run_of r n l).memory
        → u ≡ false → After u l
    parting u l y d e s k z =
        by_test (frees false es)
        (λ q. let idle = (run_rests es h m false false d (λ i. absurd (false≢true i)) q).0 in
        free (rw q refl) z (rw z (joined A _ _ _ _ k idle)) idle)
        (λ q. others y (rw q e) s z k)

    -- a call of the master's own
    own_call : same_master me x ≡ true → Stands me A t w r n → ReadsSet t h m es → After (marked_after t h m es) es
    own_call i (ours e g) s =
        ended g (marked_after t h m es) es (run_mine A es t h m r n g s)
        (λ q. (run_rests es h m false t g.alike.dark (λ i. absurd (false≢true i)) q).1) e
    own_call i (others y e v z g) s =
        let b = may_worlds w.holder x es may (rw (e, ← same_is me x i) v) in
        parting (marked_after t h m es) es y g.alike.dark e v (run_worlds_apart A es h m r n b g) (marked_worlds es h m t b z)
    own_call i (free e z g p) s =
        let b = may_worlds w.holder x es may (rw e refl) in
        stayed (marked_after t h m es) es g.alike.dark e p b (run_mine A es t h m r n g s) (marked_worlds es h m t b z)

    -- a call of the other's
    abbrev mark : Bool
    mark = cond (frees false es) false t

    mark_false : t ≡ false → mark ≡ false
    mark_false z = by_cond₃ (λ (u : Bool). u ≡ false) (frees false es) false t refl z

    mark_true : (f : Bool) → cond f false t ≡ true → t ≡ true
    mark_true true e = absurd (false≢true e)
    mark_true false e = e

    -- ticks and power events alone
    quiet : any_bus es ≡ false → Together A t h m r n
        → Together A mark (run_of h m es).state (run_of h m es).memory (run_of r n (neithers es)).state (run_of r n (neithers es)).memory
    quiet b g =
        let k = run_worlds A es t h m r n b g in
        rw (neithers_worlds es b) (lessened mark (λ q. k.alike.near.address (mark_true (frees false es) q)) k)

    other_call : same_master me x ≡ false → Stands me A t w r n → HarmlessIn A h m es → After mark (neithers es)
    other_call i (ours e g) s =
        let b = may_worlds w.holder x es may (not_both w.holder me x e i) in
        ended g mark (neithers es) (quiet b g) (λ q. rw q refl) e
    other_call i (others y e v z g) s =
        parting mark (neithers es) y g.alike.dark e v (run_theirs A es h m r n g s) (mark_false z)
    other_call i (free e z g p) s =
        let b = may_worlds w.holder x es may (rw e refl) in
        stayed mark (neithers es) g.alike.dark e p b (quiet b g) (mark_false z)

  -- any call, answered or not
  called : (x : Master) (es : List ℕ) (answered ourOwn : Bool) → (answered ≡ true → may_call w.holder x es ≡ true) → same_master me x ≡ ourOwn
      → Stands me A t w r n → AskedOf answered ourOwn A t h m es
      → Stands me A (cond answered (cond ourOwn (marked_after t h m es) (cond (frees false es) false t)) t) (cond answered (ran_on w es) w)
      (run_of r n (cond answered (cond ourOwn es (neithers es)) [])).state (run_of r n (cond answered (cond ourOwn es (neithers es)) [])).memory
  unfolding run_of
  called x es true true may i g s = own_call x es (may refl) i g s
  called x es true false may i g s = other_call x es (may refl) i g s
  called x es false ourOwn may i g s = g

  acted : (x : Act) → Stands me A t w r n → Allowed me A t w x
      → Stands me A (mark_after_act me t w x) (after_act w x) (run_of r n (own_in me w x)).state (run_of r n (own_in me w x)).memory
  unfolding run_of
  acted (asks x) g s = asked x g
  acted (calls x es) g s =
      called x es (is_answered w.holder x es) (same_master me x) (λ e. (and_split (all_known es) (may_call w.holder x es) e).1) refl g s

-- a whole session
pub session : (me : Master) (A : ℕ → Bool) (l : List Act) (t : Bool) (w : World) (r : State) (n : List ℕ)
    → Stands me A t w r n → Fair me A t w l
    → (u : Bool) × Alike A u (after_acts w l).state (after_acts w l).memory (run_of r n (own_of me w l)).state (run_of r n (own_of me w l)).memory
unfolding run_of
session me A [] t w r n g f = stands_alike g
session me A (x ∷ l) t w r n g f =
    let e = run_of r n (own_in me w x) in
    let s = session me A l (mark_after_act me t w x) (after_act w x) e.state e.memory (acted me A t w r n x g f.0) f.1 in
    rw (run_append r n (own_in me w x) (own_of me (after_act w x) l)) s
