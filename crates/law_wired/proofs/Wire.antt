-- SPDX-License-Identifier: Apache-2.0
-- Demand 3 of each device on a wire, from that of one with a third party (`apart` of isolation). To a device j the
-- transactions of all other devices are foreign ones (`fair`); its state after the wire's run is its own run on what it
-- heard (`wire_run`); in its own transactions every other device leaves the line to the master, so that the line of all
-- is j's (`own_line`).
use Prim.Native.Nat.{ℕ}
use mathlib.Core.Path.{◌≡◌, refl, sym, ap, subst, ◌∙◌}
use mathlib.Core.Bool.{Bool, true, false, ◌&&◌}
use mathlib.Core.List.{List, [], ◌∷◌, map}
use Rattle.wire.specs.Bits.{pushed, Place, first, within, last, ack, place_at}
use Rattle.wire.specs.Clock.{received_at, sent_at, Receiver, Sender}
use Rattle.wire.specs.Machine.{Parts, Line, start, stop, clock, line, State, Answer, lined, clocked}
use Rattle.wire.specs.Machine.{step, answer_of, masters_line}
use Rattle.wire.specs.declared.Side.{Side}
use Rattle.wire.specs.declared.Side.TheVariants.{Memory, Companion}
use Rattle.wire.specs.declared.Phase.{Phase}
use Rattle.wire.specs.declared.Phase.TheVariants.{Idle, Slave, AddressHigh, AddressLow, Pointer, Write, Read}
use Rattle.law_merging.specs.Merge.{Reader, between, calling, moving, next, Calls, MayStand, events_of}
use Rattle.law_merging.specs.Merge.{keep_if, picked}
use Rattle.law_merging.specs.Merge as Merge
use Rattle.law_merging.specs.Party.{Party, to, foreign, MayName, is_memory, is_companion, BusEvent, PartyEvent, Fair}
use Rattle.law_merging.specs.Apart.{run, answers_of, KeptApart}
use Rattle.law_merging.specs.Demand.{OnlyWrites, WritesSteady}
use Rattle.law_merging.proofs.Picked.{picked_map}
use Rattle.law_merging.proofs.Stands.{Byte, Stands, stands_next}
use Rattle.law_merging.proofs.Own.{foreign_own}
use Rattle.law_merging.proofs.Apart.{apart, steady_alone}
use Rattle.law_merging.proofs.Steady.{steady_of_writes, writes_of_steady}
use Rattle.law_wired.specs.Wire.{Heard, nothing, this, told, Bench, Lawful, Seat, Word, says, ticks, role_of}
use Rattle.law_wired.specs.Wire.{Turns, done, turn, bus, tock}
use Rattle.law_wired.specs.Wire.{Devices, step_wire, run_wire, line_by, wire_lines, party_of, as_told}
use Rattle.law_wired.specs.Wire.{as_heard}
use Rattle.law_wired.specs.Wire.{told_for, picked_for, companion_list, heard_list, OnWire}

-- the same of slave bytes that say less
module _ (Own Good : ℕ → Type 0) (f : (b : ℕ) → Own b → Good b) where
  calls_as : (l : Place) (b : ℕ) (d : Bool) → Calls Own l b d → Calls Good l b d
  calls_as first b d h = tt
  calls_as within b d h = tt
  calls_as last b d h = f (pushed b d) h
  calls_as ack b d h = absurd h

  pub stand_as : (q : Reader) (x : Line) → MayStand Own q x → MayStand Good q x
  stand_as between start h = tt
  stand_as between stop h = absurd h
  stand_as between (clock d) h = absurd h
  stand_as (calling k b) start h = tt
  stand_as (calling k b) stop h = tt
  stand_as (calling k b) (clock d) h = calls_as (place_at k) b d h
  stand_as moving start h = tt
  stand_as moving stop h = tt
  stand_as moving (clock d) h = tt

-- a device that leaves the line high leaves it to a master that does
and_first : (a b : Bool) → (a && b) ≡ true → a ≡ true
and_first true b e = refl
and_first false b e = e

abbrev pub Told : Bool → Type 0
Told true = Unit {0}
Told false = ⊥

pub not_true : {X : Type 0} → false ≡ true → X
not_true e = absurd (subst Told (sym e) tt)

received_below : {A : Type 0} (R : Receiver A) (l : Place) (a : A) (k b : ℕ) (d : Bool) → (received_at l R a k b
    d).line ≡ true → d ≡ true
unfolding received_at
received_below R first a k b d e = e
received_below R within a k b d e = e
received_below R last a k b d e = e
received_below R ack a k b d e = not_true e

sent_below : {A : Type 0} (S : Sender A) (l : Place) (a : A) (k b : ℕ) (d : Bool) → (sent_at l S a k b d).line ≡ true
    → d ≡ true
unfolding sent_at
sent_below S first a k b d e = and_first d _ e
sent_below S within a k b d e = and_first d _ e
sent_below S last a k b d e = and_first d _ e
sent_below S ack a k b d e = e

module _ (P : Parts) where
  clock_below : (p : Phase) (m : P.Cells) (c : P.Desk) (d : Bool) → (clocked P p m c d).line ≡ true → d ≡ true
  unfolding clocked
  clock_below Idle m c d e = e
  clock_below (Slave k b) m c d e = received_below _ (place_at k) tt k b d e
  clock_below (AddressHigh k b) m c d e = received_below _ (place_at k) tt k b d e
  clock_below (AddressLow h k b) m c d e = received_below _ (place_at k) m k b d e
  clock_below (Pointer k b) m c d e = received_below _ (place_at k) c k b d e
  clock_below (Write Memory k b) m c d e = received_below _ (place_at k) m k b d e
  clock_below (Write Companion k b) m c d e = received_below _ (place_at k) c k b d e
  clock_below (Read Memory k b) m c d e = sent_below _ (place_at k) m k b d e
  clock_below (Read Companion k b) m c d e = sent_below _ (place_at k) c k b d e

  pub line_below : (p : Phase) (m : P.Cells) (c : P.Desk) (x : Line) → (lined P p m c x).line ≡ true → masters_line
      x ≡ true
  unfolding lined
  line_below p m c start e = refl
  line_below p m c stop e = refl
  line_below p m c (clock d) e = clock_below p m c d e

  -- a tick leaves the phase
  told_phase : (u : State P) (z : Heard P.Tick) → (run P u (told z)).phase ≡ u.phase
  told_phase u nothing = refl
  told_phase u (this t) = refl

module _ (P : Parts) where
  answers_map : {Z : Type 0} (look : Answer P → Z) (s : State P) (es : List (BusEvent P))
      → answers_of P look s es ≡ map look (answers_of P (λ a. a) s es)
  answers_map look s [] = refl
  answers_map {Z = Z} look s (e ∷ es) =
      ap (λ (z : List Z). look (answer_of P (step P s e)) ∷ z) (answers_map look (step P s e).state es)

  abbrev seen : Answer P → Bool
  seen a = a.line

  -- of whole answers that agree, the lines do
  seen_alike : (mine : Party → Bool) (s u : State P) (l : List (PartyEvent P)) (es : List (BusEvent P))
      → picked mine l (answers_of P (λ a. a) s (events_of l)) ≡ answers_of P (λ a. a) u es
      → picked mine l (answers_of P seen s (events_of l)) ≡ answers_of P seen u es
  seen_alike mine s u l es h =
      ap (picked mine l) (answers_map seen s (events_of l))
      ∙ (picked_map seen mine l (answers_of P (λ a. a) s (events_of l))
      ∙ (ap (map seen) h ∙ sym (answers_map seen u es)))

keep_alike : {A : Type 0} (t : Bool) (a b : A) (x y : List A) → (t ≡ true → a ≡ b) → x ≡ y → keep_if t a x ≡ keep_if t
    b y
keep_alike true a b x y h e = λ i. h refl i ∷ e i
keep_alike false a b x y h e = e

pub by_bool : {X : Type 0} (t : Bool) → (t ≡ true → X) → (t ≡ false → X) → X
by_bool true y n = y refl
by_bool false y n = n refl

module _ (B : Bench) (K : Lawful B) where
  abbrev L : Type 0
  L = List (Word B.Dev B.Tock)

  -- whom a seat's slave byte names, to any device
  module _ (j : B.Dev) where
    names_as : (v : B.Dev) (x : Side) (t : Bool) → B.same v j ≡ t → (b : ℕ) → MayName (to x) ((B.part v).names b)
        → MayName (role_of t x) ((B.part j).names b)
    names_as v x true e b h = subst (λ (z : B.Dev). MayName (to x) ((B.part z).names b)) (K.same_is v j e) h
    names_as v x false e b h = K.unlike v j x b e h

    stand_for : (a : Seat B.Dev) (q : Reader) (x : Line) → MayStand (λ b. MayName (to a.side) ((B.part a.at).names b)) q x
        → MayStand (Byte (B.part j) (party_of B j a)) q x
    stand_for a q x w =
        stand_as (λ b. MayName (to a.side) ((B.part a.at).names b)) (Byte (B.part j) (party_of B j a))
        (names_as a.at a.side (B.same a.at j) refl) q x w

    fair_told : (i : Party) (q : Reader) (z : Heard (B.part j).Tick) (l : List (PartyEvent (B.part j)))
        → Fair (B.part j) i q l → Fair (B.part j) i q (as_told B j z l)
    fair_told i q nothing l h = h
    fair_told i q (this t) l h = Merge.ticks tt h

    fair : {a : Seat B.Dev} {q : Reader} {l : L} → Turns B a q l → Fair (B.part j) (party_of B j a) q (as_heard B
        j l)
    fair done = Merge.done
    fair (turn r) = Merge.turn (fair r)
    fair (bus {a = a} {q = q} {x = x} w r) = Merge.bus (stand_for a q x w) (fair r)
    fair (tock {a = a} {q = q} {t = t} {l = l} r) = fair_told (party_of B j a) q (B.hear j t) (as_heard B j l) (fair
        r)

    -- its state is its own run on what it heard
    told_run : (u : State (B.part j)) (z : Heard (B.part j).Tick) (l : List (PartyEvent (B.part j)))
        → run (B.part j) u (events_of (as_told B j z l)) ≡ run (B.part j) (run (B.part j) u (told z)) (events_of l)
    told_run u nothing l = refl
    told_run u (this t) l = refl

    pub wire_run : (s : Devices B) (l : L) → run_wire B s l j ≡ run (B.part j) (s j) (events_of (as_heard B j l))
    wire_run s [] = refl
    wire_run s (says a x ∷ l) = wire_run (step_wire B s (says a x)) l
    wire_run s (ticks t ∷ l) =
        wire_run (step_wire B s (ticks t)) l ∙ sym (told_run (s j) (B.hear j t) (as_heard B j l))

  -- the line of all, where all but one leave it to the master
  all_one : (f : B.Dev → Bool) (j : B.Dev) (d : Bool) → ((v : B.Dev) → B.same j v ≡ false → f v ≡ d)
      → (f j ≡ true → d ≡ true) → B.all f ≡ f j
  all_one f j d others below =
      by_bool (f j)
      (λ e. K.all_high f (λ v. by_bool (B.same j v) (λ k. ap f (sym (K.same_is j v k)) ∙ e) (λ k. others v k ∙
      below e)) ∙ sym e)
      (λ e. K.one_low f j e ∙ sym e)

  abbrev Standing : Seat B.Dev → Reader → Devices B → Type 0
  Standing a q s = (v : B.Dev) → Stands (B.part v) (party_of B v a) q (s v).phase

  module _ (a : Seat B.Dev) (q : Reader) (s : Devices B) (st : Standing a q s) where
    -- another device than the seat's leaves the line to the master
    other_line : (x : Line) → MayStand (λ b. MayName (to a.side) ((B.part a.at).names b)) q x
        → (v : B.Dev) → B.same a.at v ≡ false → line_by B s x v ≡ masters_line x
    other_line x w v k =
        let P = B.part v in
        let i : role_of (B.same a.at v) a.side ≡ foreign = ap (λ (t : Bool). role_of t a.side) k in
        let w' : MayStand (Byte P foreign) q x = subst (λ (z : Party). MayStand (Byte P z) q x) i (stand_for v a q x
        w) in
        let s' : Stands P foreign q (s v).phase = subst (λ (z : Party). Stands P z q (s v).phase) i (st v) in
        ap (λ o. o.line) (foreign_own P (s v).memory (s v).companion q (s v).phase x w' s')

    own_line : (j : B.Dev) (x : Line) → MayStand (λ b. MayName (to a.side) ((B.part a.at).names b)) q x
        → B.same a.at j ≡ true → B.all (line_by B s x) ≡ line_by B s x j
    own_line j x w k =
        let e : a.at ≡ j = K.same_is a.at j k in
        subst (λ (z : B.Dev). B.all (line_by B s x) ≡ line_by B s x z) e
        (all_one (line_by B s x) a.at (masters_line x) (other_line x w)
        (line_below (B.part a.at) (s a.at).phase (s a.at).memory (s a.at).companion x))

    standing_next : (x : Line) → MayStand (λ b. MayName (to a.side) ((B.part a.at).names b)) q x
        → Standing a (next q x) (step_wire B s (says a x))
    standing_next x w v =
        stands_next (B.part v) (s v).memory (s v).companion (party_of B v a) q (s v).phase x (stand_for v a q x
        w) (st v)

    standing_told : (t : B.Tock) → Standing a q (step_wire B s (ticks t))
    standing_told t v =
        subst (Stands (B.part v) (party_of B v a) q) (sym (told_phase (B.part v) (s v) (B.hear v t))) (st v)

  module _ (j : B.Dev) (mine : Party → Bool) (none : mine foreign ≡ false) where
    abbrev P : Parts
    P = B.part j

    ours : (t : Bool) (x : Side) → mine (role_of t x) ≡ true → t ≡ true
    ours true x e = refl
    ours false x e = not_true (sym none ∙ e)

    told_lines : (u : State P) (z : Heard P.Tick) (l : List (PartyEvent P)) (rest : List Bool)
        → rest ≡ picked mine l (answers_of P (seen P) (run P u (told z)) (events_of l))
        → keep_if (told_for B j mine z) true rest ≡ picked mine (as_told B j z l) (answers_of P (seen P) u (events_of
        (as_told B j z l)))
    told_lines u nothing l rest h = h
    told_lines u (this t) l rest h = keep_alike (mine (to Companion)) true true rest _ (λ e. refl) h

    -- the wire's lines at j's own words are j's
    lines_own : {a : Seat B.Dev} {q : Reader} {l : L} → Turns B a q l → (s : Devices B) → Standing a q s
        → picked_for B j mine l (wire_lines B s l)
        ≡ picked mine (as_heard B j l) (answers_of P (seen P) (s j) (events_of (as_heard B j l)))
    lines_own done s st = refl
    lines_own (turn r) s st = lines_own r s st
    lines_own (bus {a = a} {q = q} {x = x} {l = l} w r) s st =
        keep_alike (mine (party_of B j a)) _ _ _ _
        (λ e. own_line a q s st j x w (ours (B.same a.at j) a.side e))
        (lines_own r (step_wire B s (says a x)) (standing_next a q s st x w))
    lines_own (tock {a = a} {q = q} {t = t} {l = l} r) s st =
        told_lines (s j) (B.hear j t) (as_heard B j l) _ (lines_own r (step_wire B s (ticks t)) (standing_told a q s
        st t))

  -- demand 3 of each device on the wire
  pub on_wire_lem : (j : B.Dev) → OnlyWrites (B.part j) → (a : Seat B.Dev) (s : Devices B) (l : L)
      → ((v : B.Dev) → (s v).phase ≡ Idle) → Turns B a between l
      → WritesSteady (B.part j) (s j) (companion_list B j l) → OnWire B j s l
  on_wire_lem j only a s l idle w steady =
      let P = B.part j in
      let k : KeptApart P (s j) (s j) (s j) (as_heard B j l) =
      apart P (party_of B j a) (s j) (as_heard B j l) (idle j) (fair j w) (steady_of_writes P only (s j)
      (companion_list B j l) steady) in
      record {
        memory = ap (λ (u : State P). u.memory) (wire_run j s l) ∙ k.memory.same;
        memory_lines = lines_own j is_memory refl w s idle ∙ k.memory.answered;
        companion = ap (λ (u : State P). u.companion) (wire_run j s l) ∙ k.companion.same;
        companion_lines = lines_own j is_companion refl w s idle ∙ seen_alike P is_companion (s j) (s j) (as_heard B j
            l) (companion_list B j l) k.companion.answered;
      }

  -- the protection may be asked for of all that the device hears
  pub steady_heard : (j : B.Dev) → OnlyWrites (B.part j) → (a : Seat B.Dev) (s : Devices B) (l : L)
      → ((v : B.Dev) → (s v).phase ≡ Idle) → Turns B a between l
      → WritesSteady (B.part j) (s j) (heard_list B j l) → WritesSteady (B.part j) (s j) (companion_list B j l)
  steady_heard j only a s l idle w steady =
      let P = B.part j in
      writes_of_steady P (s j) (companion_list B j l)
      (steady_alone P (party_of B j a) (s j) (as_heard B j l) (idle j) (fair j w)
      (steady_of_writes P only (s j) (heard_list B j l) steady))
