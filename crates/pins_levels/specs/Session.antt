-- SPDX-License-Identifier: Apache-2.0
-- A session: looks at the wires, and ticks and power events that the board hands in, one after the other, on a part of which
-- only this is known: what an event makes of it, whether it pulls the line of the next Clock, whether that Clock is a byte's
-- eighth, and what it answers as it stands. Then what is to be shown of every session, of any length and any levels.
--   SeenAgain               a look that sees nothing new
--   Part, ran, Lawful       a part; a list of events on it; the one law that it needs
--   Deed, seen_in, handed_in  a look or a handing in; what the looks saw; what was handed in
--   begun, step, session    the first look; one deed more; all of them
--   Merged                  a list that is two lists, merged
--   Faithful, Driven, Opens, Early, AtFall, AtTurn, Still, InTime, Answers, Stays, LetGo, Shown   the statements
use Rattle.std.specs.Prelude.{ℕ, ◌≤◌, ◌≡◌, Bool, true, false, cond, ◌&&◌, List, [], ◌∷◌, ◌++◌, eqb, leb, length}
use Rattle.std.specs.Bool.{beq}
use Rattle.pins_levels.specs.Wave.{spelt, end_of, clock_of, turn_of}
use Rattle.pins_levels.specs.Look.{Readings, was_high, stayed, first_of, asks, look_of, driven_of, hand_of, known, events_of}
use Rattle.pins_levels.specs.declared.Seen.{Seen}
use Rattle.pins_levels.specs.declared.Seen.TheVariants.{Low, Fell, High}
use Rattle.pins_levels.specs.declared.Token.{Token}

-- The levels that a look leaves: where SCL fell in it, it is low. The same of what a token knows.
abbrev pub leaves : Seen → Seen
leaves Low = Low
leaves Fell = Low
leaves (High d) = High d

abbrev pub left_by : Token → Seen
left_by t = cond t.scl (High t.sda) Low

-- Auxiliary to firmware that compares levels: a look that sees the levels that the one before it left changes nothing, and
-- those that a look leaves are what the token knows.
pub record SeenAgain : Type 0 where
  pub again : (t : Token) → look_of t (left_by t) ≡ stayed t
  pub first : (v : Seen) → left_by (first_of v) ≡ leaves v
  pub after : (t : Token) (v : Seen) → (look_of t v).token.number ≡ 0 → left_by (look_of t v).token ≡ leaves v

pub record Part : Type 1 where
  pub State : Type 0
  pub event : State → ℕ → State
  pub pulls : State → Bool
  pub eighth : State → Bool
  pub answer : State → ℕ

-- Events, one by one.
unfoldable pub ran : (P : Part) → P.State → List ℕ → P.State
ran P s [] = s
ran P s (e ∷ es) = ran P (P.event s e) es

-- Ticks and power events, 4 to 7.
abbrev pub is_told : ℕ → Bool
is_told e = leb 4 e && leb e 7

unfoldable pub all_told : List ℕ → Bool
all_told [] = true
all_told (e ∷ es) = is_told e && all_told es

-- A Clock that is not a byte's eighth, then ticks and power events, then Start or Stop, leave what they leave without it.
pub record Lawful (P : Part) : Type 0 where
  pub dropped : (s : P.State) (d e : Bool) (ts : List ℕ) → all_told ts ≡ true → P.eighth s ≡ false
      → ran P s (clock_of d ∷ (ts ++ (turn_of e ∷ []))) ≡ ran P s (ts ++ (turn_of e ∷ []))

-- A look, with the readings of SCL around the turning of SDA, at the look and after the events; an event that is handed in,
-- with those after it.
pub data Deed : Type 0 where
  saw : Seen → Readings → Readings → Deed
  told : ℕ → Readings → Deed

-- What the looks saw, on top of the first one; newest first. What was handed in; oldest first.
abbrev pub seen_in : Seen → List Deed → List Seen
seen_in v [] = v ∷ []
seen_in v (saw w a b ∷ ds) = w ∷ seen_in v ds
seen_in v (told e b ∷ ds) = seen_in v ds

abbrev pub handed_in : List Deed → List ℕ
handed_in [] = []
handed_in (saw w a b ∷ ds) = handed_in ds
handed_in (told e b ∷ ds) = handed_in ds ++ (e ∷ [])

-- Where a session stands.
pub record Stood (P : Part) : Type 0 where
  pub token : Token
  pub state : P.State

abbrev pub stood : (P : Part) → Token → P.State → Stood P
stood P t s = record { token = t; state = s }

-- The lines that the part tells.
abbrev pub asked : (P : Part) → Token → P.State → Token
asked P t s = asks t (P.pulls s) (P.pulls (P.event s 2)) (P.pulls (P.event s 3)) (P.answer s)

-- What is due is done, and the lines are asked; without an event nothing is asked.
unfoldable pub settled_on : (P : Part) → Token → List ℕ → P.State → Stood P
settled_on P t [] s = stood P t s
settled_on P t (e ∷ es) s = stood P (asked P t (ran P s (e ∷ es))) (ran P s (e ∷ es))

-- Unless the device has left the bus.
unfoldable pub settled : (P : Part) → Token → List ℕ → P.State → Stood P
settled P t es s = cond (eqb t.number 0) (settled_on P t es s) (stood P t s)

unfoldable pub begun : (P : Part) → P.State → Seen → Readings → Stood P
begun P s v c = stood P (driven_of false (asked P (first_of v) s) c) s

-- A look: SDA is turned; what is due is done; SDA is turned again, where that asks for it. A handing in: what is due is
-- done, and SDA is turned.
unfoldable pub step : (P : Part) → Stood P → Deed → Stood P
step P o (saw v a b) =
    let d = look_of o.token v in
    let t = driven_of o.token.pulling d.token a in
    let r = settled P t (events_of d) o.state in
    stood P (driven_of t.pulling r.token b) r.state
step P o (told e b) =
    let d = hand_of o.token e (P.eighth o.state) in
    let r = settled P d.token (events_of d) o.state in
    stood P (driven_of d.token.pulling r.token b) r.state

-- Deeds are listed newest first.
unfoldable pub session : (P : Part) → P.State → Seen → Readings → List Deed → Stood P
session P s v c [] = begun P s v c
session P s v c (k ∷ ds) = step P (session P s v c ds) k

-- A list that is two lists, each in its order.
pub data Merged : List ℕ → List ℕ → List ℕ → Type 0 where
  neither : Merged [] [] []
  on_bus : {es bs ts : List ℕ} (e : ℕ) → Merged es bs ts → Merged (e ∷ es) (e ∷ bs) ts
  handed : {es bs ts : List ℕ} (e : ℕ) → Merged es bs ts → Merged (e ∷ es) bs (e ∷ ts)

-- The Clock that a pulse under way will be, if it ends as it is.
unfoldable pub under_way : List Seen → List ℕ
under_way [] = []
under_way (Low ∷ w) = []
under_way (Fell ∷ w) = []
under_way (High d ∷ w) = end_of d w

-- What a session has come to: the events that were done are those that the looks w spell, merged with those that were
-- handed in, hs. At most one of these waits, and only while a pulse is open. Where a pulse lasts from one handing in to the
-- next, its Clock may have been done already.
pub record Account (P : Part) (s : P.State) (w : List Seen) (hs : List ℕ) (o : Stood P) : Type 0 where
  pub done : List ℕ
  pub ticks : List ℕ
  pub is_early : Bool
  pub state : o.state ≡ ran P s done
  pub merged : Merged done (spelt w ++ cond is_early (under_way w) []) ticks
  pub waits : hs ≡ ticks ++ known o.token.waiting
  pub at_rest : o.token.pulse ≡ false → hs ≡ ticks
  pub lasted : is_early ≡ true → 2 ≤ length hs

module _ (P : Part) where
  -- As long as the device has not left the bus, it has done what the looks spell and what was handed in, nothing more and
  -- nothing less, in order.
  abbrev pub Faithful : Type 0
  Faithful =
      (s : P.State) (v : Seen) (c : Readings) (ds : List Deed) → (session P s v c ds).token.number ≡ 0
      → Account P s (seen_in v ds) (handed_in ds) (session P s v c ds)

  -- While SCL is low, so also when a pulse opens, the device pulls SDA exactly if it pulls the line of the next Clock.
  abbrev pub Driven : Type 0
  Driven =
      (s : P.State) (v : Seen) (c : Readings) (ds : List Deed) → (session P s v c ds).token.number ≡ 0
      → (session P s v c ds).token.scl ≡ false
      → (session P s v c ds).token.pulling ≡ P.pulls (session P s v c ds).state

  -- The look that sees a pulse open does nothing else: SDA stays, and no event is done.
  abbrev pub Opens : Type 0
  Opens =
      (o : Stood P) (d : Bool) (a b : Readings) → o.token.scl ≡ false → (step P o (saw (High d) a b)).token.number ≡ 0
      → ((step P o (saw (High d) a b)).token.pulse ≡ true) × ((step P o (saw (High d) a b)).token.sda ≡ d)
      × ((step P o (saw (High d) a b)).token.pulling ≡ o.token.pulling) × ((step P o (saw (High d) a b)).state ≡ o.state)

  -- At the look that sees the end of a pulse, before its Clock is done, SDA is already as the Clock will leave it.
  abbrev pub Early : Type 0
  Early =
      (s : P.State) (v : Seen) (c : Readings) (ds : List Deed) → (session P s v c ds).token.number ≡ 0
      → (session P s v c ds).token.pulse ≡ true
      → (look_of (session P s v c ds).token Low).token.pulling
      ≡ P.pulls (P.event (session P s v c ds).state (clock_of (session P s v c ds).token.sda))

  -- Where a pulse ends as a Clock, what waited comes after it; where it ends as a Start or Stop, before.
  abbrev pub AtFall : Type 0
  AtFall =
      (o : Stood P) (a b : Readings) → o.token.scl ≡ true → o.token.pulse ≡ true → (step P o (saw Low a b)).token.number ≡ 0
      → (step P o (saw Low a b)).state ≡ ran P o.state (clock_of o.token.sda ∷ known o.token.waiting)

  abbrev pub AtTurn : Type 0
  AtTurn =
      (o : Stood P) (d : Bool) (a b : Readings) → o.token.scl ≡ true → beq o.token.sda d ≡ false
      → (step P o (saw (High d) a b)).token.number ≡ 0
      → (step P o (saw (High d) a b)).state ≡ ran P o.state (known o.token.waiting ++ (turn_of d ∷ []))

  -- A look that sees SCL high changes nothing of what SDA does, and no handing in does while SCL is high, unless the device
  -- leaves the bus.
  abbrev pub Still : Type 0
  Still =
      (o : Stood P) (d : Bool) (a b : Readings) → (step P o (saw (High d) a b)).token.number ≡ 0
      → (step P o (saw (High d) a b)).token.pulling ≡ o.token.pulling

  abbrev pub StillTold : Type 0
  StillTold =
      (o : Stood P) (e : ℕ) (b : Readings) → o.token.scl ≡ true → (step P o (told e b)).token.number ≡ 0
      → (step P o (told e b)).token.pulling ≡ o.token.pulling

  -- SDA is turned between two readings of SCL that see it low, at the first look, at a look and after events; where one of
  -- them sees it high, the device leaves the bus.
  abbrev pub InTimeFirst : Type 0
  InTimeFirst =
      (s : P.State) (v : Seen) (c : Readings) → (begun P s v c).token.number ≡ 0 → (begun P s v c).token.pulling ≡ true
      → was_high c ≡ false

  abbrev pub InTimeSeen : Type 0
  InTimeSeen =
      (o : Stood P) (v : Seen) (a b : Readings) → (step P o (saw v a b)).token.number ≡ 0
      → beq o.token.pulling (look_of o.token v).token.pulling ≡ false → was_high a ≡ false

  abbrev pub InTime : Type 0
  InTime =
      (o : Stood P) (v : Seen) (a b : Readings) → (step P o (saw v a b)).token.number ≡ 0
      → beq (look_of o.token v).token.pulling (step P o (saw v a b)).token.pulling ≡ false → was_high b ≡ false

  abbrev pub InTimeTold : Type 0
  InTimeTold =
      (o : Stood P) (e : ℕ) (b : Readings) → (step P o (told e b)).token.number ≡ 0
      → beq o.token.pulling (step P o (told e b)).token.pulling ≡ false → was_high b ≡ false

  -- The token has what the part answers as it stands.
  abbrev pub Answers : Type 0
  Answers =
      (s : P.State) (v : Seen) (c : Readings) (ds : List Deed) → (session P s v c ds).token.number ≡ 0
      → (session P s v c ds).token.answer ≡ P.answer (session P s v c ds).state

  -- Once it has left the bus nothing changes any more.
  abbrev pub Stays : Type 0
  Stays = (o : Stood P) (k : Deed) → (o.token.number ≡ 0 → ⊥) → step P o k ≡ o

  -- Under a number that is not 0, SDA is let go.
  abbrev pub LetGo : Type 0
  LetGo =
      (s : P.State) (v : Seen) (c : Readings) (ds : List Deed) → ((session P s v c ds).token.number ≡ 0 → ⊥)
      → (session P s v c ds).token.pulling ≡ false

-- All of it, of a lawful part.
pub record Shown (P : Part) : Type 0 where
  pub faithful : Faithful P
  pub driven : Driven P
  pub opens : Opens P
  pub early : Early P
  pub at_fall : AtFall P
  pub at_turn : AtTurn P
  pub still : Still P
  pub still_told : StillTold P
  pub in_time_first : InTimeFirst P
  pub in_time_seen : InTimeSeen P
  pub in_time : InTime P
  pub in_time_told : InTimeTold P
  pub answers : Answers P
  pub stays : Stays P
  pub let_go : LetGo P
