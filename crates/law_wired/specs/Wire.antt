-- SPDX-License-Identifier: Apache-2.0
-- Several devices on one line (02, number 12), over any devices, each any part.
--   Heard, Bench, Lawful      what a device hears of a tick; the devices; what is asked of them
--   Seat, role_of              a side of a device; what a seat is to a device
--   Word, Turns               a merge of the lists of all seats, with ticks and edges
--   step_wire, run_wire         each device takes each event that it hears; nothing else
--   wire_line, wire_lines       "the line is low if any pulls it low"
--   as_heard                   the merged list as one device has it
--   OnWire                    what then holds of each device
use Rattle.std.specs.Prelude.{ℕ, ◌≡◌, Bool, true, false, List, [], ◌∷◌}
use Rattle.wire.specs.Machine.{Parts, Line, Event, line, tick, State, lined}
use Rattle.wire.specs.declared.Side.{Side}
use Rattle.wire.specs.declared.Side.TheVariants.{Companion}
use Rattle.law_merging.specs.Merge.{Reader, between, next, MayStand, by, keep_if, events_of, list_of}
use Rattle.law_merging.specs.Party.{Party, to, foreign, MayName, is_memory, is_companion, BusEvent, PartyEvent}
use Rattle.law_merging.specs.Apart.{run, answers_of}

-- What a device hears of a tick or an edge on the wire: nothing, or a tick of its own.
pub data Heard (T : Type 0) : Type 0 where
  nothing : Heard T
  this : T → Heard T

pub record Bench : Type 1 where
  pub Dev : Type 0
  pub same : Dev → Dev → Bool
  pub part : Dev → Parts
  -- ticks reach all, a counter edge names its device
  pub Tock : Type 0
  pub hear : (v : Dev) → Tock → Heard (part v).Tick
  -- all of them leave the line high
  pub all : (Dev → Bool) → Bool

-- What is asked of them.
pub record Lawful (B : Bench) : Type 0 where
  pub same_is : (v j : B.Dev) → B.same v j ≡ true → v ≡ j
  -- no slave byte names sides of two devices: "equal selects .. are refused when the set is made"
  pub unlike : (v j : B.Dev) (x : Side) (b : ℕ) → B.same v j ≡ false → MayName (to x) ((B.part v).names b)
      → MayName foreign ((B.part j).names b)
  -- "the line is low if any pulls it low"
  pub all_high : (f : B.Dev → Bool) → ((v : B.Dev) → f v ≡ true) → B.all f ≡ true
  pub one_low : (f : B.Dev → Bool) (v : B.Dev) → f v ≡ false → B.all f ≡ false

-- A side of a device.
pub record Seat (Dev : Type 0) : Type 0 where
  pub at : Dev
  pub side : Side

-- An event on the wire: of a seat's transaction; or a tick or edge.
pub data Word (Dev Tock : Type 0) : Type 0 where
  says : Seat Dev → Line → Word Dev Tock
  ticks : Tock → Word Dev Tock

-- Auxiliary: a seat's party, by whether it is of this device.
abbrev pub role_of : Bool → Side → Party
role_of true x = to x
role_of false x = foreign

-- Auxiliary: what a device hears, as a list of its events.
abbrev pub told : {T : Type 0} → Heard T → List (Event T)
told nothing = []
told (this t) = tick t ∷ []

module _ (B : Bench) where
  -- A merge of the seats' lists of whole transactions, cut anywhere: it is seat a's turn, its reader stands at q,
  -- all others are between transactions. "Inside a transaction of one device, of the others' lists only ticks and
  -- counter edges fall."
  pub data Turns : Seat B.Dev → Reader → List (Word B.Dev B.Tock) → Type 0 where
    done : {a : Seat B.Dev} {q : Reader} → Turns a q []
    turn : {a c : Seat B.Dev} {l : List (Word B.Dev B.Tock)} → Turns c between l → Turns a between l
    bus : {a : Seat B.Dev} {q : Reader} {x : Line} {l : List (Word B.Dev B.Tock)}
        → MayStand (λ b. MayName (to a.side) ((B.part a.at).names b)) q x → Turns a (next q x) l → Turns a q
        (says a x ∷ l)
    tock : {a : Seat B.Dev} {q : Reader} {t : B.Tock} {l : List (Word B.Dev B.Tock)}
        → Turns a q l → Turns a q (ticks t ∷ l)

  abbrev pub Devices : Type 0
  Devices = (v : B.Dev) → State (B.part v)

  abbrev pub hears : (v : B.Dev) → Word B.Dev B.Tock → List (BusEvent (B.part v))
  hears v (says a x) = line x ∷ []
  hears v (ticks t) = told (B.hear v t)

  abbrev pub step_wire : Devices → Word B.Dev B.Tock → Devices
  step_wire s w = λ v. run (B.part v) (s v) (hears v w)

  abbrev pub run_wire : Devices → List (Word B.Dev B.Tock) → Devices
  run_wire s [] = s
  run_wire s (w ∷ l) = run_wire (step_wire s w) l

  -- The line that one device leaves, the master's with its own; the line of all; for a tick it is high.
  abbrev pub line_by : Devices → Line → B.Dev → Bool
  line_by s x v = (lined (B.part v) (s v).phase (s v).memory (s v).companion x).line

  abbrev pub wire_line : Devices → Word B.Dev B.Tock → Bool
  wire_line s (says a x) = B.all (line_by s x)
  wire_line s (ticks t) = true

  abbrev pub wire_lines : Devices → List (Word B.Dev B.Tock) → List Bool
  wire_lines s [] = []
  wire_lines s (w ∷ l) = wire_line s w ∷ wire_lines (step_wire s w) l

  module _ (j : B.Dev) where
    abbrev pub party_of : Seat B.Dev → Party
    party_of a = role_of (B.same a.at j) a.side

    -- The merged list as the device j has it: its own two seats' transactions, all others' as foreign ones, and of
    -- the ticks and edges those that it hears, in its companion's list.
    abbrev pub as_told : Heard (B.part j).Tick → List (PartyEvent (B.part j)) → List (PartyEvent (B.part j))
    as_told nothing l = l
    as_told (this t) l = by (to Companion) (tick t) ∷ l

    abbrev pub as_heard : List (Word B.Dev B.Tock) → List (PartyEvent (B.part j))
    as_heard [] = []
    as_heard (says a x ∷ l) = by (party_of a) (line x) ∷ as_heard l
    as_heard (ticks t ∷ l) = as_told (B.hear j t) (as_heard l)

    -- The words of the lists of some of j's parties: a tick that j hears is in its companion's list.
    abbrev pub told_for : (Party → Bool) → Heard (B.part j).Tick → Bool
    told_for mine nothing = false
    told_for mine (this t) = mine (to Companion)

    abbrev pub word_of : (Party → Bool) → Word B.Dev B.Tock → Bool
    word_of mine (says a x) = mine (party_of a)
    word_of mine (ticks t) = told_for mine (B.hear j t)

    abbrev pub picked_for : (Party → Bool) → List (Word B.Dev B.Tock) → List Bool → List Bool
    picked_for mine [] all = []
    picked_for mine (w ∷ l) [] = []
    picked_for mine (w ∷ l) (d ∷ all) = keep_if (word_of mine w) d (picked_for mine l all)

    abbrev pub memory_list : List (Word B.Dev B.Tock) → List (BusEvent (B.part j))
    memory_list l = list_of is_memory (as_heard l)

    abbrev pub companion_list : List (Word B.Dev B.Tock) → List (BusEvent (B.part j))
    companion_list l = list_of is_companion (as_heard l)

    -- All that the device hears, of whichever list it is.
    abbrev pub heard_list : List (Word B.Dev B.Tock) → List (BusEvent (B.part j))
    heard_list l = events_of (as_heard l)

    -- Demand 3 of the device j: its memory, and the wire's lines in its memory transactions, are as if its memory
    -- list had run on j alone; its companion, and the wire's lines in its companion transactions and at its ticks, as
    -- if its other list had.
    pub record OnWire (s : Devices) (l : List (Word B.Dev B.Tock)) : Type 0 where
      pub memory : (run_wire s l j).memory ≡ (run (B.part j) (s j) (memory_list l)).memory
      pub memory_lines :
          picked_for is_memory l (wire_lines s l) ≡ answers_of (B.part j) (λ a. a.line) (s j) (memory_list l)
      pub companion : (run_wire s l j).companion ≡ (run (B.part j) (s j) (companion_list l)).companion
      pub companion_lines :
          picked_for is_companion l (wire_lines s l) ≡ answers_of (B.part j) (λ a. a.line) (s j) (companion_list l)
