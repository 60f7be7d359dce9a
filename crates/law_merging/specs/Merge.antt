-- SPDX-License-Identifier: Apache-2.0
-- Lists of whole transactions of several parties on one bus, merged (01, Transfers: "A whole transaction opens with a
-- Start, ends with its only Stop, and has only Clocks and further Starts between"). Over any parties, and any ticks.
--   Reader, onward, next               where a reader of a party's list stands
--   Calls, MayStand                    what may stand there
--   Said, events_of, picked, list_of     a merged list, with the party of each event
--   Merged                             it is a merge
use Rattle.std.specs.Prelude.{ℕ, ◌+◌, Bool, true, false, List, [], ◌∷◌}
use Rattle.wire.specs.Bits.{pushed, Place, first, within, last, ack, place_at}
use Rattle.wire.specs.Machine.{Line, start, stop, clock, Event, line, tick}

-- Between transactions; in a slave byte, k of whose clocks were seen, with these bits; past a complete slave byte.
pub data Reader : Type 0 where
  between : Reader
  calling : ℕ → ℕ → Reader
  moving : Reader

-- Auxiliary: a Clock within a slave byte. No reader stands at a ninth clock (law `reader_early`).
abbrev pub onward : Place → ℕ → ℕ → Bool → Reader
onward first k b d = calling (k + 1) (pushed b d)
onward within k b d = calling (k + 1) (pushed b d)
onward last k b d = moving
onward ack k b d = moving

-- "Start at any moment begins a slave byte; Stop at any moment ends the transfer."
abbrev pub next : Reader → Line → Reader
next q start = calling 0 0
next q stop = between
next between (clock d) = between
next (calling k b) (clock d) = onward (place_at k) k b d
next moving (clock d) = moving

-- Auxiliary: a slave byte that this Clock completes is the party's own.
abbrev pub Calls : (ℕ → Type 0) → Place → ℕ → Bool → Type 0
Calls Own first b d = Unit {0}
Calls Own within b d = Unit {0}
Calls Own last b d = Own (pushed b d)
Calls Own ack b d = ⊥

-- "Opens with a Start, ends with its only Stop, and has only Clocks and further Starts between"; "every complete slave
-- byte in it names that device": of one that is cut nothing is asked.
abbrev pub MayStand : (ℕ → Type 0) → Reader → Line → Type 0
MayStand Own between start = Unit {0}
MayStand Own between stop = ⊥
MayStand Own between (clock d) = ⊥
MayStand Own (calling k b) start = Unit {0}
MayStand Own (calling k b) stop = Unit {0}
MayStand Own (calling k b) (clock d) = Calls Own (place_at k) b d
MayStand Own moving start = Unit {0}
MayStand Own moving stop = Unit {0}
MayStand Own moving (clock d) = Unit {0}

-- An event, and the party from whose list it comes.
pub data Said (I T : Type 0) : Type 0 where
  by : I → Event T → Said I T

-- What happens on the bus.
abbrev pub events_of : {I T : Type 0} → List (Said I T) → List (Event T)
events_of [] = []
events_of (by i e ∷ l) = e ∷ events_of l

-- Auxiliary.
abbrev pub keep_if : {A : Type 0} → Bool → A → List A → List A
keep_if true a rest = a ∷ rest
keep_if false a rest = rest

-- Of a list with something for each event, what is there for the events of some of the parties.
abbrev pub picked : {I T A : Type 0} → (I → Bool) → List (Said I T) → List A → List A
picked mine [] all = []
picked mine (by i e ∷ l) [] = []
picked mine (by i e ∷ l) (a ∷ all) = keep_if (mine i) a (picked mine l all)

-- The list of some of the parties.
abbrev pub list_of : {I T : Type 0} → (I → Bool) → List (Said I T) → List (Event T)
list_of mine l = picked mine l (events_of l)

-- A merge of the parties' lists of whole transactions, cut anywhere: it is party i's turn, its reader stands at q, and
-- all others are between transactions. A tick may fall anywhere, all else only in its party's turn.
pub data Merged (I T : Type 0) (Own : I → ℕ → Type 0) (OwnTick : I → T → Type 0)
    : I → Reader → List (Said I T) → Type 0 where
  done : {i : I} {q : Reader} → Merged I T Own OwnTick i q []
  turn : {i j : I} {l : List (Said I T)} → Merged I T Own OwnTick j between l → Merged I T Own OwnTick i between l
  bus : {i : I} {q : Reader} {x : Line} {l : List (Said I T)}
      → MayStand (Own i) q x → Merged I T Own OwnTick i (next q x) l → Merged I T Own OwnTick i q (by i (line x) ∷ l)
  ticks : {i j : I} {q : Reader} {t : T} {l : List (Said I T)}
      → OwnTick j t → Merged I T Own OwnTick i q l → Merged I T Own OwnTick i q (by j (tick t) ∷ l)
