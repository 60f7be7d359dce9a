-- SPDX-License-Identifier: Apache-2.0
-- A session as firmware runs it: one word of 64 bits, image and memory are handed from call to call, and what is handed in
-- are numbers. It is the session of looks and events, of which everything is shown.
--   Kept, Call, deed_of    what is kept; a look or an event, in numbers; what it is
--   turn_on, turns_on       one turn of the loop, by the contracts of the entries; all of them
--   InWords               what is kept is that session, and the bits that C reads are its own
use Rattle.std.specs.Prelude.{ℕ, ◌/◌, ◌%◌, ◌≡◌, List, [], ◌∷◌, eqb}
use Rattle.pins_levels.specs.Look.{stayed}
use Rattle.pins_levels.specs.Packed.{packed, unpacked, levels_of, readings_of}
use Rattle.pins_levels.specs.Session.{Deed, saw, told}
use Rattle.c_pins.specs.Entry.{Outcome, settle_of}
use Rattle.c_pins.specs.Session.{session_on}
use Rattle.c_pins.specs.Words.{begin_word, look_word, driven_word, hand_word, event_of_word}

pub record Kept : Type 0 where
  pub word : ℕ
  pub image : List ℕ
  pub memory : List ℕ

abbrev pub kept : ℕ → List ℕ → List ℕ → Kept
kept w i m = record { word = w; image = i; memory = m }

-- A look: its three readings, and the two readings of SCL around SDA at the look and after the events; an event, and those
-- after it.
pub data Call : Type 0 where
  looks : ℕ → ℕ → ℕ → Call
  hands : ℕ → ℕ → Call

abbrev pub deed_of : Call → Deed
deed_of (looks n a b) = saw (levels_of n) (readings_of a) (readings_of b)
deed_of (hands e b) = told (event_of_word e) (readings_of b)

abbrev pub deeds_of : List Call → List Deed
deeds_of [] = []
deeds_of (k ∷ ks) = deed_of k ∷ deeds_of ks

-- What was found is done, and SDA is turned after that.
abbrev pub due_on : List ℕ → List ℕ → ℕ → ℕ → Kept
due_on i m w b =
    let o = settle_of i m (unpacked w) in
    kept (driven_word w (packed (stayed o.token)) b) o.image o.memory

abbrev pub turn_on : Kept → Call → Kept
turn_on k (looks n a b) = due_on k.image k.memory (driven_word k.word (look_word k.word n) a) b
turn_on k (hands e b) = due_on k.image k.memory (hand_word k.image k.word e) b

-- Calls are listed newest first. Before the first word SDA is let go: that is the word 0.
abbrev pub turns_on : List ℕ → List ℕ → ℕ → ℕ → List Call → Kept
turns_on i m n c [] = kept (driven_word 0 (begin_word i m n) c) i m
turns_on i m n c (k ∷ ks) = turn_on (turns_on i m n c ks) k

-- A session laid down in a word.
abbrev pub in_word : Outcome → Kept
in_word o = kept (packed (stayed o.token)) o.image o.memory

pub record Spoken (i m : List ℕ) (n c : ℕ) (ks : List Call) (o : Outcome) : Type 0 where
  pub kept : turns_on i m n c ks ≡ in_word o
  pub number : (turns_on i m n c ks).word / 0x10000 % 256 ≡ o.token.number
  pub pulled : eqb ((turns_on i m n c ks).word / 8 % 2) 1 ≡ o.token.pulling
  pub answer : (turns_on i m n c ks).word / 0x1000 % 16 ≡ o.token.answer

-- Of every image and memory, accepted or not, and of all numbers.
abbrev pub InWords : Type 0
InWords =
    (i m : List ℕ) (n c : ℕ) (ks : List Call)
    → Spoken i m n c ks (session_on i m (levels_of n) (readings_of c) (deeds_of ks))
