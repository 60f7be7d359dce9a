-- SPDX-License-Identifier: Apache-2.0
-- The contracts of the entries, in words of 64 bits.
--   begin_word, look_word, driven_word, hand_word                the words that are returned
--   BeginSettled, LookSettled, DrivenSettled, HandSettled    the contracts
--   DueSettled                                               of what is due: the word, image and memory
use Rattle.std.specs.Prelude.{ℕ, ◌≡◌, cond, List, ltb}
use Rattle.pins_levels.specs.Look.{stayed, look_of, driven_of, hand_of}
use Rattle.pins_levels.specs.Packed.{packed, unpacked, levels_of, readings_of}
use Rattle.c_pins.specs.Entry.{begin_of, settle_of, eighth_in}
use Rattle.c_pins.specs.Session.{on_token}

-- Image, memory and three readings.
abbrev pub begin_word : List ℕ → List ℕ → ℕ → ℕ
begin_word i m n = packed (stayed (begin_of i m (levels_of n)))

abbrev pub BeginSettled : List ℕ → List ℕ → ℕ → ℕ → Type 0
BeginSettled i m n r = r ≡ begin_word i m n

-- A word and three readings.
abbrev pub look_word : ℕ → ℕ → ℕ
look_word w n = packed (look_of (unpacked w).token (levels_of n))

abbrev pub LookSettled : ℕ → ℕ → ℕ → Type 0
LookSettled w n r = r ≡ look_word w n

-- The word before, this word, and the two readings around the turning of SDA.
abbrev pub driven_word : ℕ → ℕ → ℕ → ℕ
driven_word b w n =
    packed (on_token (driven_of (unpacked b).token.pulling (unpacked w).token (readings_of n)) (unpacked w))

abbrev pub DrivenSettled : ℕ → ℕ → ℕ → ℕ → Type 0
DrivenSettled b w n r = r ≡ driven_word b w n

-- An event above 7 is 8, which no part has.
abbrev pub event_of_word : ℕ → ℕ
event_of_word e = cond (ltb 7 e) 8 e

-- An image, a word and an event.
abbrev pub hand_word : List ℕ → ℕ → ℕ → ℕ
hand_word i w e = packed (hand_of (unpacked w).token (event_of_word e) (eighth_in i))

abbrev pub HandSettled : List ℕ → ℕ → ℕ → ℕ → Type 0
HandSettled i w e r = r ≡ hand_word i w e

-- What is due was done: the word that is left, image and memory.
pub record DueSettled (i m : List ℕ) (w r : ℕ) (i' m' : List ℕ) : Type 0 where
  pub word : r ≡ packed (stayed (settle_of i m (unpacked w)).token)
  pub image : i' ≡ (settle_of i m (unpacked w)).image
  pub memory : m' ≡ (settle_of i m (unpacked w)).memory
