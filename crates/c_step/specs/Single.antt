-- SPDX-License-Identifier: Apache-2.0
-- The entry for one event, for C (02, number 4: "Let the tick itself say the highest field that changed"; 01, Entries: "One
-- entry does one event on a state and the lent memory"). `SingleSettled` is its whole outcome.
--   Outcome, refused, told     all that a caller can see; a refusal; an answered event
--   on_decoded, single_of        the tests in the order of the numbers
--   SingleSettled              the entry's contract
use Rattle.std.specs.Prelude.{ℕ, ◌≡◌, cond, List, ◌∷◌, leb, eqb, length, drop, Option, Some, None}
use Rattle.calendar.specs.Highest.{rolled_number}
use Rattle.calendar.specs.declared.Rolled.{Rolled}
use Rattle.numbers.specs.Numbers.{accepted, wrong_memory, unknown_event, short_answers}
use Rattle.fm3130.specs.Chip.{memory_size, Done}
use Rattle.fm3130.specs.Event.{event_of, rolled_in}
use Rattle.fm3130.specs.Answer.{answer_byte}
use Rattle.fm3130.specs.declared.State.{State}
use Rattle.fm3130_image.specs.Image.{image_of, decode_of}
use Rattle.fm3130_image.specs.Reading.{decoded_says}

-- What a caller of the entry can see of it.
pub record Outcome : Type 0 where
  pub number : ℕ
  pub image : List ℕ
  pub memory : List ℕ
  pub told : List ℕ

-- "As 1": nothing is written.
abbrev pub refused : ℕ → List ℕ → List ℕ → List ℕ → Outcome
refused n i m t = record { number = n; image = i; memory = m; told = t }

-- What an answered event leaves and tells: first the answer byte, then the number of the field; bytes past them stay.
abbrev pub answered : Done → Rolled → List ℕ → Outcome
answered d w t =
    record {
      number = accepted;
      image = image_of d.state;
      memory = d.memory;
      told = answer_byte d.state d.line ∷ rolled_number w ∷ drop 2 t;
    }

-- Refused by 3 where the event is above 7, by 4 where fewer than two bytes are lent for what is told.
abbrev pub on_decoded : ℕ → Option State → List ℕ → List ℕ → ℕ → List ℕ → Outcome
on_decoded n None i m e t = refused n i m t
on_decoded n (Some s) i m e t =
    cond (leb e 7)
    (cond (leb 2 (length t)) (answered (event_of s m e) (rolled_in s e) t) (refused short_answers i m t))
    (refused unknown_event i m t)

-- "Checked in the order of the numbers": image, memory, event and what is told to the whole outcome.
unfoldable pub single_of : List ℕ → List ℕ → ℕ → List ℕ → Outcome
single_of i m e t =
    let read = decoded_says (decode_of i) in
    cond (eqb (length m) memory_size) (on_decoded read.number read.returned i m e t) (refused wrong_memory i m t)

-- The contract of `fm3130_step`: what it returns and leaves in the buffers is `single_of` of what it was given.
abbrev pub SingleSettled : List ℕ → List ℕ → ℕ → List ℕ → ℕ → List ℕ → List ℕ → List ℕ → Type 0
SingleSettled i m e t n i' m' t' = record { number = n; image = i'; memory = m'; told = t' } ≡ single_of i m e t
