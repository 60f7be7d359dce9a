-- SPDX-License-Identifier: Apache-2.0
-- The FM3130 as a part on the two wires: its state with the lent memory; 01's events; the line of the next Clock; the answer
-- byte of any event but a Clock, which has the ACS pin's function.
use Rattle.std.specs.Prelude.{ℕ, ◌≡◌, true, List}
use Rattle.fm3130.specs.Answer.{answer_byte}
use Rattle.fm3130.specs.Chip.{Done}
use Rattle.fm3130.specs.Event.{event_of}
use Rattle.fm3130.specs.declared.State.{State}
use Rattle.fm3130_image.specs.Image.{image_of, candidate}
use Rattle.c_line.specs.Line.{pulls}
use Rattle.c_line.specs.Wires.{is_eighth}
use Rattle.pins_levels.specs.Session.{Part, ran}

pub record Held : Type 0 where
  pub state : State
  pub memory : List ℕ

abbrev pub held : State → List ℕ → Held
held s m = record { state = s; memory = m }

abbrev pub after : Done → Held
after d = held d.state d.memory

abbrev pub fm3130_on : Part
fm3130_on =
    record {
      State = Held;
      event = λ h e. after (event_of h.state h.memory e);
      pulls = λ h. pulls h.state h.memory;
      eighth = λ h. is_eighth h.state.phase;
      answer = λ h. answer_byte h.state true;
    }

-- Auxiliary: events on image and memory.
pub record RanOn (i m es i' m' : List ℕ) : Type 0 where
  pub image : i' ≡ image_of (ran fm3130_on (held (candidate i) m) es).state
  pub memory : m' ≡ (ran fm3130_on (held (candidate i) m) es).memory
