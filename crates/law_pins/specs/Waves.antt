-- SPDX-License-Identifier: Apache-2.0
-- Demand 3 of waveforms: what three sessions on the pins leave that begin with one image and one memory, the third having
-- done a merge of what the first two did.
--   Wave, left_by            a session: its first look, and all that came after; what it leaves
--   Did                     it is on the bus, and has done this list of events
--   Apart                   what holds of the three sessions
--   DemandThreeOfWaves      the demand
use Rattle.std.specs.Prelude.{ℕ, ◌≡◌, List}
use Rattle.fm3130.specs.Chip.{fm3130}
use Rattle.fm3130.specs.declared.State.{State}
use Rattle.law_merging.specs.Merge.{events_of}
use Rattle.law_merging.specs.Party.{BusEvent, PartyEvent}
use Rattle.law_isolation.specs.Demand3.{bytes_of}
use Rattle.law_isolation.specs.Entry.{bytes_at, Asked}
use Rattle.pins_levels.specs.Look.{Readings}
use Rattle.pins_levels.specs.Session.{Deed, seen_in, handed_in}
use Rattle.pins_levels.specs.declared.Seen.{Seen}
use Rattle.c_pins.specs.Entry.{Outcome}
use Rattle.c_pins.specs.Session.{session_on, Faithfully}

pub record Wave : Type 0 where
  pub first : Seen
  pub around : Readings
  pub deeds : List Deed

abbrev pub left_by : List ℕ → List ℕ → Wave → Outcome
left_by i m x = session_on i m x.first x.around x.deeds

-- The list is what its looks spell, merged with what was handed in. Every session on the bus has such a list
-- (`EveryWaveform`, crate `c_pins`).
pub record Did (i m : List ℕ) (s : State) (x : Wave) (es : List ℕ) : Type 0 where
  pub number : (left_by i m x).token.number ≡ 0
  pub account : Faithfully s m (seen_in x.first x.deeds) (handed_in x.deeds) (left_by i m x)
  pub list : account.done ≡ es

-- Memory and its address as the first session left them; registers, core and companion address as the second did.
pub record Apart (first second merged : Outcome) : Type 0 where
  pub memory : merged.memory ≡ first.memory
  pub memory_address : bytes_at 23 2 merged.image ≡ bytes_at 23 2 first.image
  pub registers : bytes_at 0 15 merged.image ≡ bytes_at 0 15 second.image
  pub core : bytes_at 15 7 merged.image ≡ bytes_at 15 7 second.image
  pub companion_address : bytes_at 22 1 merged.image ≡ bytes_at 22 1 second.image

abbrev pub DemandThreeOfWaves : Type 0
DemandThreeOfWaves =
    (i m : List ℕ) (xs ys : List (BusEvent fm3130)) (l : List (PartyEvent fm3130)) → (q : Asked i m xs ys l)
    → (first second merged : Wave)
    → Did i m q.state first (bytes_of xs) → Did i m q.state second (bytes_of ys)
    → Did i m q.state merged (bytes_of (events_of l))
    → Apart (left_by i m first) (left_by i m second) (left_by i m merged)
