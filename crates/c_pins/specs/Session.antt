-- SPDX-License-Identifier: Apache-2.0
-- The FM3130 on its two wires: a session of the functions on image and memory, and what is shown of every one, in 01's words.
--   step_on, session_on    a deed, a session, by the contracts of `look`, `driven`, `settle`, `hand` (`due`) and `begin`
--   Faithfully, OnWires  image and memory are those of 01's list run on what the looks spell, merged with what was handed in
--   LooksOnly, StillHigh, StaysLeft, Refused   the list run on what looks spell; SDA while SCL is high; after the bus was left
--   WireIsLine           the wire's level at a Clock is bit 0 of 01's answer to it
--   TicksKeepEighth      a tick leaves an eighth Clock's line
--   masked, Hidden       what the wires spell of a master's Clocks where the device hides their level; that it does no harm
use Rattle.std.specs.Prelude.{ℕ, ◌≤◌, ◌≡◌, Bool, true, false, cond, not, ◌&&◌, List, [], ◌∷◌, ◌++◌, eqb, length, Some, None}
use Rattle.fm3130.specs.Chip.{memory_size}
use Rattle.fm3130.specs.Event.{event_of}
use Rattle.fm3130.specs.Limits.{well_formed}
use Rattle.fm3130.specs.declared.State.{State}
use Rattle.fm3130_image.specs.Image.{image_of, decode_of}
use Rattle.numbers.specs.Numbers.{wrong_memory, wrong_state}
use Rattle.fm3130_list.specs.Run.{run_of}
use Rattle.c_line.specs.Line.{pulls, pulls_after}
use Rattle.c_line.specs.Wires.{is_eighth}
use Rattle.pins_levels.specs.Wave.{spelt, clock_of}
use Rattle.pins_levels.specs.Look.{Readings, look_of, driven_of, hand_of, known}
use Rattle.pins_levels.specs.Session.{Deed, saw, told, seen_in, handed_in, under_way, Merged}
use Rattle.pins_levels.specs.declared.Seen.{Seen}
use Rattle.pins_levels.specs.declared.Seen.TheVariants.{Low, High}
use Rattle.pins_levels.specs.declared.Token.{Token}
use Rattle.pins_levels.specs.declared.Due.{Due}
use Rattle.c_pins.specs.Entry.{Outcome, outcome, settle_of, begin_of, eighth_in}

-- What a look found due, on a token that was driven since.
abbrev pub on_token : Token → Due → Due
on_token t d = record { token = t; first = d.first; second = d.second; third = d.third }

unfoldable pub step_on : Outcome → Deed → Outcome
step_on o (saw v a b) =
    let d = look_of o.token v in
    let t = driven_of o.token.pulling d.token a in
    let r = settle_of o.image o.memory (on_token t d) in
    outcome (driven_of t.pulling r.token b) r.image r.memory
step_on o (told e b) =
    let d = hand_of o.token e (eighth_in o.image) in
    let r = settle_of o.image o.memory d in
    outcome (driven_of d.token.pulling r.token b) r.image r.memory

-- Deeds are listed newest first; the first look, and SCL as it was read after SDA was turned then.
unfoldable pub session_on : List ℕ → List ℕ → Seen → Readings → List Deed → Outcome
session_on i m v c [] = outcome (driven_of false (begin_of i m v) c) i m
session_on i m v c (k ∷ ds) = step_on (session_on i m v c ds) k

-- What image and memory have come to, from the state s: `done` is the list that 01's list run would be given.
pub record Faithfully (s : State) (m : List ℕ) (w : List Seen) (hs : List ℕ) (o : Outcome) : Type 0 where
  pub done : List ℕ
  pub ticks : List ℕ
  pub is_early : Bool
  pub image : o.image ≡ image_of (run_of s m done).state
  pub memory : o.memory ≡ (run_of s m done).memory
  pub merged : Merged done (spelt w ++ cond is_early (under_way w) []) ticks
  pub waits : hs ≡ ticks ++ known o.token.waiting
  pub at_rest : o.token.pulse ≡ false → hs ≡ ticks
  pub lasted : is_early ≡ true → 2 ≤ length hs

-- Whether the device pulls the next Clock's line, by the state that lies in the image.
abbrev pub pulls_in : List ℕ → List ℕ → Bool → Type 0
pulls_in i m p = (s : State) → decode_of i ≡ Some s → p ≡ pulls s m

-- Of every accepted image and memory, and every session, as long as the device has not left the bus.
pub record OnWires (i m : List ℕ) (s : State) (v : Seen) (c : Readings) (ds : List Deed) : Type 0 where
  pub faithful : Faithfully s m (seen_in v ds) (handed_in ds) (session_on i m v c ds)
  pub driven : (session_on i m v c ds).token.scl ≡ false
      → pulls_in (session_on i m v c ds).image (session_on i m v c ds).memory (session_on i m v c ds).token.pulling
  -- at the fall of SCL, before the Clock is done, SDA is as the Clock will leave it
  pub early : (session_on i m v c ds).token.pulse ≡ true
      → (x : State) → decode_of (session_on i m v c ds).image ≡ Some x
      → (look_of (session_on i m v c ds).token Low).token.pulling
      ≡ pulls_after x (session_on i m v c ds).memory (clock_of (session_on i m v c ds).token.sda)

abbrev pub EveryWaveform : Type 0
EveryWaveform =
    (i m : List ℕ) (s : State) → length m ≡ memory_size → decode_of i ≡ Some s → (v : Seen) (c : Readings) (ds : List Deed)
    → (session_on i m v c ds).token.number ≡ 0 → OnWires i m s v c ds

-- A look that sees SCL high never changes what SDA does, unless the device leaves the bus.
abbrev pub StillHigh : Type 0
StillHigh =
    (i m : List ℕ) (s : State) → length m ≡ memory_size → decode_of i ≡ Some s → (v : Seen) (c : Readings) (ds : List Deed)
    → (d : Bool) (a b : Readings) → (session_on i m v c (saw (High d) a b ∷ ds)).token.number ≡ 0
    → (session_on i m v c (saw (High d) a b ∷ ds)).token.pulling ≡ (session_on i m v c ds).token.pulling

-- Once it has left the bus, under whatever number and with whatever image and memory, nothing changes any more.
abbrev pub StaysLeft : Type 0
StaysLeft = (o : Outcome) (k : Deed) → (o.token.number ≡ 0 → ⊥) → step_on o k ≡ o

-- An image or a memory that is refused: the device has left the bus, and neither was written.
pub record NotBegun (i m : List ℕ) (v : Seen) (c : Readings) (ds : List Deed) (n : ℕ) : Type 0 where
  pub number : (session_on i m v c ds).token.number ≡ n
  pub pulling : (session_on i m v c ds).token.pulling ≡ false
  pub image : (session_on i m v c ds).image ≡ i
  pub memory : (session_on i m v c ds).memory ≡ m

abbrev pub Refused : Type 0
Refused =
    (i m : List ℕ) (v : Seen) (c : Readings) (ds : List Deed)
    → ((length m ≡ memory_size → ⊥) → NotBegun i m v c ds wrong_memory)
    × (length m ≡ memory_size → decode_of i ≡ None → NotBegun i m v c ds wrong_state)

-- Where nothing is handed in, it is the list run on what the looks spell.
abbrev pub LooksOnly : Type 0
LooksOnly =
    (i m : List ℕ) (s : State) → length m ≡ memory_size → decode_of i ≡ Some s → (v : Seen) (c : Readings) (ds : List Deed)
    → handed_in ds ≡ [] → (session_on i m v c ds).token.number ≡ 0
    → ((session_on i m v c ds).image ≡ image_of (run_of s m (spelt (seen_in v ds))).state)
    × ((session_on i m v c ds).memory ≡ (run_of s m (spelt (seen_in v ds))).memory)

-- The wire is low if the master or the device pulls it: that is bit 0 of 01's answer to the Clock.
abbrev pub WireIsLine : Type 0
WireIsLine = (s : State) (m : List ℕ) (d : Bool) → (event_of s m (clock_of d)).line ≡ (d && not (pulls s m))

-- At a byte's eighth Clock a tick leaves the line that the device shows, and where the transfer stands: so ticks may go before
-- that Clock while its pulse is open.
pub record EighthKept (s : State) (m : List ℕ) : Type 0 where
  pub line : is_eighth s.phase ≡ true → pulls (event_of s m 4).state (event_of s m 4).memory ≡ pulls s m
  pub phase : (event_of s m 4).state.phase ≡ s.phase

abbrev pub TicksKeepEighth : Type 0
TicksKeepEighth = (s : State) (m : List ℕ) → well_formed s ≡ true → length m ≡ memory_size → EighthKept s m

-- What the wires spell of a master's events: a Clock is low where the device pulls its line.
abbrev pub shown_as : Bool → ℕ → ℕ
shown_as p e = cond (eqb e 3) (cond p 2 3) e

unfoldable pub masked : State → List ℕ → List ℕ → List ℕ
masked s m [] = []
masked s m (e ∷ es) = shown_as (pulls s m) e ∷ masked (event_of s m e).state (event_of s m e).memory es

-- State, memory and answers are those of the master's own list.
abbrev pub Hidden : Type 0
Hidden = (s : State) (m es : List ℕ) → run_of s m (masked s m es) ≡ run_of s m es
