-- SPDX-License-Identifier: Apache-2.0
-- A written memory data byte, over any size, names and companion: the events of its eight clocks, what they are worth,
-- and when the device acknowledges it (01, Transfers: "Acknowledged means that the device itself pulls the ninth
-- clock's line low, whatever the master does there").
--   Byte                 the events of one byte
--   AtData, Pulls        a data byte begins; the device pulls the line low
--   BeatsKeep            what is asked of the companion: no tick and no edge changes its protection
--   AcknowledgedStored   the statement
use Rattle.std.specs.Prelude.{ℕ, suc, ◌<◌, ◌≡◌, Bool, false, List, [], ◌∷◌, ◌++◌, length, get_or, set}
use Rattle.wire.specs.Bits.{pushed}
use Rattle.wire.specs.declared.Side.TheVariants.{Memory}
use Rattle.wire.specs.declared.Phase.TheVariants.{Write}
use Rattle.wire.specs.declared.Named.{Named}
use Rattle.bus.specs.Desk.{Desks}
use Rattle.bus.specs.declared.Beat.{Beat}
use Rattle.bus.specs.declared.Power.TheVariants.{On}
use Rattle.bus.specs.declared.Bus.{Bus}
use Rattle.law_parts.specs.Events.{clock_event, tick_byte, Held, event, after_events}

-- The rest of a byte: n clocks of it are still to come, `from` is worth the bits so far, and `whole` the byte in the
-- end. Between its clocks a tick of the part, or a return of power that is there already, may fall.
pub data Rest (D : Desks) : (n from whole : ℕ) → List ℕ → Type 0 where
  none : {b : ℕ} → Rest D 0 b b []
  bit : {n b w : ℕ} {es : List ℕ} (d : Bool) → Rest D n (pushed b d) w es → Rest D (suc n) b w (clock_event d ∷ es)
  beat : {n b w : ℕ} {es : List ℕ} (t : D.Tick) → Rest D n b w es → Rest D n b w (tick_byte D t ∷ es)
  power : {n b w : ℕ} {es : List ℕ} → Rest D n b w es → Rest D n b w (7 ∷ es)

-- The events of a whole byte, high bit first.
abbrev pub Byte : Desks → ℕ → List ℕ → Type 0
Byte D w es = Rest D 8 0 w es

-- A data byte of a memory write is about to begin.
pub record AtData (u : Bus) : Type 0 where
  pub power : u.power ≡ On
  pub phase : u.phase ≡ Write Memory 0 0

-- The memory holds the byte w at the address a, and is else as it was.
pub record StoredAt (m : List ℕ) (a w : ℕ) (m' : List ℕ) : Type 0 where
  pub whole : m' ≡ set m a w
  pub byte : get_or m' a 0 ≡ w

abbrev pub BeatsKeep : Desks → Type 0
BeatsKeep D = (t : Beat) (c : D.Desk) → D.guard (D.ticked t c) ≡ D.guard c

module _ (size : ℕ) (names : ℕ → Named) (D : Desks) where
  -- The device itself pulls the line of the next Clock low: though the master leaves it high, it is low.
  abbrev pub Pulls : Held size names D → Type 0
  Pulls h = (event size names D h 3).line ≡ false

  -- Demand 2: an acknowledged memory byte is stored at its address. From whatever the part holds, whatever the events
  -- before: where a data byte of a memory write begins at an address inside the memory, its eight clocks come, and the
  -- device itself pulls the ninth clock's line low, the memory then is as it was but for that byte at the address.
  abbrev pub AcknowledgedStored : Type 0
  AcknowledgedStored =
      (h : Held size names D) (before byte : List ℕ) (w : ℕ) (d : Bool) → let begun = after_events size names D h
      before in
      begun.bus.address < length begun.memory → AtData begun.bus → Byte D w byte
      → Pulls (after_events size names D h (before ++ byte))
      → StoredAt begun.memory begun.bus.address w
      (after_events size names D h (before ++ (byte ++ (clock_event d ∷ [])))).memory
