-- SPDX-License-Identifier: Apache-2.0
-- A byte from the master at its eighth clock, where it is taken or refused, and at its ninth (01, Transfers).
--   ended, NotAcknowledged        what a refused byte leaves          Acknowledged   what a taken byte leaves
--   SlaveRefused                  a slave byte
--   PointerTaken, PointerRefused  the address byte of a companion write
--   DataStored, DataRefused       a data byte for the memory, unprotected and protected
use Rattle.std.specs.Prelude.{ℕ, ◌+◌, ◌%◌, ◌<◌, ◌≤◌, ◌≡◌, Bool, true, false, List, set}
use Rattle.wire.specs.Bits.{pushed}
use Rattle.wire.specs.declared.Side.TheVariants.{Memory}
use Rattle.wire.specs.declared.Phase.{Phase}
use Rattle.wire.specs.declared.Phase.TheVariants.{Idle, Slave, Pointer, Write}
use Rattle.bus.specs.declared.Power.TheVariants.{On}
use Rattle.fm3130_companion.specs.Change.{with_address}
use Rattle.fm3130_companion.specs.declared.Companion.{Companion}
use Rattle.fm3130.specs.Event.{event_of}
use Rattle.fm3130.specs.declared.State.{State}
use Rattle.law_table.specs.Stored.{clock_event, Pulls}
use Rattle.law_table.specs.Protected.{Protected}

-- Auxiliary: a device on main power.
abbrev pub live : Phase → ℕ → Companion → State
live p a c = record { power = On; phase = p; address = a; companion = c }

-- "Not acknowledged, transfer ended": already at the eighth clock. Memory and companion are as they were, the memory
-- address is as said; the ninth clock, outside a transfer, has the master's line.
pub record NotAcknowledged (s : State) (m : List ℕ) (d : Bool) (a : ℕ) : Type 0 where
  pub eighth : event_of s m (clock_event d) ≡ record { state = live Idle a s.companion; memory = m; line = d }
  pub ninth : (high : Bool) → (event_of (live Idle a s.companion) m (clock_event high)).line ≡ high

-- Acknowledged: state and memory after the eighth clock, and the device itself pulls the ninth clock's line low.
pub record Acknowledged (s : State) (m : List ℕ) (d : Bool) (s' : State) (m' : List ℕ) : Type 0 where
  pub eighth : event_of s m (clock_event d) ≡ record { state = s'; memory = m'; line = d }
  pub ninth : Pulls s' m'

-- Seven clocks of a byte are done, with the bits b; the eighth has the data line d, so the byte is `pushed b d`.
abbrev pub AtEighth : (ℕ → Phase) → (State → List ℕ → Bool → ℕ → Type 0) → Type 0
AtEighth phase X =
    (s : State) (m : List ℕ) (b : ℕ) (d : Bool) → s.power ≡ On → s.phase ≡ phase b → X s m d (pushed b d)

-- "Any other (ruling) is not acknowledged, and the device waits for a Start."
abbrev pub SlaveRefused : Type 0
SlaveRefused =
    AtEighth (Slave 7)
    (λ s m d w. (w ≡ 0xA0 → ⊥) → (w ≡ 0xA1 → ⊥) → (w ≡ 0xD0 → ⊥) → (w ≡ 0xD1 → ⊥) → NotAcknowledged s m d s.address)

-- "Companion write: one address byte, taken at its eighth clock."
abbrev pub PointerTaken : Type 0
PointerTaken =
    AtEighth (Pointer 7)
    (λ s m d w. w ≤ 0x0E → Acknowledged s m d (live (Pointer 8 w) s.address (with_address s.companion w)) m)

-- "Above 0Eh: not acknowledged, transfer ended, old address stands."
abbrev pub PointerRefused : Type 0
PointerRefused = AtEighth (Pointer 7) (λ s m d w. 0x0E < w → NotAcknowledged s m d s.address)

-- "A data byte is stored at its eighth clock, and then the address steps on. Memory goes from 1FFFh to 0000h."
abbrev pub DataStored : Type 0
DataStored =
    AtEighth (Write Memory 7)
    (λ s m d w. Protected s s.address ≡ false
    → Acknowledged s m d (live (Write Memory 8 w) ((s.address + 1) % 8192) s.companion) (set m s.address w))

-- 02, number 3: "a refused data byte steps the address too, from 1FFFh to 0000h".
abbrev pub address_after_refused : ℕ → ℕ
address_after_refused a = (a + 1) % 8192

-- "A data byte to a protected address is not acknowledged .. and the transfer ends (ruling)"; 02, number 3: it "still changes no
-- memory".
abbrev pub DataRefused : Type 0
DataRefused =
    AtEighth (Write Memory 7)
    (λ s m d w. Protected s s.address ≡ true → NotAcknowledged s m d (address_after_refused s.address))
