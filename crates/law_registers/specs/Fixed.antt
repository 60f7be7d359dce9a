-- SPDX-License-Identifier: Apache-2.0
-- A read whose clocks have ticks before and between them (01, Transfers: "The byte is fixed at its first clock"; Registers:
-- "Reading 00h clears, at the eighth clock, those of AF and CF that the byte sent showed as 1"; Errors that come easily:
-- "though a tick raised it after the byte was fixed: an alarm vanishes").
--   read_events                  eight Clocks, each after its ticks
--   RegisterFixed, MemoryFixed  what is sent, and what else the ticks do: what they do without a read
--   ControlCleared, ControlKept 00h after a read of 00h, and after one of another register
--   RaisedStays                 a flag that a tick raised after the byte was fixed
use Rattle.std.specs.Prelude.{ℕ, ◌+◌, ◌/◌, ◌%◌, ◌≡◌, Bool, true, false, not, ◌&&◌, List, [], ◌∷◌, get_or}
use Rattle.bits.specs.Weight.{has}
use Rattle.wire.specs.HighFirst.{sent_bits}
use Rattle.wire.specs.Whole.{eight, lower}
use Rattle.wire.specs.declared.Side.{Side}
use Rattle.wire.specs.declared.Side.TheVariants.{Memory, Companion}
use Rattle.wire.specs.declared.Phase.TheVariants.{Read}
use Rattle.bus.specs.declared.Power.TheVariants.{On}
use Rattle.fm3130_companion.specs.Registers.{register_bytes}
use Rattle.fm3130.specs.declared.State.{State}
use Rattle.fm3130_list.specs.Run.{run_of}
use Rattle.wire_clocks.specs.Clocks.{clocks_of, lines_of}
use Rattle.law_registers.specs.Ticks.{total, spaced, after_ticks}

abbrev pub read_events : List ℕ → List Bool → List ℕ
read_events ns ds = spaced 4 ns (clocks_of ds)

-- The line of each event: 1 at a tick; at a Clock the byte's bit, high bit first, low too where the master pulls it low.
abbrev pub SendsByte : State → List ℕ → List ℕ → List Bool → ℕ → Type 0
SendsByte s m ns ds byte =
    lines_of (run_of s m (read_events ns ds)).answers ≡ spaced true ns (lower ds (sent_bits byte))

-- A byte of this side under way with no clock done, on main power: what X says of it holds, whatever the counts of ticks
-- before its clocks and the master's lines at them.
abbrev pub OfReads : Side → (State → List ℕ → ℕ → List ℕ → List Bool → Type 0) → Type 0
OfReads side X =
    (s : State) (m : List ℕ) (b n₀ n₁ n₂ n₃ n₄ n₅ n₆ n₇ : ℕ) (d₀ d₁ d₂ d₃ d₄ d₅ d₆ d₇ : Bool)
    → s.power ≡ On → s.phase ≡ Read side 0 b
    → X s m n₀ (n₀ ∷ n₁ ∷ n₂ ∷ n₃ ∷ n₄ ∷ n₅ ∷ n₆ ∷ n₇ ∷ []) (eight d₀ d₁ d₂ d₃ d₄ d₅ d₆ d₇)

-- The register as it is just before the byte's first clock is what goes out. The address steps on, from 0Eh to 00h; the
-- other registers, the core and the memory are as the ticks alone leave them.
pub record RegisterRead (s : State) (m : List ℕ) (first : ℕ) (ns : List ℕ) (ds : List Bool) : Type 0 where
  pub lines : SendsByte s m ns ds (get_or (register_bytes (after_ticks s m first).registers) s.companion.address 0)
  pub companion_address : (run_of s m (read_events ns ds)).state.companion.address ≡ (s.companion.address + 1) % 15
  pub trim : (run_of s m (read_events ns ds)).state.companion.registers.trim ≡ (after_ticks s m (total ns)).registers.trim
  pub time : (run_of s m (read_events ns ds)).state.companion.registers.time ≡ (after_ticks s m (total ns)).registers.time
  pub alarm : (run_of s m (read_events ns ds)).state.companion.registers.alarm ≡ (after_ticks s m (total ns)).registers.alarm
  pub setup : (run_of s m (read_events ns ds)).state.companion.registers.setup ≡ (after_ticks s m (total ns)).registers.setup
  pub core : (run_of s m (read_events ns ds)).state.companion.core ≡ (after_ticks s m (total ns)).core
  pub memory : (run_of s m (read_events ns ds)).memory ≡ m
  pub address : (run_of s m (read_events ns ds)).state.address ≡ s.address

abbrev pub RegisterFixed : Type 0
RegisterFixed = OfReads Companion RegisterRead

-- 00h after its read: of AF (40h) and CF (20h) those stay that the ticks alone would have left and that the byte sent did
-- not show; the other bits are as the ticks alone leave them.
pub record FlagsShownCleared (byte ticked after : ℕ) : Type 0 where
  pub af : has after 0x40 ≡ (has ticked 0x40 && not (has byte 0x40))
  pub cf : has after 0x20 ≡ (has ticked 0x20 && not (has byte 0x20))
  pub above : after / 0x80 ≡ ticked / 0x80
  pub below : after % 0x20 ≡ ticked % 0x20

-- What X says of 00h: in the byte sent, as all the ticks alone leave it, and after the read.
abbrev pub OfControl : (ℕ → ℕ → ℕ → Type 0) → State → List ℕ → ℕ → List ℕ → List Bool → Type 0
OfControl X s m first ns ds =
    X (after_ticks s m first).registers.control (after_ticks s m (total ns)).registers.control
    (run_of s m (read_events ns ds)).state.companion.registers.control

abbrev pub ClearedAt : State → List ℕ → ℕ → List ℕ → List Bool → Type 0
ClearedAt s m first ns ds = s.companion.address ≡ 0 → OfControl FlagsShownCleared s m first ns ds

abbrev pub ControlCleared : Type 0
ControlCleared = OfReads Companion ClearedAt

-- A read of any other register leaves 00h to the ticks.
abbrev pub KeptAt : State → List ℕ → ℕ → List ℕ → List Bool → Type 0
KeptAt s m first ns ds = (s.companion.address ≡ 0 → ⊥) → OfControl (λ byte ticked after. after ≡ ticked) s m first ns ds

abbrev pub ControlKept : Type 0
ControlKept = OfReads Companion KeptAt

-- Where "a tick raised it after the byte was fixed", the byte did not show the flag, and by the ticks alone it is there at the
-- end. Then it is there after the read. AF, and CF.
abbrev pub StaysRaised : ℕ → ℕ → ℕ → Type 0
StaysRaised byte ticked after =
    (has byte 0x40 ≡ false → has ticked 0x40 ≡ true → has after 0x40 ≡ true)
    × (has byte 0x20 ≡ false → has ticked 0x20 ≡ true → has after 0x20 ≡ true)

abbrev pub RaisedStays : Type 0
RaisedStays = OfReads Companion (λ s m first ns ds. s.companion.address ≡ 0 → OfControl StaysRaised s m first ns ds)

-- A byte from the memory: the one at its address; the address steps on, from 1FFFh to 0000h, and the companion is as the
-- ticks alone leave it.
pub record MemoryRead (s : State) (m : List ℕ) (first : ℕ) (ns : List ℕ) (ds : List Bool) : Type 0 where
  pub lines : SendsByte s m ns ds (get_or m s.address 0)
  pub address : (run_of s m (read_events ns ds)).state.address ≡ (s.address + 1) % 8192
  pub memory : (run_of s m (read_events ns ds)).memory ≡ m
  pub companion : (run_of s m (read_events ns ds)).state.companion ≡ after_ticks s m (total ns)

abbrev pub MemoryFixed : Type 0
MemoryFixed = OfReads Memory MemoryRead
