-- SPDX-License-Identifier: Apache-2.0
-- A byte written to each of the sixteen registers (02, number 5; document 003, Register Map): what is kept of it, bit by bit, high
-- bit first.
--   flags_bits .. counting_bits        09h, 0Ah, 0Bh, 0Ch after a write
--   after                            the address that follows one
--   write_events, acknowledged        the byte's clocks, with ticks and edges before them; with the ninth
--   Stores                           all that a written byte leaves, and that it is acknowledged
--   FlagsAt .. SerialAt, LockedAt    what is said of each register or row of them; 11h to 18h once SNL is 1
--   FlagsWritten .. LockedWritten    the statements
use Rattle.std.specs.Prelude.{ℕ, ◌+◌, ◌-◌, ◌%◌, ◌≤◌, ◌<◌, ◌≡◌, Bool, true, false, cond, ◌&&◌, ◌||◌, List, [], ◌∷◌, ◌++◌, set}
use Rattle.bits.specs.Weight.{has}
use Rattle.wire.specs.HighFirst.{worth}
use Rattle.wire.specs.declared.Side.TheVariants.{Companion}
use Rattle.wire.specs.declared.Phase.TheVariants.{Write}
use Rattle.bus.specs.declared.Beat.{Beat}
use Rattle.bus.specs.declared.Power.TheVariants.{On}
use Rattle.fm31_counters.specs.declared.Counters.{Counters}
use Rattle.fm31.specs.Run.{run_of}
use Rattle.fm31.specs.declared.State.{State}
use Rattle.wire_clocks.specs.Clocks.{clock_event, eight_clocks, lines_of, last_line}
use Rattle.law_family.specs.Seen.{count_list, register_list}
use Rattle.law_family.specs.Beats.{beat_event, after_beats, among, joined, eight_rows}

-- 003: "09h WTR POR LB - WR3 WR2 WR1 WR0"; the first three "user can only clear".
abbrev pub flags_bits : ℕ → ℕ → ℕ
flags_bits old b =
    worth
    ((has old 0x80 && has b 0x80) ∷ (has old 0x40 && has b 0x40) ∷ (has old 0x20 && has b 0x20) ∷ false
    ∷ has b 0x08 ∷ has b 0x04 ∷ has b 0x02 ∷ has b 0x01 ∷ [])

-- 003: "0Ah WDE - - WDT4 WDT3 WDT2 WDT1 WDT0".
abbrev pub watchdog_bits : ℕ → ℕ
watchdog_bits b =
    worth (has b 0x80 ∷ false ∷ false ∷ has b 0x10 ∷ has b 0x08 ∷ has b 0x04 ∷ has b 0x02 ∷ has b 0x01 ∷ [])

-- 003: "0Bh SNL - - WP1 WP0 VBC VTP1 VTP0"; "the SNL bit cannot be cleared".
abbrev pub control_bits : ℕ → ℕ → ℕ
control_bits old b =
    worth
    ((has old 0x80 || has b 0x80) ∷ false ∷ false ∷ has b 0x10
    ∷ has b 0x08 ∷ has b 0x04 ∷ has b 0x02 ∷ has b 0x01 ∷ [])

-- 003: "0Ch - - - - RC CC C2P C1P".
abbrev pub counting_bits : ℕ → ℕ
counting_bits b = worth (false ∷ false ∷ false ∷ false ∷ has b 0x08 ∷ has b 0x04 ∷ has b 0x02 ∷ has b 0x01 ∷ [])

-- "Rolls from 18h to 09h (our ruling)": sixteen addresses, one after the other.
abbrev pub after : ℕ → ℕ
after a = 0x09 + (a - 0x09 + 1) % 16

-- A byte's eight clocks, ticks and edges before each; then the ninth, where the master's line is d.
abbrev pub write_events : List (List Beat) → ℕ → List ℕ
write_events rows b = among beat_event rows (eight_clocks b)

abbrev pub acknowledged : List (List Beat) → ℕ → Bool → List ℕ
acknowledged rows b d = write_events rows b ++ (clock_event d ∷ [])

module _ (size select : ℕ) where
  -- Auxiliary: the companion as the ticks and edges alone leave it.
  abbrev pub untouched : State → List ℕ → List (List Beat) → Counters
  untouched s m rows = after_beats size select s m (joined rows)

  -- Auxiliary: the companion at the byte's eighth clock.
  abbrev pub written : State → List ℕ → List (List Beat) → ℕ → Counters
  written s m rows b = (run_of size select s m (write_events rows b)).state.counters

  -- "A data byte is stored at its eighth clock" (01): the sixteen registers and the snapshot are then these; the address steps
  -- on; the byte is acknowledged: the device pulls the ninth clock's line low, whatever the master does there.
  pub record Stores (s : State) (m : List ℕ) (rows : List (List Beat)) (b : ℕ) (d : Bool) (bytes frozen : List ℕ)
      : Type 0 where
    pub registers : register_list (written s m rows b).registers ≡ bytes
    pub snapshot : count_list (written s m rows b).snapshot ≡ frozen
    pub companion_address : (written s m rows b).address ≡ after s.counters.address
    pub line : last_line (lines_of (run_of size select s m (acknowledged rows b d)).answers) ≡ false
    pub goes_on : (run_of size select s m (acknowledged rows b d)).state.bus.phase ≡ Write Companion 0 0
    pub memory : (run_of size select s m (acknowledged rows b d)).memory ≡ m

-- A data byte for the companion begins, on main power; what X says of the byte holds, with any ticks and edges between its clocks,
-- at any size and select bits. X is told the companion as those alone leave it: "during a write too (our ruling)".
abbrev pub OfWrites : (Counters → (List ℕ → List ℕ → Type 0) → ℕ → Type 0) → Type 0
OfWrites X =
    (size select : ℕ) (s : State) (m : List ℕ) (b₀ b₁ b₂ b₃ b₄ b₅ b₆ b₇ : List Beat) (b : ℕ) (d : Bool)
    → s.bus.power ≡ On → s.bus.phase ≡ Write Companion 0 0 → b < 256
    → let rows = eight_rows b₀ b₁ b₂ b₃ b₄ b₅ b₆ b₇ in
    X (untouched size select s m rows) (Stores size select s m rows b d) b

-- Auxiliary: the registers with another byte at the address; the snapshot as it is.
abbrev pub with_byte : Counters → ℕ → List ℕ
with_byte c x = set (register_list c.registers) (c.address - 0x09) x

abbrev pub kept : Counters → List ℕ
kept c = count_list c.snapshot

-- Auxiliary: what a statement is of: the companion as ticks and edges alone leave it, what is then stored, and the byte.
abbrev pub Said : Type 1
Said = Counters → (List ℕ → List ℕ → Type 0) → ℕ → Type 0

abbrev pub FlagsAt : Said
FlagsAt c Stored b = c.address ≡ 0x09 → Stored (with_byte c (flags_bits c.registers.flags b)) (kept c)

abbrev pub WatchdogAt : Said
WatchdogAt c Stored b = c.address ≡ 0x0A → Stored (with_byte c (watchdog_bits b)) (kept c)

abbrev pub ControlAt : Said
ControlAt c Stored b = c.address ≡ 0x0B → Stored (with_byte c (control_bits c.registers.control b)) (kept c)

-- 003, RC: "Setting this bit to 1 takes a snapshot of the four counter bytes".
abbrev pub CountingAt : Said
CountingAt c Stored b =
    c.address ≡ 0x0C
    → Stored (with_byte c (counting_bits b)) (cond (has b 0x08) (count_list c.registers.counts) (kept c))

-- 0Dh to 10h: all eight bits, frozen or not (D141).
abbrev pub CounterAt : Said
CounterAt c Stored b = 0x0D ≤ c.address → c.address ≤ 0x10 → Stored (with_byte c b) (kept c)

-- 003, 11h to 18h: "Read/write when SNL=0, read-only when SNL=1". SNL is bit 80h of 0Bh.
abbrev pub SerialAt : Said
SerialAt c Stored b =
    0x11 ≤ c.address → c.address ≤ 0x18 → has c.registers.control 0x80 ≡ false → Stored (with_byte c b) (kept c)

-- "Once SNL is 1 .. writes there are acknowledged and not stored."
abbrev pub LockedAt : Said
LockedAt c Stored b =
    0x11 ≤ c.address → c.address ≤ 0x18 → has c.registers.control 0x80 ≡ true
    → Stored (register_list c.registers) (kept c)

-- The statements.
abbrev pub FlagsWritten : Type 0
FlagsWritten = OfWrites FlagsAt

abbrev pub WatchdogWritten : Type 0
WatchdogWritten = OfWrites WatchdogAt

abbrev pub ControlWritten : Type 0
ControlWritten = OfWrites ControlAt

abbrev pub CountingWritten : Type 0
CountingWritten = OfWrites CountingAt

abbrev pub CounterWritten : Type 0
CounterWritten = OfWrites CounterAt

abbrev pub SerialWritten : Type 0
SerialWritten = OfWrites SerialAt

abbrev pub LockedWritten : Type 0
LockedWritten = OfWrites LockedAt
