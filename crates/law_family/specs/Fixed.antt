-- SPDX-License-Identifier: Apache-2.0
-- A read whose clocks have ticks and edges before and between them (01, Transfers: "The byte is fixed at its first clock; the
-- address steps on at the eighth"; 003, RC: "allowing a stable value even if a count occurs during the read").
--   read_events                 eight Clocks, each after its ticks and edges
--   SendsByte, Leaves          what is sent; what is left
--   RegisterFixed, FrozenFixed a register as it is at the first clock; while RC is 1 a counter byte as RC found it
--   MemoryFixed                a byte of the memory
use Rattle.std.specs.Prelude.{ℕ, ◌+◌, ◌-◌, ◌%◌, ◌≤◌, ◌≡◌, Bool, true, false, cond, ◌&&◌, List, [], ◌∷◌, leb, eqb, get_or, set}
use Rattle.bits.specs.Weight.{has}
use Rattle.wire.specs.HighFirst.{worth, sent_bits}
use Rattle.wire.specs.Whole.{eight, lower}
use Rattle.wire.specs.declared.Side.{Side}
use Rattle.wire.specs.declared.Side.TheVariants.{Memory, Companion}
use Rattle.wire.specs.declared.Phase.TheVariants.{Read}
use Rattle.bus.specs.declared.Beat.{Beat}
use Rattle.bus.specs.declared.Power.TheVariants.{On}
use Rattle.fm31_counters.specs.declared.Counters.{Counters}
use Rattle.fm31.specs.Run.{run_of}
use Rattle.fm31.specs.declared.State.{State}
use Rattle.wire_clocks.specs.Clocks.{clocks_of, lines_of}
use Rattle.law_family.specs.Seen.{count_list, register_list}
use Rattle.law_family.specs.Beats.{beat_event, after_beats, among, eight_rows}
use Rattle.law_family.specs.Written.{after, untouched}

abbrev pub read_events : List (List Beat) → List Bool → List ℕ
read_events rows ds = among beat_event rows (clocks_of ds)

-- Auxiliary: the line of a tick and of an edge.
abbrev pub at_rest : Beat → Bool
at_rest b = true

-- 0Ch once RC, bit 3, was cleared.
abbrev pub released : ℕ → ℕ
released counting =
    worth (false ∷ false ∷ false ∷ false ∷ false ∷ has counting 0x04 ∷ has counting 0x02 ∷ has counting 0x01 ∷ [])

-- 003: "The RC bit will be automatically cleared": once the last of the four counter bytes, 10h, was read (D137). 0Ch is the fourth
-- register.
abbrev pub once_read : Counters → List ℕ
once_read c =
    cond (eqb c.address 0x10) (set (register_list c.registers) 3 (released c.registers.counting))
    (register_list c.registers)

-- While RC, bit 3 of 0Ch, is 1, 0Dh to 10h are read as it found them.
abbrev pub is_frozen : Counters → Bool
is_frozen c = has c.registers.counting 0x08 && (leb 0x0D c.address && leb c.address 0x10)

module _ (size select : ℕ) where
  -- The line of each event: 1 at a tick and at an edge; at a Clock the byte's bit, high bit first, low too where the master pulls
  -- it low.
  abbrev pub SendsByte : State → List ℕ → List (List Beat) → List Bool → ℕ → Type 0
  SendsByte s m rows ds byte =
      lines_of (run_of size select s m (read_events rows ds)).answers ≡ among at_rest rows (lower ds (sent_bits byte))

  -- Auxiliary: the companion after the read.
  abbrev pub read_to : State → List ℕ → List (List Beat) → List Bool → Counters
  read_to s m rows ds = (run_of size select s m (read_events rows ds)).state.counters

  -- The registers are as the ticks and edges alone leave them, but that a read of 10h clears RC; the snapshot and the memory stay;
  -- the address steps on.
  pub record Leaves (s : State) (m : List ℕ) (rows : List (List Beat)) (ds : List Bool) : Type 0 where
    pub registers : register_list (read_to s m rows ds).registers ≡ once_read (untouched size select s m rows)
    pub snapshot : count_list (read_to s m rows ds).snapshot ≡ count_list s.counters.snapshot
    pub companion_address : (read_to s m rows ds).address ≡ after s.counters.address
    pub memory : (run_of size select s m (read_events rows ds)).memory ≡ m
    pub address : (run_of size select s m (read_events rows ds)).state.bus.address ≡ s.bus.address

-- A byte of this side under way with no clock done, on main power: what X says of it holds, whatever the ticks and edges before its
-- clocks and the master's lines at them.
abbrev pub OfReads : Side → (ℕ → ℕ → State → List ℕ → List Beat → List (List Beat) → List Bool → Type 0) → Type 0
OfReads side X =
    (size select : ℕ) (s : State) (m : List ℕ) (b : ℕ) (b₀ b₁ b₂ b₃ b₄ b₅ b₆ b₇ : List Beat) (d₀ d₁ d₂ d₃ d₄ d₅ d₆ d₇ : Bool)
    → s.bus.power ≡ On → s.bus.phase ≡ Read side 0 b
    → X size select s m b₀ (eight_rows b₀ b₁ b₂ b₃ b₄ b₅ b₆ b₇) (eight d₀ d₁ d₂ d₃ d₄ d₅ d₆ d₇)

-- The register as it is just before the byte's first clock.
abbrev pub RegisterAt : ℕ → ℕ → State → List ℕ → List Beat → List (List Beat) → List Bool → Type 0
RegisterAt size select s m first rows ds =
    let c = after_beats size select s m first in
    0x09 ≤ s.counters.address → s.counters.address ≤ 0x18 → is_frozen c ≡ false
    → SendsByte size select s m rows ds (get_or (register_list c.registers) (s.counters.address - 0x09) 0)
    × Leaves size select s m rows ds

abbrev pub RegisterFixed : Type 0
RegisterFixed = OfReads Companion RegisterAt

-- 0Dh to 10h while RC is 1: as RC found them, whatever edges came since.
abbrev pub FrozenAt : ℕ → ℕ → State → List ℕ → List Beat → List (List Beat) → List Bool → Type 0
FrozenAt size select s m first rows ds =
    is_frozen s.counters ≡ true
    → SendsByte size select s m rows ds (get_or (count_list s.counters.snapshot) (s.counters.address - 0x0D) 0)
    × Leaves size select s m rows ds

abbrev pub FrozenFixed : Type 0
FrozenFixed = OfReads Companion FrozenAt

-- A byte from the memory: the one at its address; the address steps on, from the last to 0, and the companion is as the ticks and
-- edges alone leave it.
pub record MemoryRead (size select : ℕ) (s : State) (m : List ℕ) (first : List Beat) (rows : List (List Beat)) (ds : List Bool)
    : Type 0 where
  pub lines : SendsByte size select s m rows ds (get_or m s.bus.address 0)
  pub address : (run_of size select s m (read_events rows ds)).state.bus.address ≡ (s.bus.address + 1) % size
  pub memory : (run_of size select s m (read_events rows ds)).memory ≡ m
  pub companion : read_to size select s m rows ds ≡ untouched size select s m rows

abbrev pub MemoryFixed : Type 0
MemoryFixed = OfReads Memory MemoryRead
