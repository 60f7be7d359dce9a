-- SPDX-License-Identifier: Apache-2.0
-- What a read sends, on event and answer bytes (01, Transfers: "A read uses the current address. The byte is fixed at its
-- first clock; the address steps on at the eighth").
--   Shows                         eight Clocks show the bits of a byte
--   MemorySends, RegisterSends    the statements
use Rattle.std.specs.Prelude.{ℕ, ◌+◌, ◌%◌, ◌≡◌, Bool, List, get_or}
use Rattle.wire.specs.HighFirst.{sent_bits}
use Rattle.wire.specs.Whole.{eight, lower}
use Rattle.wire.specs.declared.Side.TheVariants.{Memory, Companion}
use Rattle.wire.specs.declared.Phase.TheVariants.{Read}
use Rattle.bus.specs.declared.Power.TheVariants.{On}
use Rattle.fm3130_companion.specs.Registers.{register_bytes}
use Rattle.fm3130_companion.specs.Part.{loaded_of}
use Rattle.fm3130.specs.declared.State.{State}
use Rattle.fm3130_list.specs.Run.{run_of}
use Rattle.wire_clocks.specs.Clocks.{clocks_of, lines_of}

-- The Clocks with these lines of the master are answered by the bits of the byte, high bit first, each low too where the
-- master pulls it low.
abbrev pub Shows : State → List ℕ → List Bool → ℕ → Type 0
Shows s m ds byte = lines_of (run_of s m (clocks_of ds)).answers ≡ lower ds (sent_bits byte)

-- A byte from the memory: the one at the memory address, which then steps on, from 1FFFh to 0000h. All else stays.
pub record SentFromMemory (s : State) (m : List ℕ) (ds : List Bool) : Type 0 where
  pub lines : Shows s m ds (get_or m s.address 0)
  pub address : (run_of s m (clocks_of ds)).state.address ≡ (s.address + 1) % 8192
  pub memory : (run_of s m (clocks_of ds)).memory ≡ m
  pub companion : (run_of s m (clocks_of ds)).state.companion ≡ s.companion

abbrev pub MemorySends : Type 0
MemorySends =
    (s : State) (m : List ℕ) (b : ℕ) (d₀ d₁ d₂ d₃ d₄ d₅ d₆ d₇ : Bool) → s.power ≡ On → s.phase ≡ Read Memory 0 b
    → SentFromMemory s m (eight d₀ d₁ d₂ d₃ d₄ d₅ d₆ d₇)

-- Auxiliary: the register at the companion's address.
abbrev pub register_now : State → ℕ
register_now s = get_or (register_bytes s.companion.registers) s.companion.address 0

-- A byte from the registers: the one at the companion's address, which then steps on, from 0Eh to 00h. What else the end of
-- the read does is `loaded_of`, at the byte that was sent.
pub record SentFromRegisters (s : State) (m : List ℕ) (ds : List Bool) : Type 0 where
  pub lines : Shows s m ds (register_now s)
  pub companion_address : (run_of s m (clocks_of ds)).state.companion.address ≡ (s.companion.address + 1) % 15
  pub companion : (run_of s m (clocks_of ds)).state.companion ≡ loaded_of s.companion (register_now s)
  pub address : (run_of s m (clocks_of ds)).state.address ≡ s.address
  pub memory : (run_of s m (clocks_of ds)).memory ≡ m

abbrev pub RegisterSends : Type 0
RegisterSends =
    (s : State) (m : List ℕ) (b : ℕ) (d₀ d₁ d₂ d₃ d₄ d₅ d₆ d₇ : Bool) → s.power ≡ On → s.phase ≡ Read Companion 0 b
    → SentFromRegisters s m (eight d₀ d₁ d₂ d₃ d₄ d₅ d₆ d₇)
