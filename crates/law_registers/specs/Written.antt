-- SPDX-License-Identifier: Apache-2.0
-- A byte written to each of the fifteen registers (01, Registers): what is stored of it, in masks and bit places.
--   masked, masks                       a byte's bits under a mask; the masks of 02h to 0Eh
--   control_bits, trim_bits               00h and 01h after a write
--   Stores                              what a written byte leaves of the registers, and that it is acknowledged
--   TrimWritten .. AlarmWritten         the statements for 01h to 0Eh
--   ControlWritten, ControlRefused      the statements for 00h
use Rattle.std.specs.Prelude.{ℕ, ◌+◌, ◌-◌, ◌%◌, ◌≤◌, ◌<◌, ◌≡◌, Bool, true, false, cond, ◌&&◌, List, [], ◌∷◌, get_or, set}
use Rattle.bits.specs.Weight.{has}
use Rattle.wire.specs.HighFirst.{sent_bits, worth}
use Rattle.wire.specs.Whole.{lower}
use Rattle.wire.specs.declared.Side.TheVariants.{Companion}
use Rattle.wire.specs.declared.Phase.TheVariants.{Idle, Write}
use Rattle.bus.specs.declared.Power.TheVariants.{On}
use Rattle.calendar.specs.Next.{is_valid}
use Rattle.fm3130_companion.specs.Registers.{register_bytes}
use Rattle.fm3130_companion.specs.declared.Companion as companion
use Rattle.fm3130.specs.declared.State.{State}
use Rattle.fm3130_list.specs.Run.{run_of}
use Rattle.wire_clocks.specs.Clocks.{nine_clocks, lines_of, last_line}

-- Auxiliary: those bits of a byte that a mask has.
abbrev pub masked : ℕ → ℕ → ℕ
masked mask b = worth (lower (sent_bits mask) (sent_bits b))

-- 02h to 08h: "Stored bits: 7Fh, 7Fh, 3Fh, 07h, 3Fh, 1Fh, FFh". 09h to 0Dh: "bit 7 is Match, the rest as the calendar byte".
-- 0Eh: "All eight bits of 0Eh are stored".
abbrev pub masks : List ℕ
masks =
    0x7F ∷ 0x7F ∷ 0x3F ∷ 0x07 ∷ 0x3F ∷ 0x1F ∷ 0xFF
    ∷ 0xFF ∷ 0xFF ∷ 0xBF ∷ 0xBF ∷ 0x9F
    ∷ 0xFF ∷ []

abbrev pub mask_at : ℕ → ℕ
mask_at a = get_or masks (a - 2) 0

-- 00h, high bit first: LB AF CF POR AEN CAL W R. "A write sets AEN, CAL, W, R; can clear LB and POR but not set them; leaves AF
-- and CF."
abbrev pub control_bits : ℕ → ℕ → ℕ
control_bits old b =
    worth
    ((has old 0x80 && has b 0x80) ∷ has old 0x40 ∷ has old 0x20 ∷ (has old 0x10 && has b 0x10)
    ∷ has b 0x08 ∷ has b 0x04 ∷ has b 0x02 ∷ has b 0x01 ∷ [])

-- "01h: OSCEN, 0, CALS, five CAL bits. The last six are stored only if CAL was 1 before the write."
abbrev pub trim_bits : ℕ → ℕ → ℕ → ℕ
trim_bits control old b = masked 0x80 b + masked 0x3F (cond (has control 0x04) b old)

-- Auxiliary: the companion after a byte and its ninth clock, where the master's line is d.
abbrev pub after_byte : State → List ℕ → ℕ → Bool → companion.Companion
after_byte s m b d = (run_of s m (nine_clocks b d)).state.companion

-- The fifteen registers are then these; the core stays; "the address steps on", from 0Eh to 00h; the byte is acknowledged: the
-- device pulls the ninth clock's line low, whatever the master does there.
pub record Stores (s : State) (m : List ℕ) (b : ℕ) (d : Bool) (bytes : List ℕ) : Type 0 where
  pub registers : register_bytes (after_byte s m b d).registers ≡ bytes
  pub core : (after_byte s m b d).core ≡ s.companion.core
  pub companion_address : (after_byte s m b d).address ≡ (s.companion.address + 1) % 15
  pub acknowledged : last_line (lines_of (run_of s m (nine_clocks b d)).answers) ≡ false
  pub memory : (run_of s m (nine_clocks b d)).memory ≡ m

-- A data byte for the companion begins, on main power; what X says of the byte holds.
abbrev pub OfWrites : (State → List ℕ → ℕ → Bool → Type 0) → Type 0
OfWrites X =
    (s : State) (m : List ℕ) (b : ℕ) (d : Bool) → s.power ≡ On → s.phase ≡ Write Companion 0 0 → b < 256 → X s m b d

-- Auxiliary: the registers with another byte at the address.
abbrev pub with_byte : State → ℕ → List ℕ
with_byte s x = set (register_bytes s.companion.registers) s.companion.address x

abbrev pub TrimWritten : Type 0
TrimWritten =
    OfWrites
    (λ s m b d. s.companion.address ≡ 1
    → Stores s m b d (with_byte s (trim_bits s.companion.registers.control s.companion.registers.trim b)))

-- W is bit 02h of 00h. "A write with W = 0 is acknowledged and not stored."
abbrev pub TimeWritten : Type 0
TimeWritten =
    OfWrites
    (λ s m b d. 2 ≤ s.companion.address → s.companion.address ≤ 8 → has s.companion.registers.control 0x02 ≡ true
    → Stores s m b d (with_byte s (masked (mask_at s.companion.address) b)))

abbrev pub TimeLeft : Type 0
TimeLeft =
    OfWrites
    (λ s m b d. 2 ≤ s.companion.address → s.companion.address ≤ 8 → has s.companion.registers.control 0x02 ≡ false
    → Stores s m b d (register_bytes s.companion.registers))

abbrev pub AlarmWritten : Type 0
AlarmWritten =
    OfWrites
    (λ s m b d. 9 ≤ s.companion.address → s.companion.address ≤ 14
    → Stores s m b d (with_byte s (masked (mask_at s.companion.address) b)))

-- 00h and the order of its write (ruling): "if W falls, the core takes 02h to 08h; then if R rises, 02h to 08h take the core;
-- then if both are 0, 02h to 08h take the core". R is bit 01h. 01h and 09h to 0Eh stay.
pub record ControlStores (s : State) (m : List ℕ) (b : ℕ) (d : Bool) : Type 0 where
  pub control : (after_byte s m b d).registers.control ≡ control_bits s.companion.registers.control b
  pub w_falls : has s.companion.registers.control 0x02 ≡ true → has b 0x02 ≡ false
      → (after_byte s m b d).core ≡ s.companion.registers.time
  pub w_was_low : has s.companion.registers.control 0x02 ≡ false → (after_byte s m b d).core ≡ s.companion.core
  pub w_is_high : has b 0x02 ≡ true → (after_byte s m b d).core ≡ s.companion.core
  pub r_rises : has s.companion.registers.control 0x01 ≡ false → has b 0x01 ≡ true
      → (after_byte s m b d).registers.time ≡ (after_byte s m b d).core
  pub both_low : has b 0x02 ≡ false → has b 0x01 ≡ false → (after_byte s m b d).registers.time ≡ (after_byte s m b d).core
  pub r_stays : has s.companion.registers.control 0x01 ≡ true → has b 0x01 ≡ true
      → (after_byte s m b d).registers.time ≡ s.companion.registers.time
  pub w_alone : has b 0x02 ≡ true → has b 0x01 ≡ false
      → (after_byte s m b d).registers.time ≡ s.companion.registers.time
  pub trim : (after_byte s m b d).registers.trim ≡ s.companion.registers.trim
  pub alarm : (after_byte s m b d).registers.alarm ≡ s.companion.registers.alarm
  pub setup : (after_byte s m b d).registers.setup ≡ s.companion.registers.setup
  pub companion_address : (after_byte s m b d).address ≡ 1
  pub acknowledged : last_line (lines_of (run_of s m (nine_clocks b d)).answers) ≡ false
  pub memory : (run_of s m (nine_clocks b d)).memory ≡ m

-- Unless W falls over 02h to 08h that are not a valid calendar.
abbrev pub ControlWritten : Type 0
ControlWritten =
    OfWrites
    (λ s m b d. s.companion.address ≡ 0
    → (has s.companion.registers.control 0x02 ≡ true → has b 0x02 ≡ false → is_valid s.companion.registers.time ≡ true)
    → ControlStores s m b d)

-- 02, number 6: "do not acknowledge it, leave 00h and the core alone, and end the transfer"; "The address steps on".
pub record ControlLeft (s : State) (m : List ℕ) (b : ℕ) (d : Bool) : Type 0 where
  pub registers : (after_byte s m b d).registers ≡ s.companion.registers
  pub core : (after_byte s m b d).core ≡ s.companion.core
  pub companion_address : (after_byte s m b d).address ≡ 1
  pub refused : last_line (lines_of (run_of s m (nine_clocks b d)).answers) ≡ d
  pub ended : (run_of s m (nine_clocks b d)).state.phase ≡ Idle

abbrev pub ControlRefused : Type 0
ControlRefused =
    OfWrites
    (λ s m b d. s.companion.address ≡ 0
    → has s.companion.registers.control 0x02 ≡ true → has b 0x02 ≡ false → is_valid s.companion.registers.time ≡ false
    → ControlLeft s m b d)
