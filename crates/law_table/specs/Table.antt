-- SPDX-License-Identifier: Apache-2.0
-- 01, The table to prove: K1 to K12 as one list of cases and one statement over it. Each case says, in the words of its
-- line, what the device does for any lent memory.
--   Case, Holds    the kinds of case, and what each says          table, Table   the list, and the statement
use Rattle.std.specs.Prelude.{ℕ, ◌%◌, ◌≡◌, Bool, true, false, cond, List, [], ◌∷◌, ◌++◌, length, set}
use Rattle.bits.specs.Weight.{has}
use Rattle.calendar.specs.Cases.{K1, K2, K3, K4, K5, K6, K7}
use Rattle.calendar.specs.Cases as Calendars
use Rattle.fm3130_registers.specs.Map.{AF, CF}
use Rattle.fm3130.specs.Chip.{memory_size}
use Rattle.fm3130.specs.Power.{fresh}
use Rattle.fm3130.specs.declared.State.{State}
use Rattle.fm3130_image.specs.Image.{image_of}
use Rattle.fm3130_list.specs.Run.{run_of, outcome_of}
use Rattle.law_table.specs.Script.{clocks_of, sent, memory_write, companion_write, with_setup, running, alarmed}

pub data Case : Type 0 where
  -- a tick takes a running device's core from one calendar to another, and sets CF or not
  ticks : Calendars.Case → Case
  -- a tick leaves the core as it is, and after it AF and CF are as said
  stays : State → (af cf : Bool) → Case
  -- after these events the memory is as it was, and the line of the last one is high (true) or low
  refuses : State → List ℕ → Bool → Case
  -- the same, and the memory address is as said
  refuses_at : State → List ℕ → Bool → (then : ℕ) → Case
  -- after these events the memory has a byte at an address, is else as it was, and the memory address is as said
  stores : State → List ℕ → (at byte then : ℕ) → Case
  -- the line of the last event, at which the master leaves it high, is high (true) or low
  lines : State → List ℕ → Bool → Case
  -- the list run on a fresh image gives these answers, number 0 and as many as the events
  answers : List ℕ → List ℕ → Case

-- Auxiliary: bit 0 of the last answer.
abbrev pub last_line : List ℕ → ℕ
last_line [] = 1
last_line (a ∷ []) = a % 2
last_line (a ∷ b ∷ l) = last_line (b ∷ l)

-- The list run: its number, its count and its answers, in a buffer as long as the events.
pub record Gives (m es told buffer : List ℕ) : Type 0 where
  pub number : (outcome_of (image_of fresh) m es buffer).number ≡ 0
  pub count : (outcome_of (image_of fresh) m es buffer).count ≡ length es
  pub answered : (outcome_of (image_of fresh) m es buffer).answers ≡ told

abbrev pub Holds : Case → List ℕ → Type 0
Holds (ticks k) m =
    let c = (run_of (running k.from) m (4 ∷ [])).state.companion in
    (c.core ≡ k.to) × (has c.registers.control CF ≡ k.century)
Holds (stays s af cf) m =
    let c = (run_of s m (4 ∷ [])).state.companion in
    (c.core ≡ s.companion.core) × (has c.registers.control AF ≡ af) × (has c.registers.control CF ≡ cf)
Holds (refuses s es line) m = ((run_of s m es).memory ≡ m) × (last_line (run_of s m es).answers ≡ cond line 1 0)
Holds (refuses_at s es line then) m =
    ((run_of s m es).memory ≡ m) × (last_line (run_of s m es).answers ≡ cond line 1 0) × ((run_of s m es).state.address ≡ then)
Holds (stores s es at byte then) m = ((run_of s m es).memory ≡ set m at byte) × ((run_of s m es).state.address ≡ then)
Holds (lines s es line) m = last_line (run_of s m es).answers ≡ cond line 1 0
Holds (answers es told) m = (buffer : List ℕ) → length buffer ≡ length es → Gives m es told buffer

abbrev pub AllHold : List Case → List ℕ → Type 0
AllHold [] m = Unit {0}
AllHold (k ∷ ks) m = Holds k m × AllHold ks m

-- "One exact run. Fresh device, events 00 03 02 03 02 02 02 02 02 03 01 (Start, slave byte A0h, acknowledge clock, Stop).
-- Answers 05 05 04 05 04 04 04 04 04 04 05, count 11."
abbrev pub exact_events : List ℕ
exact_events = 0 ∷ 3 ∷ 2 ∷ 3 ∷ 2 ∷ 2 ∷ 2 ∷ 2 ∷ 2 ∷ 3 ∷ 1 ∷ []

abbrev pub exact_answers : List ℕ
exact_answers = 5 ∷ 5 ∷ 4 ∷ 5 ∷ 4 ∷ 4 ∷ 4 ∷ 4 ∷ 4 ∷ 4 ∷ 5 ∷ []

-- "K1 .. K12", line by line; 5Ah and FFh stand for any byte.
abbrev pub table : List Case
table =
    ticks K1 ∷ ticks K2 ∷ ticks K3 ∷ ticks K4 ∷ ticks K5 ∷ ticks K6 ∷ ticks K7
    -- K7 31/04 stays: AF and CF too, though with no alarm field selected every advance would set AF
    ∷ stays (alarmed 0x00 K7.from) false false ∷ stays (alarmed 0x60 K7.from) true true
    -- K8 WP 01: 07FFh refused, and the address after it is 0800h (02, number 3); 0800h stored
    ∷ refuses_at (with_setup 0x08) (memory_write 0x07 0xFF ++ sent 0x5A) true 0x0800
    ∷ stores (with_setup 0x08) (memory_write 0x08 0x00 ++ sent 0x5A) 0x0800 0x5A 0x0801
    ∷ lines (with_setup 0x08) (memory_write 0x08 0x00 ++ sent 0x5A) false
    -- K9 a write at 1FFFh leaves address 0000h
    ∷ stores fresh (memory_write 0x1F 0xFF ++ sent 0x5A) 0x1FFF 0x5A 0x0000
    -- K10 companion address 0Eh acknowledged, 0Fh not
    ∷ lines fresh (companion_write ++ sent 0x0E) false
    ∷ lines fresh (companion_write ++ sent 0x0F) true
    -- K11 seven data clocks then Stop: old byte; eight then power lost, with backup or without: new byte
    ∷ refuses fresh (memory_write 0x00 0x05 ++ (3 ∷ 3 ∷ 3 ∷ 3 ∷ 3 ∷ 3 ∷ 3 ∷ 1 ∷ [])) true
    ∷ stores fresh (memory_write 0x00 0x05 ++ (clocks_of 0xFF ++ (5 ∷ []))) 0x0005 0xFF 0x0000
    ∷ stores fresh (memory_write 0x00 0x05 ++ (clocks_of 0xFF ++ (6 ∷ []))) 0x0005 0xFF 0x0000
    -- K12 the exact run
    ∷ answers exact_events exact_answers
    ∷ []

-- The whole table, for any memory of the right length.
abbrev pub Table : Type 0
Table = (m : List ℕ) → length m ≡ memory_size → AllHold table m
