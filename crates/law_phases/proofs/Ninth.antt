-- SPDX-License-Identifier: Apache-2.0
-- The ninth clock of a read. It computes, of either device; the Clocks after a transfer has ended leave all as it is, by
-- induction on their list. A line is bit 0 of an answer, which is twice the pin's number and the line.
use Prim.Native.Nat.{ℕ, ◌+◌, ◌*◌, ◌/◌, ◌%◌}
use mathlib.Core.Path.{◌≡◌, refl, sym, ap, ◌∙◌}
use mathlib.Core.Bool.{Bool, true, false, cond}
use mathlib.Core.List.{List, [], ◌∷◌}
use native.Mathlib.Omega.{arith}
use lib.Dec.{eqb}
use lib.ListN.{get_or}
use borrow.Author.Tests.{eqb-true, eqb-false}
use Rattle.bits.proofs.Cases.{by_cond}
use Rattle.wire.specs.Bits.{sent_bit, place_at}
use Rattle.wire.specs.Clock.{more, sent_at}
use Rattle.wire.specs.Machine.{clocked, lined}
use Rattle.wire.specs.declared.Side.TheVariants.{Memory, Companion}
use Rattle.wire.specs.declared.Phase.TheVariants.{Idle, Read}
use Rattle.fm3130_companion.specs.Part.{stepped_of, load_of, loaded_of}
use Rattle.fm3130_companion.specs.declared.Companion as chip
use Rattle.fm3130.specs.Event.{happening, event_on}
use Rattle.fm3130_list.specs.Run.{run_of}
use Rattle.law_phases.specs.Frames.{live}
use Rattle.law_phases.specs.Ninth.{clocks, lines, bits, register_list, HighEnds, LowGoesOn, StepsOn}

line_low : (n : ℕ) → (2 * n + 0) % 2 ≡ 0
line_low n = omega arith

line_high : (n : ℕ) → (2 * n + 1) % 2 ≡ 1
line_high n = omega arith

line_of : (n : ℕ) (d : Bool) → (2 * n + cond d 1 0) % 2 ≡ cond d 1 0
line_of n true = line_high n
line_of n false = line_low n

-- Clocks outside a transfer
record Stays (a : ℕ) (c : chip.Companion) (m : List ℕ) (ds : List Bool) : Type 0 where
  state : (run_of (live Idle a c) m (clocks ds)).state ≡ live Idle a c
  memory : (run_of (live Idle a c) m (clocks ds)).memory ≡ m
  seen : lines (run_of (live Idle a c) m (clocks ds)).answers ≡ bits ds

module _ (a : ℕ) (c : chip.Companion) (m : List ℕ) where
  stays : (ds : List Bool) → Stays a c m ds
  unfolding run_of happening event_on lined clocked
  stays [] = record { state = refl; memory = refl; seen = refl }
  stays (true ∷ ds) =
      let r = stays ds in
      record {
        state = r.state;
        memory = r.memory;
        seen =
            ap (λ (x : ℕ). x ∷ lines (run_of (live Idle a c) m (clocks ds)).answers) (line_high _)
            ∙ ap (λ (l : List ℕ). 1 ∷ l) r.seen;
      }
  stays (false ∷ ds) =
      let r = stays ds in
      record {
        state = r.state;
        memory = r.memory;
        seen =
            ap (λ (x : ℕ). x ∷ lines (run_of (live Idle a c) m (clocks ds)).answers) (line_low _)
            ∙ ap (λ (l : List ℕ). 0 ∷ l) r.seen;
      }

pub high_ends : HighEnds
unfolding run_of happening event_on lined clocked sent_at place_at more
high_ends Memory b a c m ds =
    let r = stays a c m ds in
    record {
      state = r.state;
      memory = r.memory;
      lines =
          ap (λ (x : ℕ). x ∷ lines (run_of (live Idle a c) m (clocks ds)).answers) (line_high _)
          ∙ ap (λ (l : List ℕ). 1 ∷ l) r.seen;
    }
high_ends Companion b a c m ds =
    let r = stays a c m ds in
    record {
      state = r.state;
      memory = r.memory;
      lines =
          ap (λ (x : ℕ). x ∷ lines (run_of (live Idle a c) m (clocks ds)).answers) (line_high _)
          ∙ ap (λ (l : List ℕ). 1 ∷ l) r.seen;
    }

-- the first bit of a byte
high_bit : (byte : ℕ) → cond (sent_bit 0 byte) 1 0 ≡ byte / 128 % 2
unfolding sent_bit
high_bit byte = by (eqb (byte / 128 % 2) 1) refl
  where
    by : (t : Bool) → eqb (byte / 128 % 2) 1 ≡ t → cond t 1 0 ≡ byte / 128 % 2
    by true h = sym (eqb-true (byte / 128 % 2) 1 h)
    by false h = let n = eqb-false (byte / 128 % 2) 1 h in omega arith

two_lines : (x y : ℕ) (byte : ℕ)
    → lines ((2 * x + 0) ∷ (2 * y + cond (sent_bit 0 byte) 1 0) ∷ []) ≡ 0 ∷ byte / 128 % 2 ∷ []
two_lines x y byte =
    ap (λ (z : ℕ). z ∷ (2 * y + cond (sent_bit 0 byte) 1 0) % 2 ∷ []) (line_low x)
    ∙ ap (λ (z : ℕ). 0 ∷ z ∷ []) (line_of y (sent_bit 0 byte) ∙ high_bit byte)

pub low_goes_on : LowGoesOn
unfolding run_of happening event_on lined clocked sent_at place_at more load_of
low_goes_on =
    record {
      from_memory = λ b a c m. record { state = refl; memory = refl; lines = two_lines _ _ (get_or m a 0) };
      from_registers =
          λ b a c m.
          record {
            state = refl;
            memory = refl;
            lines = two_lines _ _ (get_or (register_list c.registers) c.address 0);
          };
    }

-- the end of a read steps the companion's address
loaded_steps : (c : chip.Companion) (b : ℕ) → (loaded_of c b).address ≡ (c.address + 1) % 15
unfolding loaded_of
loaded_steps c b =
    by_cond (λ (x : chip.Companion). (stepped_of x).address ≡ (c.address + 1) % 15) (eqb c.address 0) (λ h. refl)
    (λ h. refl)

memory_steps : (b a : ℕ) (c : chip.Companion) (m : List ℕ) (d : Bool)
    → (run_of (live (Read Memory 7 b) a c) m (cond d 3 2 ∷ [])).state ≡ live (Read Memory 8 b) ((a + 1) % 8192) c
unfolding run_of happening event_on lined clocked sent_at place_at
memory_steps b a c m true = refl
memory_steps b a c m false = refl

registers_step : (b a : ℕ) (c : chip.Companion) (m : List ℕ) (d : Bool)
    → let r = (run_of (live (Read Companion 7 b) a c) m (cond d 3 2 ∷ [])).state in
    (r.phase ≡ Read Companion 8 b) × (r.address ≡ a) × (r.companion.address ≡ (c.address + 1) % 15)
unfolding run_of happening event_on lined clocked sent_at place_at
registers_step b a c m true = (refl, refl, loaded_steps c b)
registers_step b a c m false = (refl, refl, loaded_steps c b)

pub steps_on : StepsOn
steps_on = record { from_memory = memory_steps; from_registers = registers_step }
