-- SPDX-License-Identifier: Apache-2.0
-- A read with ticks between its clocks: what the eight clocks lead to, beside what the ticks alone lead to.
use Prim.Native.Nat.{ℕ, ◌+◌, ◌%◌}
use mathlib.Core.Path.{◌≡◌, refl, sym, ap, subst, ◌∙◌}
use mathlib.Core.Bool.{Bool, true, false, not, ◌&&◌}
use mathlib.Core.List.{List}
use lib.ListN.{get_or}
use Rattle.wire.specs.HighFirst.{sent_bits}
use Rattle.wire.specs.Whole.{eight, lower}
use Rattle.wire.specs.declared.Side.{Side}
use Rattle.wire.specs.declared.Side.TheVariants.{Memory, Companion}
use Rattle.wire.specs.declared.Phase.TheVariants.{Read}
use Rattle.fm3130_companion.specs.declared.Companion as companion
use Rattle.fm3130_companion.specs.Registers.{register_bytes}
use Rattle.fm3130_companion.specs.Part.{control_read, stepped_of, load_of, loaded_of}
use Rattle.fm3130.specs.declared.State.{State}
use Rattle.fm3130_list.specs.Run.{run_of}
use Rattle.law_transfers.proofs.Runs.{Leads}
use Rattle.law_transfers.proofs.Written.{on_bus}
use Rattle.law_registers.specs.Ticks.{total, spaced, after_ticks}
use Rattle.law_registers.specs.Fixed.{read_events, OfReads, ClearedAt, KeptAt, RegisterRead, RegisterFixed, FlagsShownCleared, ControlCleared, ControlKept, RaisedStays, MemoryRead, MemoryFixed}
use Rattle.law_registers.proofs.Clocking.{Desk, counts_of, register_run, memory_run, on_bus_lem, loaded_keeps, loaded_address, loaded_control, loaded_other, cleared, sent_now, all_alone, all_address}
use Rattle.law_registers.proofs.Ticks.{ticked, ticked_all}

-- a byte from the registers
module _ (a : ℕ) (m : List ℕ) (c : Desk) (b n₀ n₁ n₂ n₃ n₄ n₅ n₆ n₇ : ℕ) (d₀ d₁ d₂ d₃ d₄ d₅ d₆ d₇ : Bool) where
  abbrev counts : List ℕ
  counts = counts_of n₀ n₁ n₂ n₃ n₄ n₅ n₆ n₇

  abbrev lines : List Bool
  lines = eight d₀ d₁ d₂ d₃ d₄ d₅ d₆ d₇

  abbrev run : Leads (on_bus (Read Companion 0 b) a c) m (read_events counts lines)
      (on_bus (Read Companion 8 (load_of (ticked n₀ c))) a (loaded_of (ticked_all counts c) (load_of (ticked n₀ c)))) m
      (spaced true counts (lower lines (sent_bits (load_of (ticked n₀ c)))))
  run = register_run a m c b n₀ n₁ n₂ n₃ n₄ n₅ n₆ n₇ d₀ d₁ d₂ d₃ d₄ d₅ d₆ d₇

  abbrev here : State
  here = on_bus (Read Companion 0 b) a c

  abbrev fixed_byte : ℕ
  fixed_byte = load_of (ticked n₀ c)

  abbrev left : Desk
  left = (run_of here m (read_events counts lines)).state.companion

  abbrev alone : Desk
  alone = after_ticks here m (total counts)

  read_ends : left ≡ loaded_of (ticked_all counts c) fixed_byte
  read_ends = ap (λ (z : State). z.companion) run.state

  -- what the end of a read leaves alone is as the ticks alone leave it
  as_alone : {A : Type 0} (f : Desk → A)
      → ((k : Desk) → f (stepped_of (control_read k fixed_byte)) ≡ f k) → ((k : Desk) → f (stepped_of k) ≡ f k) → f left ≡ f alone
  as_alone f x y =
      let k = ticked_all counts c in
      ap f read_ends ∙ (loaded_keeps k fixed_byte f (x k) (y k) ∙ ap f (all_alone (Read Companion 0 b) a m c counts))

  register_read : RegisterRead here m n₀ counts lines
  register_read =
      let p = Read Companion 0 b in
      let k = ticked_all counts c in
      record {
        lines =
            run.lines
            ∙ ap (λ (z : ℕ). spaced true counts (lower lines (sent_bits z))) (sent_now p a m c n₀);
        companion_address =
            ap (λ (z : Desk). z.address) read_ends
            ∙ (loaded_address k fixed_byte ∙ ap (λ (z : ℕ). (z + 1) % 15) (all_address p a m c counts));
        trim = as_alone (λ (z : Desk). z.registers.trim) (λ k. refl) (λ k. refl);
        time = as_alone (λ (z : Desk). z.registers.time) (λ k. refl) (λ k. refl);
        alarm = as_alone (λ (z : Desk). z.registers.alarm) (λ k. refl) (λ k. refl);
        setup = as_alone (λ (z : Desk). z.registers.setup) (λ k. refl) (λ k. refl);
        core = as_alone (λ (z : Desk). z.core) (λ k. refl) (λ k. refl);
        memory = run.memory;
        address = ap (λ (z : State). z.address) run.state;
      }

  -- the control register as ticks alone leave it before the first clock, where that is the register read
  fixed_control : c.address ≡ 0 → fixed_byte ≡ (after_ticks here m n₀).registers.control
  fixed_control e =
      sent_now (Read Companion 0 b) a m c n₀
      ∙ ap (λ (z : ℕ). get_or (register_bytes (after_ticks here m n₀).registers) z 0) e

  control_left : c.address ≡ 0
      → FlagsShownCleared (after_ticks here m n₀).registers.control alone.registers.control left.registers.control
  control_left e =
      let p = Read Companion 0 b in
      let k = ticked_all counts c in
      let after =
      ap (λ (z : Desk). z.registers.control) read_ends ∙ loaded_control k fixed_byte (all_address p a m c counts ∙ e) in
      rw (after, fixed_control e, all_alone p a m c counts)
      (cleared (after_ticks here m n₀).registers.control alone.registers.control)

  control_alone : (c.address ≡ 0 → ⊥) → left.registers.control ≡ alone.registers.control
  control_alone n =
      let p = Read Companion 0 b in
      let k = ticked_all counts c in
      ap (λ (z : Desk). z.registers.control) read_ends
      ∙ (loaded_other k fixed_byte (λ e. n (sym (all_address p a m c counts) ∙ e))
      ∙ ap (λ (z : Desk). z.registers.control) (all_alone p a m c counts))

  memory_read_lem : MemoryRead (on_bus (Read Memory 0 b) a c) m n₀ counts lines
  memory_read_lem =
      let memory = memory_run a m c b n₀ n₁ n₂ n₃ n₄ n₅ n₆ n₇ d₀ d₁ d₂ d₃ d₄ d₅ d₆ d₇ in
      record {
        lines = memory.lines;
        address = ap (λ (z : State). z.address) memory.state;
        memory = memory.memory;
        companion =
            ap (λ (z : State). z.companion) memory.state ∙ all_alone (Read Memory 0 b) a m c counts;
      }

-- from a state on the bus to every state
pub of_reads : (side : Side) (X : State → List ℕ → ℕ → List ℕ → List Bool → Type 0)
    → ((a : ℕ) (m : List ℕ) (c : Desk) (b n₀ n₁ n₂ n₃ n₄ n₅ n₆ n₇ : ℕ) (d₀ d₁ d₂ d₃ d₄ d₅ d₆ d₇ : Bool)
    → X (on_bus (Read side 0 b) a c) m n₀ (counts_of n₀ n₁ n₂ n₃ n₄ n₅ n₆ n₇) (eight d₀ d₁ d₂ d₃ d₄ d₅ d₆ d₇))
    → OfReads side X
of_reads side X h s m b n₀ n₁ n₂ n₃ n₄ n₅ n₆ n₇ d₀ d₁ d₂ d₃ d₄ d₅ d₆ d₇ on e =
    subst (λ (z : State). X z m n₀ (counts_of n₀ n₁ n₂ n₃ n₄ n₅ n₆ n₇) (eight d₀ d₁ d₂ d₃ d₄ d₅ d₆ d₇))
    (sym (on_bus_lem s on e)) (h s.address m s.companion b n₀ n₁ n₂ n₃ n₄ n₅ n₆ n₇ d₀ d₁ d₂ d₃ d₄ d₅ d₆ d₇)

pub register_fixed : RegisterFixed
register_fixed = of_reads Companion RegisterRead register_read

pub control_cleared : ControlCleared
control_cleared = of_reads Companion ClearedAt control_left

pub control_kept : ControlKept
control_kept = of_reads Companion KeptAt control_alone

-- a flag that the byte did not show, and that is there by the ticks
still_there : (after ticked byte : Bool) → after ≡ (ticked && not byte) → byte ≡ false → ticked ≡ true → after ≡ true
still_there after ticked byte e b t = e ∙ rw (b, t)

pub raised_stays : RaisedStays
raised_stays s m b n₀ n₁ n₂ n₃ n₄ n₅ n₆ n₇ d₀ d₁ d₂ d₃ d₄ d₅ d₆ d₇ on e zero =
    let f = control_cleared s m b n₀ n₁ n₂ n₃ n₄ n₅ n₆ n₇ d₀ d₁ d₂ d₃ d₄ d₅ d₆ d₇ on e zero in
    (still_there _ _ _ f.af, still_there _ _ _ f.cf)

pub memory_fixed : MemoryFixed
memory_fixed = of_reads Memory MemoryRead memory_read_lem
