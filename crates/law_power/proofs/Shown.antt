-- SPDX-License-Identifier: Apache-2.0
-- The answer byte and POR: the pin's number with a line of 1 is the answer byte of 01's words, and setting POR adds 10h
-- where it was 0.
use Prim.Native.Nat.{ℕ, ◌+◌, ◌*◌}
use mathlib.Core.Path.{◌≡◌, refl, ap, ◌∙◌}
use mathlib.Core.Bool.{Bool, true, false, cond, ◌&&◌}
use mathlib.Core.List.{List, [], ◌∷◌, ◌++◌}
use native.Mathlib.Omega.{arith}
use lib.Dec.{eqb}
use Rattle.wire.specs.declared.Phase.{Phase}
use Rattle.bus.specs.declared.Power.TheVariants.{On}
use Rattle.fm3130_registers.specs.Pin.{pin_by}
use Rattle.fm3130_registers.specs.Control.{por_set}
use Rattle.fm3130.specs.declared.State.{State}
use Rattle.law_power.specs.Seen.{Seen, from_trim, calendar_list, bit, shown, por_up}
use Rattle.law_power.specs.Left.{pored, shown_by, shown_pored}

-- the pin's number and a line of 1, as the answer byte
abbrev function : Bool → Bool → Bool → ℕ
function cal alsw aen = cond cal 3 (cond alsw (cond aen 1 0) 2)

abbrev number : Bool → Bool → ℕ → ℕ
number af line f = 2 * (f + cond (eqb f 1 && af) 4 0) + cond line 1 0

abbrev byte : Bool → Bool → Bool → Bool → ℕ
byte cal alsw aen af = cond cal 7 (cond alsw (cond aen (cond af 11 3) 1) 5)

shown_by_lem : (cal alsw aen af : Bool) → number af true (function cal alsw aen) ≡ byte cal alsw aen af
shown_by_lem true alsw aen af = refl
shown_by_lem false false aen af = refl
shown_by_lem false true false af = refl
shown_by_lem false true true true = refl
shown_by_lem false true true false = refl

pin_shown_lem : (control setup : ℕ) → 2 * pin_by control setup + 1 ≡ shown control setup
pin_shown_lem control setup = shown_by_lem (bit 4 control) (bit 128 setup) (bit 8 control) (bit 64 control)

por_up_lem : (control : ℕ) → por_set control ≡ por_up control
por_up_lem control = omega arith

-- the same after POR was set
por_shown : (control setup : ℕ) → 2 * pin_by (por_set control) setup + 1 ≡ shown (por_up control) setup
por_shown control setup =
    pin_shown_lem (por_set control) setup ∙ ap (λ (x : ℕ). shown x setup) (por_up_lem control)

-- by the bytes of a state
module _ (s : State) where
  abbrev pub now : ℕ
  now = 2 * pin_by s.companion.registers.control s.companion.registers.setup + 1

  abbrev pub then : ℕ
  then = 2 * pin_by (por_set s.companion.registers.control) s.companion.registers.setup + 1

  pub is_now : now ≡ shown_by s
  is_now = pin_shown_lem s.companion.registers.control s.companion.registers.setup

  pub is_then : then ≡ shown_pored s
  is_then = por_shown s.companion.registers.control s.companion.registers.setup

  -- what is left with POR set, as the definitions have it
  abbrev pub back : List ℕ → Phase → ℕ → ℕ → ℕ → List ℕ → Seen
  back m q a k control answers =
      record {
        power = On;
        phase = q;
        address = a;
        pointer = k;
        registers = control ∷ from_trim s.companion.registers;
        core = calendar_list s.companion.core;
        memory = m;
        answers = answers;
      }

  pub is_back : (m : List ℕ) (q : Phase) (a k : ℕ) (before : List ℕ)
      → back m q a k (por_set s.companion.registers.control) (before ++ (then ∷ []))
      ≡ pored s m q a k (before ++ (shown_pored s ∷ []))
  is_back m q a k before =
      ap (λ (x : ℕ). back m q a k x (before ++ (then ∷ []))) (por_up_lem s.companion.registers.control)
      ∙ ap (λ (x : ℕ). pored s m q a k (before ++ (x ∷ []))) is_then
