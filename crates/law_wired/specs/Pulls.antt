-- SPDX-License-Identifier: Apache-2.0
-- No two devices on a wire pull the line low at the same moment, whatever the master does: so what a device hears
-- of the master is what is on the line, as far as it listens.
use Rattle.std.specs.Prelude.{◌≡◌, false, List}
use Rattle.wire.specs.Machine.{Line, masters_line}
use Rattle.wire.specs.declared.Phase.TheVariants.{Idle}
use Rattle.law_wired.specs.Wire.{Bench, Lawful, Word, Devices, run_wire, line_by}

-- After any words at all, from devices between transfers: if one of two devices pulls the line low, the other does
-- not.
abbrev pub OnePulls : Type 1
OnePulls =
    (B : Bench) → Lawful B → (s : Devices B) (l : List (Word B.Dev B.Tock)) (v j : B.Dev) (x : Line)
    → ((w : B.Dev) → (s w).phase ≡ Idle) → B.same v j ≡ false
    → (line_by B (run_wire B s l) x v ≡ masters_line x → ⊥) → line_by B (run_wire B s l) x j ≡ masters_line x
