-- SPDX-License-Identifier: Apache-2.0
-- One tick, event 4, in the words that the laws beside this file are written with.
--   bit, supplied, counts    a bit of a byte; a supply is there; the tick counts
--   after                    the companion after a tick
--   with00h                  a state with another byte at 00h
use Rattle.std.specs.Prelude.{ℕ, ◌/◌, ◌%◌, Bool, true, false, not, ◌&&◌, List, [], ◌∷◌, eqb}
use Rattle.bus.specs.declared.Power.{Power}
use Rattle.bus.specs.declared.Power.TheVariants.{On, Backup, Off}
use Rattle.fm3130_companion.specs.declared.Companion.{Companion}
use Rattle.fm3130.specs.declared.State.{State}
use Rattle.fm3130_list.specs.Run.{run_of}

-- Auxiliary: a bit of a byte, by its weight.
abbrev pub bit : ℕ → ℕ → Bool
bit weight byte = eqb (byte / weight % 2) 1

-- "Power or backup is present."
abbrev pub supplied : Power → Bool
supplied On = true
supplied Backup = true
supplied Off = false

-- "A tick counts if OSCEN is 0 and power or backup is present": OSCEN is bit 7 of 01h.
abbrev pub counts : State → Bool
counts s = supplied s.power && not (bit 0x80 s.companion.registers.trim)

-- Auxiliary: the companion after event 4.
abbrev pub after : State → List ℕ → Companion
after s m = (run_of s m (4 ∷ [])).state.companion

-- Auxiliary: a state with another byte at 00h.
abbrev pub with00h : State → ℕ → State
with00h s control =
    let c = s.companion in
    let r = c.registers in
    record {
      power = s.power;
      phase = s.phase;
      address = s.address;
      companion =
          record {
            registers =
                record { control = control; trim = r.trim; time = r.time; alarm = r.alarm; setup = r.setup };
            core = c.core;
            address = c.address;
          };
    }
