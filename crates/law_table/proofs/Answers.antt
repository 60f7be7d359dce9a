-- SPDX-License-Identifier: Apache-2.0
-- Event bytes and answer bytes. An answer is twice the pin's number, of three bits, and the line: so each bit can be
-- read off. A Clock at which the master pulls the line low is low by the machine's own law; the other events leave it
-- high under every supply.
use Prim.Native.Nat.{ℕ, ◌+◌, ◌*◌, ◌/◌, ◌%◌, ◌<◌, ◌≤◌}
use mathlib.Core.Path.{◌≡◌, refl, subst}
use mathlib.Core.Bool.{Bool, true, false, cond, ◌&&◌}
use mathlib.Core.List.{List}
use native.Mathlib.Omega.{arith}
use lib.Dec.{eqb}
use borrow.Author.Tests.{eqb-true}
use Rattle.bits.specs.Weight.{has, only}
use Rattle.bits.proofs.Cases.{by_cond}
use Rattle.wire.specs.Memory.{lent}
use Rattle.wire.specs.Machine.{start, stop, clock, lined}
use Rattle.wire.specs.declared.Phase.{Phase}
use Rattle.wire.proofs.Low.{clocked_low}
use Rattle.bus.specs.declared.Power.{Power}
use Rattle.bus.specs.declared.Power.TheVariants.{On, Backup, Off}
use Rattle.fm3130_registers.specs.Map.{AF, AEN, CAL, ALSW}
use Rattle.fm3130_registers.specs.Pin.{function_of}
use Rattle.fm3130_companion.specs.Part.{pin_of}
use Rattle.fm3130_companion.specs.declared.Companion.{Companion}
use Rattle.fm3130_registers.proofs.Functions.{function_le}
use Rattle.fm3130.specs.Chip.{fm3130}
use Rattle.fm3130.specs.Event.{Happening, on_wire, beat, lost, gone, returned, happening, event_on}
use Rattle.fm3130.specs.declared.State.{State}
use Rattle.law_table.specs.Answers.{EventBytes, function_by, AnswerBits, EveryAnswer, LineBits}

pub event-bytes : EventBytes
unfolding happening
event-bytes = refl

-- the bits of an answer, from the function, the alarm and the line
record Bits (f : ℕ) (rings line : Bool) (n : ℕ) : Type 0 where
  low : n % 2 ≡ cond line 1 0
  middle : n / 2 % 4 ≡ f
  top : n / 8 % 2 ≡ cond rings 1 0
  small : n < 16

bits : (f : ℕ) (rings line : Bool) → f ≤ 3 → Bits f rings line (2 * (f + only rings 4) + cond line 1 0)
bits f true true h = record { low = omega arith; middle = omega arith; top = omega arith; small = omega arith }
bits f true false h = record { low = omega arith; middle = omega arith; top = omega arith; small = omega arith }
bits f false true h = record { low = omega arith; middle = omega arith; top = omega arith; small = omega arith }
bits f false false h = record { low = omega arith; middle = omega arith; top = omega arith; small = omega arith }

by_bits : (cal alsw aen : Bool) → cond cal 3 (cond alsw (cond aen 1 0) 2) ≡ function_by cal alsw aen
by_bits true alsw aen = refl
by_bits false false aen = refl
by_bits false true true = refl
by_bits false true false = refl

-- each combination of CAL, AL/SW and AEN gives its function
pub function-chosen : (control setup : ℕ)
    → function_of control setup ≡ function_by (has control CAL) (has setup ALSW) (has control AEN)
function-chosen control setup = by_bits (has control CAL) (has setup ALSW) (has control AEN)

-- an answer with a supply, by the number that the pin shows
pin_bits : (c : Companion) (line : Bool) → let r = c.registers in
    let f = function_by (has r.control CAL) (has r.setup ALSW) (has r.control AEN) in
    Bits f (eqb f 1 && has r.control AF) line (2 * pin_of c + cond line 1 0)
unfolding pin_of
pin_bits c line =
    let r = c.registers in
    let f = function_of r.control r.setup in
    subst (λ (g : ℕ). Bits g (eqb g 1 && has r.control AF) line (2 * pin_of c + cond line 1 0))
    (function-chosen r.control r.setup)
    (bits f (eqb f 1 && has r.control AF) line (function_le r.control r.setup))

answer_by : (p : Power) (q : Phase) (a : ℕ) (c : Companion) (line : Bool)
    → AnswerBits (record { power = p; phase = q; address = a; companion = c }) line
answer_by On q a c line =
    let b = pin_bits c line in record { bit0 = b.low; bits21 = b.middle; bit3 = b.top; bits74 = b.small }
answer_by Backup q a c line =
    let b = pin_bits c line in record { bit0 = b.low; bits21 = b.middle; bit3 = b.top; bits74 = b.small }
answer_by Off q a c line =
    let b = bits 0 false line (omega arith) in
    record { bit0 = b.low; bits21 = b.middle; bit3 = b.top; bits74 = b.small }

pub every-answer : EveryAnswer
every-answer s line = answer_by s.power s.phase s.address s.companion line

-- where the master pulls the line low
low_by : (p : Power) (s : State) (m : List ℕ) → (event_on p (on_wire (clock false)) s m).line ≡ false
unfolding event_on lined
low_by On s m = clocked_low fm3130 s.phase (lent m s.address) s.companion
low_by Backup s m = refl
low_by Off s m = refl

-- an event that is no Clock leaves the line high
abbrev NoClock : Happening → Type 0
NoClock (on_wire start) = Unit {0}
NoClock (on_wire stop) = Unit {0}
NoClock (on_wire (clock d)) = ⊥
NoClock (beat t') = Unit {0}
NoClock lost = Unit {0}
NoClock gone = Unit {0}
NoClock returned = Unit {0}

no-clock : (e : ℕ) → (e ≡ 2 → ⊥) → (e ≡ 3 → ⊥) → NoClock (happening e)
unfolding happening
no-clock e low high =
    by_cond NoClock (eqb e 0) (λ h. tt) (λ h. by_cond NoClock (eqb e 1) (λ h. tt)
    (λ h. by_cond NoClock (eqb e 2) (λ h. low (eqb-true e 2 h))
    (λ h. by_cond NoClock (eqb e 3) (λ h. high (eqb-true e 3 h))
    (λ h. by_cond NoClock (eqb e 4) (λ h. tt) (λ h. by_cond NoClock (eqb e 5) (λ h. tt)
    (λ h. by_cond NoClock (eqb e 6) (λ h. tt) (λ h. by_cond NoClock (eqb e 7) (λ h. tt)
    (λ h. tt))))))))

each-power : (Q : Power → Type 0) → Q On → Q Backup → Q Off → (p : Power) → Q p
each-power Q on backup off On = on
each-power Q on backup off Backup = backup
each-power Q on backup off Off = off

still_high : (p : Power) (x : Happening) (s : State) (m : List ℕ) → NoClock x → (event_on p x s m).line ≡ true
unfolding event_on lined
still_high p (on_wire start) s m h = each-power (λ p. (event_on p (on_wire start) s m).line ≡ true) refl refl refl p
still_high p (on_wire stop) s m h = each-power (λ p. (event_on p (on_wire stop) s m).line ≡ true) refl refl refl p
still_high p (on_wire (clock d)) s m h = absurd h
still_high p (beat t') s m h = each-power (λ p. (event_on p (beat t') s m).line ≡ true) refl refl refl p
still_high p lost s m h = each-power (λ p. (event_on p lost s m).line ≡ true) refl refl refl p
still_high p gone s m h = each-power (λ p. (event_on p gone s m).line ≡ true) refl refl refl p
still_high p returned s m h = each-power (λ p. (event_on p returned s m).line ≡ true) refl refl refl p

pub line-bits : LineBits
unfolding happening
line-bits =
    record {
      low = λ s m. low_by s.power s m;
      other = λ s m e low high. still_high s.power (happening e) s m (no-clock e low high);
    }
