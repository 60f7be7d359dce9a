-- SPDX-License-Identifier: Apache-2.0
-- 00h written: refused where W falls over no valid calendar, else the order of its write, by the bits W and R before and in the
-- byte.
use Prim.Native.Nat.{ℕ, ◌+◌, ◌%◌, ◌<◌}
use mathlib.Core.Path.{◌≡◌, refl, sym, ap, ◌∙◌}
use mathlib.Core.Bool.{Bool, true, false, cond, not, ◌&&◌, ◌||◌}
use mathlib.Core.List.{List}
use borrow.Author.Tests.{eq-eqb}
use Rattle.bits.specs.Weight.{has}
use Rattle.wire.specs.declared.Side.TheVariants.{Companion}
use Rattle.wire.specs.declared.Phase.TheVariants.{Write}
use Rattle.calendar.specs.Next.{is_valid}
use Rattle.fm3130_companion.specs.Write.{core_written, control_written, written_of}
use Rattle.fm3130_companion.specs.Part.{stepped_of, loads_bad_date, store_of, refused_date}
use Rattle.fm3130_companion.specs.Part.{Taken}
use Rattle.fm3130.specs.declared.State.{State}
use Rattle.wire_clocks.specs.Clocks.{last_line}
use Rattle.law_transfers.proofs.Written.{on_bus}
use Rattle.law_registers.specs.Written.{ControlStores, ControlWritten, ControlLeft, ControlRefused}
use Rattle.law_registers.proofs.Clocking.{Desk}
use Rattle.law_registers.proofs.Masks.{control_masked}
use Rattle.law_registers.proofs.Storing.{byte_stored_lem, byte_left}
use Rattle.law_registers.proofs.Written.{of_writes, stored_is}

-- a good date, or W does not fall
pub not_refused : (w b v : Bool) → (w ≡ true → b ≡ false → v ≡ true) → ((w && not b) && not v) ≡ false
not_refused false b v h = refl
not_refused true true v h = refl
not_refused true false true h = refl
not_refused true false false h = sym (h refl refl)

module _ (a : ℕ) (m : List ℕ) (c : Desk) (b : ℕ) (d : Bool) (l : b < 256) (zero : c.address ≡ 0) where
  abbrev begun : State
  begun = on_bus (Write Companion 0 0) a c

  abbrev old : ℕ
  old = c.registers.control

  written_is : written_of c b ≡ control_written c b
  written_is = rw (eq-eqb c.address 0 zero)

  bad_date : loads_bad_date c b ≡ ((has old 0x02 && not (has b 0x02)) && not (is_valid c.registers.time))
  bad_date = rw (eq-eqb c.address 0 zero)

  control_stores : (has old 0x02 ≡ true → has b 0x02 ≡ false → is_valid c.registers.time ≡ true)
      → ControlStores begun m b d
  control_stores good =
      let e = stored_is c b (bad_date ∙ not_refused (has old 0x02) (has b 0x02) (is_valid c.registers.time) good) in
      let run = byte_stored_lem a m c b d l (ap (λ (t : Taken). t.acknowledged) e) in
      let left = ap (λ (z : State). z.companion) run.state ∙ (ap (λ (t : Taken). t.companion) e ∙ ap stepped_of written_is) in
      let core = ap (λ (z : Desk). z.core) left in
      let time = ap (λ (z : Desk). z.registers.time) left in
      record {
        control = ap (λ (z : Desk). z.registers.control) left ∙ control_masked old b;
        w_falls = λ o n. core ∙ rw (o, n);
        w_was_low = λ o. core ∙ rw o;
        w_is_high = λ n. core ∙ high (has old 0x02) n;
        r_rises = λ o n. (time ∙ both (has b 0x02) o n) ∙ sym core;
        both_low = λ n r. (time ∙ rw (n, r)) ∙ sym core;
        r_stays = λ o n. time ∙ both' (has b 0x02) o n;
        w_alone = λ n r. time ∙ rw (n, r);
        trim = ap (λ (z : Desk). z.registers.trim) left;
        alarm = ap (λ (z : Desk). z.registers.alarm) left;
        setup = ap (λ (z : Desk). z.registers.setup) left;
        companion_address = ap (λ (z : Desk). z.address) left ∙ ap (λ (z : ℕ). (z + 1) % 15) zero;
        acknowledged = ap last_line run.lines;
        memory = run.memory;
      }
    where
      high : (w : Bool) → has b 0x02 ≡ true → cond (w && not (has b 0x02)) c.registers.time c.core ≡ c.core
      high true n = rw n
      high false n = refl

      both : (w : Bool) → has old 0x01 ≡ false → has b 0x01 ≡ true
          → cond (w || has b 0x01)
          (cond (has b 0x01 && not (has old 0x01)) (core_written c b) c.registers.time) (core_written c b) ≡ core_written c b
      both true o n = rw (o, n)
      both false o n = rw (o, n)

      both' : (w : Bool) → has old 0x01 ≡ true → has b 0x01 ≡ true
          → cond (w || has b 0x01)
          (cond (has b 0x01 && not (has old 0x01)) (core_written c b) c.registers.time) (core_written c b) ≡ c.registers.time
      both' true o n = rw (o, n)
      both' false o n = rw (o, n)

  control_stays : has old 0x02 ≡ true → has b 0x02 ≡ false → is_valid c.registers.time ≡ false → ControlLeft begun m b d
  unfolding store_of
  control_stays w f v =
      let bad : loads_bad_date c b ≡ true = bad_date ∙ rw (w, f, v) in
      let e : store_of c b ≡ refused_date c = rw bad in
      let run = byte_left a m c b d l (ap (λ (t : Taken). t.acknowledged) e) in
      let left = ap (λ (z : State). z.companion) run.state ∙ ap (λ (t : Taken). t.companion) e in
      record {
        registers = ap (λ (z : Desk). z.registers) left;
        core = ap (λ (z : Desk). z.core) left;
        companion_address = ap (λ (z : Desk). z.address) left ∙ ap (λ (z : ℕ). (z + 1) % 15) zero;
        refused = ap last_line run.lines;
        ended = ap (λ (z : State). z.phase) run.state;
      }

pub control_written_lem : ControlWritten
control_written_lem = of_writes _ control_stores

pub control_refused : ControlRefused
control_refused = of_writes _ control_stays
