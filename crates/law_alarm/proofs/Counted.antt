-- SPDX-License-Identifier: Apache-2.0
-- A tick that does not count leaves all as it is; one that counts computes, and of 00h the rest can be read off.
use Prim.Native.Nat.{ℕ, ◌/◌, ◌%◌}
use mathlib.Core.Path.{◌≡◌, refl}
use mathlib.Core.Bool.{Bool, true, false, not, ◌&&◌, ◌||◌, true≢false, false≢true}
use mathlib.Core.List.{List, [], ◌∷◌}
use borrow.Author.Tests.{not-true}
use Rattle.wire.specs.declared.Phase.{Phase}
use Rattle.wire.proofs.Tests.{and_split}
use Rattle.calendar.specs.Next.{next_of}
use Rattle.bus.specs.declared.Power.{Power}
use Rattle.bus.specs.declared.Power.TheVariants.{On, Backup, Off}
use Rattle.fm3130_registers.specs.Control.{flagged}
use Rattle.fm3130_companion.specs.Tick.{rung, tick_of}
use Rattle.fm3130_companion.specs.declared.Companion.{Companion}
use Rattle.fm3130.specs.Event.{happening, event_on}
use Rattle.fm3130.specs.declared.State.{State}
use Rattle.fm3130_list.specs.Run.{run_of}
use Rattle.law_alarm.specs.Second.{bit, supplied, after}
use Rattle.law_alarm.specs.Counted.{Uncounted, UncountedUnchanged, Counted, EveryCounted}
use Rattle.law_alarm.proofs.Flags.{flagged_rest}

-- event 4 under each supply
module _ (q : Phase) (a : ℕ) (c : Companion) (m : List ℕ) where
  abbrev at : Power → State
  at p = record { power = p; phase = q; address = a; companion = c }

  kept : let k = c.registers.control in
      let told = flagged k (bit 64 k || rung c) (bit 32 k || (next_of c.core).century) in
      (told / 128 ≡ k / 128) × (told % 32 ≡ k % 32)
  kept =
      flagged_rest c.registers.control (bit 64 c.registers.control || rung c)
      (bit 32 c.registers.control || (next_of c.core).century)

  unchanged_by : (p : Power) (t : Bool) → bit 128 c.registers.trim ≡ t → (supplied p && not t) ≡ false
      → Uncounted (at p) m
  unfolding run_of happening event_on tick_of
  unchanged_by On true e h = record { state = rw e; memory = refl }
  unchanged_by On false e h = absurd (true≢false h)
  unchanged_by Backup true e h = record { state = rw e; memory = refl }
  unchanged_by Backup false e h = absurd (true≢false h)
  unchanged_by Off t e h = record { state = refl; memory = refl }

  -- where a supply is present event 4 is the companion's tick, whichever supply it is
  record Ticks (p : Power) : Type 0 where
    companion : after (at p) m ≡ tick_of c
    power : (run_of (at p) m (4 ∷ [])).state.power ≡ p
    phase : (run_of (at p) m (4 ∷ [])).state.phase ≡ q
    address : (run_of (at p) m (4 ∷ [])).state.address ≡ a
    memory : (run_of (at p) m (4 ∷ [])).memory ≡ m

  ticks_by : (p : Power) → supplied p ≡ true → Ticks p
  unfolding run_of happening event_on
  ticks_by On h = record { companion = refl; power = refl; phase = refl; address = refl; memory = refl }
  ticks_by Backup h = record { companion = refl; power = refl; phase = refl; address = refl; memory = refl }
  ticks_by Off h = absurd (false≢true h)

  counted_by_lem : (p : Power) → Ticks p → bit 128 c.registers.trim ≡ false → Counted (at p) m
  unfolding tick_of
  counted_by_lem p t e =
      let r = t.companion in
      record {
        lb = rw (r, e) kept.0;
        por_to_r = rw (r, e) kept.1;
        core = rw (r, e);
        time = rw (r, e);
        trim = rw (r, e);
        alarm = rw (r, e);
        setup = rw (r, e);
        pointer = rw (r, e);
        power = t.power;
        phase = t.phase;
        address = t.address;
        memory = t.memory;
      }

pub uncounted_unchanged : UncountedUnchanged
uncounted_unchanged s m h =
    unchanged_by s.phase s.address s.companion m s.power (bit 128 s.companion.registers.trim) refl h

pub every_counted : EveryCounted
every_counted s m h =
    let t = and_split (supplied s.power) (not (bit 128 s.companion.registers.trim)) h in
    counted_by_lem s.phase s.address s.companion m s.power
    (ticks_by s.phase s.address s.companion m s.power t.0) (not-true _ t.1)
