-- SPDX-License-Identifier: Apache-2.0
-- What a tick says (02, number 4): the highest field in which the core after the tick differs from the one before; and
-- nothing exactly where the tick does not count or the core is invalid.
use mathlib.Core.Path.{◌≡◌, refl, sym}
use mathlib.Core.Bool.{Bool, true, false, ◌||◌, not, false≢true}
use Rattle.bits.specs.Weight.{has}
use Rattle.calendar.specs.Highest.{changed_of}
use Rattle.calendar.specs.Next.{is_valid}
use Rattle.calendar.specs.declared.Rolled.TheVariants.{Nothing}
use Rattle.calendar.proofs.Highest.{changed_self, next_rolled, nothing_if_invalid, nothing_only_if_invalid}
use Rattle.fm3130_companion.specs.declared.Companion.{Companion}
use Rattle.fm3130_registers.specs.Map.{OSCEN}
use Rattle.fm3130_companion.specs.Part.{tick_of, rolled_of}

module _ (c : Companion) where
  pub tick_rolled : rolled_of c ≡ changed_of c.core (tick_of c).core
  unfolding tick_of rolled_of
  tick_rolled = by_test (has c.registers.trim OSCEN) refl
    where
      by_test : (t : Bool) → has c.registers.trim OSCEN ≡ t → rolled_of c ≡ changed_of c.core (tick_of c).core
      by_test true e = rw e (sym (changed_self c.core))
      by_test false e = rw e (next_rolled c.core)

  -- the tick does not count, or the core is invalid
  abbrev pub Silent : Type 0
  Silent = (has c.registers.trim OSCEN || not (is_valid c.core)) ≡ true

  pub nothing_if_silent : Silent → rolled_of c ≡ Nothing
  unfolding rolled_of
  nothing_if_silent h = by_test (has c.registers.trim OSCEN) refl (is_valid c.core) refl
    where
      by_test : (t : Bool) → has c.registers.trim OSCEN ≡ t → (v : Bool) → is_valid c.core ≡ v → rolled_of c ≡ Nothing
      by_test true e v f = rw e
      by_test false e false f = rw e (nothing_if_invalid c.core f)
      by_test false e true f = absurd (false≢true (rw (e, f) at h))

  pub nothing_only_if_silent : rolled_of c ≡ Nothing → Silent
  unfolding rolled_of
  nothing_only_if_silent h = by_test (has c.registers.trim OSCEN) refl
    where
      by_test : (t : Bool) → has c.registers.trim OSCEN ≡ t → Silent
      by_test true e = rw e
      by_test false e = rw (e, nothing_only_if_invalid c.core (rw e at h))
