-- SPDX-License-Identifier: Apache-2.0
-- What ticks that count write over the image of a state is the image of the state after them; and what byte 25 says of the
-- supplies.
use Prim.Native.Nat.{ℕ, ◌≤◌, ◌<◌}
use mathlib.Core.Path.{◌≡◌, refl, sym, ◌∙◌, ap, subst}
use mathlib.Core.Bool.{Bool, true, false, cond, ◌||◌}
use mathlib.Core.List.{List}
use native.Mathlib.Omega.{arith}
use lib.Dec.{eqb}
use lib.ListN.{get_or, set}
use lib.Seq.{sets}
use borrow.Author.Tests.{eq-eqb, ne_eqb, eqb-false}
use Rattle.bits.specs.Weight.{has}
use Rattle.calendar.specs.Next.{is_valid}
use Rattle.calendar.specs.declared.Calendar.{Calendar}
use Rattle.fm3130_companion.specs.declared.Alarm.{Alarm}
use Rattle.fm3130_companion.specs.declared.Companion.{Companion}
use Rattle.fm3130_registers.specs.Map.{W, R}
use Rattle.fm3130_companion.specs.Change.{with_time}
use Rattle.fm3130_registers.specs.Control.{followed}
use Rattle.fm3130.specs.Code.Bus.{with_companion}
use Rattle.fm3130.specs.Power.{is_supplied}
use Rattle.fm3130.specs.declared.State.{State}
use Rattle.bus_image.specs.Layout.{power_of}
use Rattle.fm3130_image.specs.Image.{calendar_bytes, image_of, calendar_at}
use Rattle.c_catch_up.specs.Code.Ticks.{left_of, caught_of}
use Rattle.c_catch_up.specs.Code.CatchUp.{alarm_at, followed_on, CountedOn}
use Rattle.c_catch_up.specs.declared.ticks.Left.{Left}
use Rattle.c_catch_up.proofs.Caught.{invalid_caught}

-- the supplies of byte 25
pub supply_off : (n : ℕ) → 1 < n → is_supplied (power_of n) ≡ false
unfolding power_of
supply_off n l = rw (ne_eqb n 0 (λ e. omega arith), ne_eqb n 1 (λ e. omega arith))

pub supply_on : (n : ℕ) → n ≤ 1 → is_supplied (power_of n) ≡ true
unfolding power_of
supply_on n l = by_number (eqb n 0) refl
  where
    by_number : (b : Bool) → eqb n 0 ≡ b → is_supplied (power_of n) ≡ true
    by_number true e = rw e
    by_number false e =
        let d = eqb-false n 0 e in
        rw (e, eq-eqb n 1 (omega arith))

-- a state with another 00h, other calendar registers and another core
abbrev written : State → ℕ → Calendar → Calendar → State
written s k time core =
    with_companion s
    (record { registers = with_time s.companion.registers k time; core = core; address = s.companion.address })

-- with other calendar registers alone
abbrev timed : State → Calendar → State
timed s time = written s s.companion.registers.control time s.companion.core

-- what ticks leave, read from an image; and an image with it written over
abbrev leaves_of : ℕ → List ℕ → Left
leaves_of n i = left_of n (get_or i 0 0) (alarm_at i) (calendar_at i 15)

abbrev pub left_over : Left → List ℕ → List ℕ
left_over left i = sets (set i 0 left.control) 15 (calendar_bytes left.core)

core_over : (s : State) (k : ℕ) (core : Calendar)
    → sets (set (image_of s) 0 k) 15 (calendar_bytes core) ≡ image_of (written s k s.companion.registers.time core)
unfolding image_of
core_over s k core = refl

time_over : (s : State) (core : Calendar) → sets (image_of s) 2 (calendar_bytes core) ≡ image_of (timed s core)
unfolding image_of
time_over s core = refl

-- 02h to 08h of an image follow as those of a state do
follow_over : (s : State) (k : ℕ) (core : Calendar)
    → followed_on k core (image_of s) ≡ image_of (timed s (followed k core s.companion.registers.time))
follow_over s k core = by_choice (has k W || has k R)
  where
    by_choice : (b : Bool) → cond b (image_of s) (sets (image_of s) 2 (calendar_bytes core))
        ≡ image_of (timed s (cond b s.companion.registers.time core))
    by_choice true = refl
    by_choice false = time_over s core

-- the two ways of following, by the code's two tests
module _ (k : ℕ) (core : Calendar) (i : List ℕ) {w r : Bool} (p : w ≡ has k W) (q : r ≡ has k R) where
  abbrev choice : Bool → List ℕ
  choice b = cond b i (sets i 2 (calendar_bytes core))

  tested : {t : Bool} → w || r ≡ t → choice t ≡ followed_on k core i
  tested e = ap choice (sym e ∙ (λ x. p x || q x))

  pub follow_kept : w || r ≡ true → i ≡ followed_on k core i
  follow_kept e = tested e

  pub follow_written : w || r ≡ false → sets i 2 (calendar_bytes core) ≡ followed_on k core i
  follow_written e = tested e

-- what ticks that count write over an image of a state
module _ (n : ℕ) (s : State) where
  abbrev reached : List ℕ
  reached = image_of (with_companion s (caught_of n s.companion))

  -- of an invalid core nothing but what follows it
  abbrev Stays : List ℕ → Type 0
  Stays i = is_valid (calendar_at i 15) ≡ false → followed_on (get_or i 0 0) (calendar_at i 15) i ≡ reached

  stays : Stays (image_of s)
  unfolding image_of calendar_at
  stays v =
      follow_over s s.companion.registers.control s.companion.core
      ∙ ap (λ (c : Companion). image_of (with_companion s c)) (invalid_caught n s.companion v)

  -- of a valid one what they leave, and then what follows that
  abbrev Goes : List ℕ → Type 0
  Goes i = followed_on (get_or i 0 0) (leaves_of n i).core (left_over (leaves_of n i) i) ≡ reached

  goes : Goes (image_of s)
  unfolding image_of calendar_at caught_of
  goes =
      let left = leaves_of n (image_of s) in
      ap (followed_on s.companion.registers.control left.core) (core_over s left.control left.core)
      ∙ follow_over (written s left.control s.companion.registers.time left.core)
      s.companion.registers.control left.core

-- the same of any list that is such an image, step by step as the code goes
module _ (n : ℕ) (i j : List ℕ) (core : Calendar) (c : core ≡ calendar_at i 15) where
  pub counted_invalid : is_valid core ≡ false → j ≡ followed_on (get_or i 0 0) core i → CountedOn n i j
  counted_invalid v w s e =
      w ∙ ap (λ (c : Calendar). followed_on (get_or i 0 0) c i) c
      ∙ subst (Stays n s) (sym e) (stays n s) (ap is_valid (sym c) ∙ v)

  pub counted_valid : (alarm : Alarm) → alarm ≡ alarm_at i → (r : Left) → r ≡ left_of n (get_or i 0 0) alarm core
      → (k : List ℕ) → k ≡ left_over r i → j ≡ followed_on (get_or i 0 0) r.core k → CountedOn n i j
  counted_valid alarm a r l k w f s e =
      let same : r ≡ leaves_of n i = l ∙ (λ x. left_of n (get_or i 0 0) (a x) (c x)) in
      f ∙ ap (followed_on (get_or i 0 0) r.core) w
      ∙ ap (λ (r : Left). followed_on (get_or i 0 0) r.core (left_over r i)) same
      ∙ subst (Goes n s) (sym e) (goes n s)
