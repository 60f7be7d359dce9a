-- SPDX-License-Identifier: Apache-2.0
-- A list of ticks: with a supply they are the companion's, without one they change nothing; they touch no memory. By
-- induction on the number of ticks.
use Prim.Native.Nat.{ℕ, zero, suc}
use mathlib.Core.Path.{◌≡◌, refl, sym, ap, ◌∙◌}
use mathlib.Core.Bool.{true, false}
use mathlib.Core.List.{List, []}
use lib.ListN.{length, replicate, length-replicate}
use Rattle.wire.proofs.Tests.{by_test}
use Rattle.fm3130_companion.specs.declared.Companion.{Companion}
use Rattle.fm3130_companion.specs.Part.{tick_of}
use Rattle.fm3130.specs.Chip.{memory_size, Done}
use Rattle.fm3130.specs.Code.Bus.{with_companion}
use Rattle.fm3130.specs.Power.{is_supplied}
use Rattle.fm3130.specs.Event.{happening, event_of}
use Rattle.fm3130.specs.Limits.{well_formed}
use Rattle.fm3130.specs.declared.State.{State}
use Rattle.fm3130.proofs.Cases.{still, ticked, tick_supplied, tick_unsupplied}
use Rattle.bus_list.specs.Run as list
use Rattle.fm3130_list.specs.Run.{run_of, all_known}
use Rattle.fm3130_list.proofs.Runs.{run_ok}
use Rattle.c_catch_up.specs.Code.Ticks.{ticks_of}
use Rattle.c_catch_up.specs.CatchUp.{ticks, caught_up}

-- one event of byte 4
four_supplied : (s : State) (m : List ℕ) → is_supplied s.power ≡ true → event_of s m 4 ≡ still (ticked s) m
unfolding happening
four_supplied s m h = tick_supplied s m h

four_unsupplied : (s : State) (m : List ℕ) → is_supplied s.power ≡ false → event_of s m 4 ≡ still s m
unfolding happening
four_unsupplied s m h = tick_unsupplied s m h

-- the first tick first
ticks_first : (n : ℕ) (c : Companion) → ticks_of (suc n) c ≡ ticks_of n (tick_of c)
unfolding ticks_of
ticks_first zero c = refl
ticks_first (suc n) c = ap tick_of (ticks_first n c)

ticks_start : (c : Companion) → ticks_of 0 c ≡ c
unfolding ticks_of
ticks_start c = refl

-- what a list of ticks leaves
pub run_supplied : (n : ℕ) (s : State) (m : List ℕ) → is_supplied s.power ≡ true
    → ((run_of s m (ticks n)).state ≡ with_companion s (ticks_of n s.companion)) × ((run_of s m (ticks n)).memory ≡ m)
unfolding run_of
run_supplied zero s m h = (ap (with_companion s) (sym (ticks_start s.companion)), refl)
run_supplied (suc n) s m h =
    let e = four_supplied s m h in
    let r = run_supplied n (ticked s) m h in (
      ap (λ (d : Done). (run_of d.state d.memory (ticks n)).state) e
          ∙ r.0
          ∙ ap (with_companion s) (sym (ticks_first n s.companion)),
      ap (λ (d : Done). (run_of d.state d.memory (ticks n)).memory) e ∙ r.1,
    )

pub run_unsupplied : (n : ℕ) (s : State) (m : List ℕ) → is_supplied s.power ≡ false
    → ((run_of s m (ticks n)).state ≡ s) × ((run_of s m (ticks n)).memory ≡ m)
unfolding run_of
run_unsupplied zero s m h = (refl, refl)
run_unsupplied (suc n) s m h =
    let e = four_unsupplied s m h in
    let r = run_unsupplied n s m h in (
      ap (λ (d : Done). (run_of d.state d.memory (ticks n)).state) e ∙ r.0,
      ap (λ (d : Done). (run_of d.state d.memory (ticks n)).memory) e ∙ r.1,
    )

-- the state that ticks lead to
pub caught_supplied : (n : ℕ) (s : State) → is_supplied s.power ≡ true
    → caught_up n s ≡ with_companion s (ticks_of n s.companion)
unfolding caught_up
caught_supplied n s h = (run_supplied n s [] h).0

pub caught_unsupplied : (n : ℕ) (s : State) → is_supplied s.power ≡ false → caught_up n s ≡ s
unfolding caught_up
caught_unsupplied n s h = (run_unsupplied n s [] h).0

-- it is the same whatever memory is lent, and the memory stays
pub caught_run : (n : ℕ) (s : State) (m : List ℕ)
    → (caught_up n s ≡ (run_of s m (ticks n)).state) × ((run_of s m (ticks n)).memory ≡ m)
caught_run n s m =
    by_test (is_supplied s.power)
    (λ h. let r = run_supplied n s m h in (caught_supplied n s h ∙ sym r.0, r.1))
    (λ h. let r = run_unsupplied n s m h in (caught_unsupplied n s h ∙ sym r.0, r.1))

pub caught_none : (s : State) → caught_up 0 s ≡ s
unfolding caught_up run_of
caught_none s = refl

-- n ticks are n known events
pub ticks_known : (n : ℕ) → all_known (ticks n) ≡ true
unfolding list.all_known
ticks_known zero = refl
ticks_known (suc n) = ticks_known n

pub ticks_length : (n : ℕ) → length (ticks n) ≡ n
ticks_length n = length-replicate {A = ℕ} n 4

-- they keep the limits
unfoldable blank : List ℕ
blank = replicate memory_size 0

blank_long : length blank ≡ memory_size
unfolding blank
blank_long = length-replicate {A = ℕ} memory_size 0

pub caught_ok : (n : ℕ) (s : State) → well_formed s ≡ true → well_formed (caught_up n s) ≡ true
caught_ok n s w = ap well_formed (caught_run n s blank).0 ∙ (run_ok s blank (ticks n) w blank_long).state
