-- SPDX-License-Identifier: Apache-2.0
-- Ticks that count, as one: one more tick adds its flags, moves the core on, and lets 02h to 08h follow. By induction
-- on the number of ticks.
use Prim.Native.Nat.{ℕ, zero, suc, ◌+◌, ◌*◌, ◌/◌, ◌%◌}
use mathlib.Core.Path.{◌≡◌, refl, sym, ◌∙◌, ap}
use mathlib.Core.Bool.{Bool, true, false, cond, ◌&&◌, ◌||◌}
use native.Mathlib.Omega.{arith}
use native.Mathlib.Nat.{add-zero}
use lib.Dec.{eqb, ltb}
use borrow.Author.Tests.{eq-eqb, ne_eqb, eqb-true, eqb-false, lt-ltb}
use Rattle.bits.specs.Weight.{has, only}
use Rattle.calendar.specs.Field.{bit}
use Rattle.calendar.specs.Next.{is_valid, next_of}
use Rattle.calendar.specs.After.{after, crossings}
use Rattle.calendar_days.specs.After.{after_of}
use Rattle.calendar.specs.declared.Calendar.{Calendar}
use Rattle.calendar.proofs.Tests.{test_true, true_test}
use Rattle.calendar.proofs.After.{after_valid}
use Rattle.calendar_days.proofs.Later.{after_invalid, crossings_invalid}
use Rattle.fm3130_companion.specs.declared.Companion.{Companion}
use Rattle.fm3130_registers.specs.Map.{AF, CF, W, R, OSCEN}
use Rattle.fm3130_companion.specs.Change.{with_time, with_registers}
use Rattle.fm3130_registers.specs.Control.{flagged, followed}
use Rattle.fm3130_registers.specs.Control.{told_of}
use Rattle.fm3130_companion.specs.Tick.{matches, counted_of, tick_of}
use Rattle.c_catch_up.specs.Code.Ticks.{ticks_of, rung_within, caught_of}

-- 00h with its flags set: the flags are those, the rest is kept
has_af : (k : ℕ) (a b : Bool) → has (flagged k a b) AF ≡ a
has_af k true true = eq-eqb (flagged k true true / 64 % 2) 1 (omega arith)
has_af k true false = eq-eqb (flagged k true false / 64 % 2) 1 (omega arith)
has_af k false true = ne_eqb (flagged k false true / 64 % 2) 1 (λ e. omega arith)
has_af k false false = ne_eqb (flagged k false false / 64 % 2) 1 (λ e. omega arith)

has_cf : (k : ℕ) (a b : Bool) → has (flagged k a b) CF ≡ b
has_cf k true true = eq-eqb (flagged k true true / 32 % 2) 1 (omega arith)
has_cf k true false = ne_eqb (flagged k true false / 32 % 2) 1 (λ e. omega arith)
has_cf k false true = eq-eqb (flagged k false true / 32 % 2) 1 (omega arith)
has_cf k false false = ne_eqb (flagged k false false / 32 % 2) 1 (λ e. omega arith)

rest_kept : (k : ℕ) (a b : Bool) → (flagged k a b / 128 ≡ k / 128) × (flagged k a b % 32 ≡ k % 32)
rest_kept k true true = omega arith
rest_kept k true false = omega arith
rest_kept k false true = omega arith
rest_kept k false false = omega arith

low_bits : (x k : ℕ) → x % 32 ≡ k % 32 → (x / 2 % 2 ≡ k / 2 % 2) × (x / 1 % 2 ≡ k / 1 % 2)
low_bits x k e = omega arith

flagged_again : (k : ℕ) (a b a' b' : Bool) → flagged (flagged k a b) a' b' ≡ flagged k a' b'
flagged_again k a b a' b' =
    let r = rest_kept k a b in
    ap (λ (n : ℕ). n * 128 + only a' AF + only b' CF + flagged k a b % 32) r.0
    ∙ ap (λ (n : ℕ). k / 128 * 128 + only a' AF + only b' CF + n) r.1

or_assoc : (a b c : Bool) → (a || b) || c ≡ a || (b || c)
or_assoc true b c = refl
or_assoc false b c = refl

-- what two ticks tell is what they tell together
told_told : (k : ℕ) (r c r' c' : Bool) → told_of (told_of k r c) r' c' ≡ told_of k (r || r') (c || c')
told_told k r c r' c' =
    let a = has k AF || r in
    let b = has k CF || c in
    ap (λ (x : Bool). flagged (flagged k a b) (x || r') (has (flagged k a b) CF || c')) (has_af k a b)
    ∙ ap (λ (x : Bool). flagged (flagged k a b) (a || r') (x || c')) (has_cf k a b)
    ∙ flagged_again k a b (a || r') (b || c')
    ∙ ap (λ (x : Bool). flagged k x (b || c')) (or_assoc (has k AF) r r')
    ∙ ap (λ (x : Bool). flagged k (has k AF || (r || r')) x) (or_assoc (has k CF) c c')

-- 02h to 08h that followed, and follow again
followed_twice : (b : Bool) (x y t : Calendar) → cond b (cond b t y) x ≡ cond b t x
followed_twice true x y t = refl
followed_twice false x y t = refl

followed_again :
    (k : ℕ) (r c : Bool) (x y t : Calendar) → followed (told_of k r c) x (followed k y t) ≡ followed k x t
followed_again k r c x y t =
    let l = low_bits (told_of k r c) k (rest_kept k (has k AF || r) (has k CF || c)).1 in
    ap (λ (n : ℕ). cond (eqb n 1 || has (told_of k r c) R) (followed k y t) x) l.0
    ∙ ap (λ (n : ℕ). cond (has k W || eqb n 1) (followed k y t) x) l.1
    ∙ followed_twice (has k W || has k R) x y t

-- a tick after n: the core is as valid, and its flags join theirs
still_valid : (n : ℕ) (c : Calendar) → is_valid (after n c) ≡ is_valid c
still_valid n c = by_validity (is_valid c) refl
  where
    by_validity : (b : Bool) → is_valid c ≡ b → is_valid (after n c) ≡ is_valid c
    by_validity true e = test_true (is_valid (after n c)) (after_valid n c (true_test (is_valid c) e)) ∙ sym e
    by_validity false e = ap is_valid (after_invalid c e n)

and_joined : (v w r m : Bool) → w ≡ v → (v && r) || (w && m) ≡ v && (r || m)
and_joined true w r m e = rw e
and_joined false w r m e = rw e

or_true : (a : Bool) → a || true ≡ true
or_true true = refl
or_true false = refl

or_false : (a : Bool) → a || false ≡ a
or_false true = refl
or_false false = refl

crossed_more : (q : ℕ) (b : Bool) → ltb 0 q || b ≡ ltb 0 (q + bit b)
crossed_more q true = or_true (ltb 0 q) ∙ sym (lt-ltb 0 (q + 1) (omega arith))
crossed_more q false = or_false (ltb 0 q) ∙ ap (ltb 0) (sym (add-zero q))

tick_counts : (c : Companion) → has c.registers.trim OSCEN ≡ false → tick_of c ≡ counted_of c
unfolding tick_of
tick_counts c e = rw e

tick_stopped : (c : Companion) → has c.registers.trim OSCEN ≡ true → tick_of c ≡ c
unfolding tick_of
tick_stopped c e = rw e

-- one tick more
counted_caught : (n : ℕ) (c : Companion) → counted_of (caught_of n c) ≡ caught_of (suc n) c
unfolding caught_of rung_within after after_of crossings
counted_caught n c =
    let k = c.registers.control in
    let x = after n c.core in
    let r = is_valid c.core && rung_within n c.registers.alarm c.core in
    let f = ltb 0 (crossings n c.core) in
    let m = matches c.registers.alarm (next_of x).calendar in
    let control =
    told_told k r f (is_valid x && m) (next_of x).century
    ∙ ap (λ (b : Bool). told_of k b (f || (next_of x).century))
    (and_joined (is_valid c.core) (is_valid x) (rung_within n c.registers.alarm c.core) m (still_valid n c.core))
    ∙ ap (λ (b : Bool). told_of k (is_valid c.core && (rung_within n c.registers.alarm c.core || m)) b)
    (crossed_more (crossings n c.core) (next_of x).century) in
    let time = followed_again k r f (next_of x).calendar x c.registers.time in
    λ i. record {
      registers =
          record {
            control = control i;
            trim = c.registers.trim;
            time = time i;
            alarm = c.registers.alarm;
            setup = c.registers.setup;
          };
      core = (next_of x).calendar;
      address = c.address;
    }

-- the first tick
counted_first : (c : Companion) → counted_of c ≡ caught_of 1 c
unfolding caught_of rung_within after after_of crossings
counted_first c =
    let b = (next_of c.core).century in
    ap (λ (f : Bool). record {
      registers =
          record {
            control = told_of c.registers.control (is_valid c.core && matches c.registers.alarm (next_of c.core).calendar) f;
            trim = c.registers.trim;
            time = followed c.registers.control (next_of c.core).calendar c.registers.time;
            alarm = c.registers.alarm;
            setup = c.registers.setup;
          };
      core = (next_of c.core).calendar;
      address = c.address;
    }) (crossed_more 0 b)

caught_trim : (n : ℕ) (c : Companion) → (caught_of n c).registers.trim ≡ c.registers.trim
unfolding caught_of
caught_trim n c = refl

module _ (c : Companion) where
  pub ticks_caught : has c.registers.trim OSCEN ≡ false → (n : ℕ) → ticks_of (suc n) c ≡ caught_of (suc n) c
  unfolding ticks_of
  ticks_caught e zero = tick_counts c e ∙ counted_first c
  ticks_caught e (suc n) =
      ap tick_of (ticks_caught e n)
      ∙ tick_counts (caught_of (suc n) c) (ap (λ (t : ℕ). has t OSCEN) (caught_trim (suc n) c) ∙ e)
      ∙ counted_caught (suc n) c

  pub ticks_stopped : has c.registers.trim OSCEN ≡ true → (n : ℕ) → ticks_of n c ≡ c
  unfolding ticks_of
  ticks_stopped e zero = refl
  ticks_stopped e (suc n) = ap tick_of (ticks_stopped e n) ∙ tick_stopped c e

  pub ticks_none : ticks_of 0 c ≡ c
  unfolding ticks_of
  ticks_none = refl

  -- any number but 0 is one more than another
  pub ticks_some : has c.registers.trim OSCEN ≡ false → (n : ℕ) → (n ≡ 0 → ⊥) → ticks_of n c ≡ caught_of n c
  ticks_some e zero h = absurd (h refl)
  ticks_some e (suc n) h = ticks_caught e n

-- flags that nothing raises stay as they are
byte_split : (k : ℕ) → k / 128 * 128 + k / 64 % 2 * 64 + k / 32 % 2 * 32 + k % 32 ≡ k
byte_split k =
    let high : k / 64 ≡ k / 128 * 2 + k / 64 % 2 = omega arith in
    let low : k / 32 ≡ k / 64 * 2 + k / 32 % 2 = omega arith in
    omega arith

same_flags : (k : ℕ) (a f : Bool) → has k AF ≡ a → has k CF ≡ f → flagged k a f ≡ k
same_flags k true true p q =
    omega (arith, byte_split k, eqb-true (k / 64 % 2) 1 p, eqb-true (k / 32 % 2) 1 q)
same_flags k true false p q =
    let n = eqb-false (k / 32 % 2) 1 q in
    omega (arith, byte_split k, eqb-true (k / 64 % 2) 1 p)
same_flags k false true p q =
    let n = eqb-false (k / 64 % 2) 1 p in
    omega (arith, byte_split k, eqb-true (k / 32 % 2) 1 q)
same_flags k false false p q =
    let n = eqb-false (k / 64 % 2) 1 p in
    let m = eqb-false (k / 32 % 2) 1 q in
    omega (arith, byte_split k)

told_nothing : (k : ℕ) → told_of k false false ≡ k
told_nothing k =
    ap (λ (x : Bool). flagged k x (has k CF || false)) (or_false (has k AF))
    ∙ ap (flagged k (has k AF)) (or_false (has k CF))
    ∙ same_flags k (has k AF) (has k CF) refl refl

-- an invalid core stays and raises nothing: all that ticks do is to let 02h to 08h follow it
pub invalid_caught : (n : ℕ) (c : Companion) → is_valid c.core ≡ false
    → with_registers c (with_time c.registers c.registers.control
    (followed c.registers.control c.core c.registers.time))
    ≡ caught_of n c
unfolding caught_of after_of
invalid_caught n c e =
    rw (
      e,
      after_invalid c.core e n,
      crossings_invalid c.core e n,
      told_nothing c.registers.control,
    )
    refl
