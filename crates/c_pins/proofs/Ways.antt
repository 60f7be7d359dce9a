-- SPDX-License-Identifier: Apache-2.0
-- The ways through the functions on image and memory; and the line's number, bit by bit.
use Prim.Native.Nat.{ℕ, ◌/◌, ◌%◌}
use mathlib.Core.Path.{◌≡◌, refl, sym, ap, ◌∙◌}
use mathlib.Core.Bool.{Bool, true, false, cond}
use mathlib.Core.List.{List}
use lib.Dec.{eqb}
use lib.ListN.{length}
use borrow.Author.Tests.{eq-eqb, ne_eqb}
use Rattle.place_clock.specs.Code.Clocking.{Accepted}
use Rattle.fm3130.specs.Answer.{answer_byte}
use Rattle.fm3130.specs.Chip.{memory_size}
use Rattle.fm3130_image.specs.Image.{candidate, decode_of}
use Rattle.fm3130_image.specs.Code.Accepting.{is_image}
use Rattle.fm3130_image.proofs.Accepts.{image_read, image_not_read}
use Rattle.c_line.specs.Line.{pulls_of, told_by}
use Rattle.c_line.specs.Code.Line.{pulls_with}
use Rattle.std.proofs.Common.{Ok, Err}
use Rattle.wire.proofs.Tests.{by_test}
use Rattle.numbers.specs.Numbers.{wrong_memory, wrong_state}
use Rattle.numbers.specs.Refusal.{number_of}
use Rattle.numbers.specs.declared.Refusal.{Refusal}
use Rattle.numbers.specs.declared.Refusal.TheVariants.{WrongMemory, WrongState}
use Rattle.fm3130_accept.specs.Admitted.{admitted}
use Rattle.pins_levels.specs.Look.{left, first_of, asks, events_of}
use Rattle.pins_levels.specs.Session.{asked}
use Rattle.pins_levels.specs.declared.Seen.{Seen}
use Rattle.pins_levels.specs.declared.Token.{Token}
use Rattle.pins_levels.specs.declared.Due.{Due}
use Rattle.c_pins.specs.Chip.{Held, held, fm3130_on, RanOn}
use Rattle.c_pins.specs.Entry.{Outcome, outcome, on_decoded, is_idle, settle_of, begin_of}
use Rattle.pins_levels.proofs.Facts.{if_true}
use Rattle.c_pins.proofs.Ran.{ran_held}

-- the three bits
bits : (t : Token) (n : ℕ) (a b c : Bool)
    → asks t (eqb (told_by (pulls_with a b c) / 0x100 % 2) 1) (eqb (told_by (pulls_with a b c) / 0x200 % 2) 1)
    (eqb (told_by (pulls_with a b c) / 0x400 % 2) 1) n ≡ asks t a b c n
bits t n true true true = refl
bits t n true true false = refl
bits t n true false true = refl
bits t n true false false = refl
bits t n false true true = refl
bits t n false true false = refl
bits t n false false true = refl
bits t n false false false = refl

pub line_asked : (i m : List ℕ) (t : Token) (n k : ℕ) → n ≡ told_by (pulls_of (candidate i) m) → k ≡ answer_byte (candidate i) true
    → asks t (eqb (n / 0x100 % 2) 1) (eqb (n / 0x200 % 2) 1) (eqb (n / 0x400 % 2) 1) k ≡ asked fm3130_on t (held (candidate i) m)
line_asked i m t n k e q =
    ap (λ (x : ℕ). asks t (eqb (x / 0x100 % 2) 1) (eqb (x / 0x200 % 2) 1) (eqb (x / 0x400 % 2) 1) k) e
    ∙ ap (asks t _ _ _) q
    ∙ bits t _ (fm3130_on.pulls (held (candidate i) m)) (fm3130_on.pulls (fm3130_on.event (held (candidate i) m) 2))
    (fm3130_on.pulls (fm3130_on.event (held (candidate i) m) 3))

-- the first look
module _ (i m : List ℕ) (v : Seen) (t r : Token) (e : t ≡ first_of v) where
  pub begin_refused : (x : Refusal) → admitted i m ≡ Err x → r ≡ left t (number_of x) → r ≡ begin_of i m v
  unfolding begin_of
  begin_refused x f q =
      by_test (eqb (length m) memory_size)
      (λ h. by_test (is_image i)
      (λ k. let z : Ok tt ≡ Err x = rw (h, k) at f in cc)
      (λ k. let z : Err WrongState ≡ Err x = rw (h, k) at f in
      let g : x ≡ WrongState = cc in
      rw (h, image_not_read i k) (rw (g, e) at q)))
      (λ h. let z : Err WrongMemory ≡ Err x = rw h at f in
      let g : x ≡ WrongMemory = cc in
      rw h (rw (g, e) at q))

  pub begin_memory : (length m ≡ memory_size → ⊥) → r ≡ left t wrong_memory → r ≡ begin_of i m v
  unfolding begin_of
  begin_memory h q = rw (ne_eqb (length m) memory_size h) (q ∙ ap (λ (x : Token). left x wrong_memory) e)

  pub begin_image : length m ≡ memory_size → is_image i ≡ false → r ≡ left t wrong_state → r ≡ begin_of i m v
  unfolding begin_of
  begin_image h k q =
      rw (eq-eqb (length m) memory_size h, image_not_read i k) (q ∙ ap (λ (x : Token). left x wrong_state) e)

  pub begin_done : length m ≡ memory_size → is_image i ≡ true → r ≡ asked fm3130_on t (held (candidate i) m) → r ≡ begin_of i m v
  unfolding begin_of
  begin_done h k q =
      rw (eq-eqb (length m) memory_size h, image_read i k)
      (q ∙ ap (λ (x : Token). asked fm3130_on x (held (candidate i) m)) e)

-- what is due
module _ (i m : List ℕ) (d : Due) where
  pub settle_left : (d.token.number ≡ 0 → ⊥) → outcome d.token i m ≡ settle_of i m d
  unfolding settle_of
  settle_left h = rw (ne_eqb d.token.number 0 h)

  module _ (n : d.token.number ≡ 0) where
    pub settle_on : (x : Outcome)
        → x ≡ cond (is_idle d) (outcome d.token i m)
        (cond (eqb (length m) memory_size) (on_decoded (decode_of i) i m d) (outcome (left d.token wrong_memory) i m))
        → x ≡ settle_of i m d
    unfolding settle_of
    settle_on x q = q ∙ sym (if_true (eqb d.token.number 0) _ (outcome d.token i m) (eq-eqb d.token.number 0 n))

    pub settle_idle : is_idle d ≡ true → outcome d.token i m ≡ settle_of i m d
    settle_idle h = settle_on (outcome d.token i m) (rw h)

    module _ (h : is_idle d ≡ false) (r : Token) where
      pub settle_refused : (x : Refusal) → admitted i m ≡ Err x → r ≡ left d.token (number_of x)
          → outcome r i m ≡ settle_of i m d
      settle_refused x f q =
          by_test (eqb (length m) memory_size)
          (λ k. by_test (is_image i)
          (λ l. let z : Ok tt ≡ Err x = rw (k, l) at f in cc)
          (λ l. let z : Err WrongState ≡ Err x = rw (k, l) at f in
          let g : x ≡ WrongState = cc in
          let p = rw g at q in
          settle_on (outcome r i m) (rw (h, k, image_not_read i l) (ap (λ (y : Token). outcome y i m) p))))
          (λ k. let z : Err WrongMemory ≡ Err x = rw k at f in
          let g : x ≡ WrongMemory = cc in
          let p = rw g at q in
          settle_on (outcome r i m) (rw (h, k) (ap (λ (y : Token). outcome y i m) p)))

      pub settle_memory : (length m ≡ memory_size → ⊥) → r ≡ left d.token wrong_memory → outcome r i m ≡ settle_of i m d
      settle_memory k q =
          settle_on (outcome r i m) (rw (h, ne_eqb (length m) memory_size k) (ap (λ (x : Token). outcome x i m) q))

      pub settle_image : length m ≡ memory_size → is_image i ≡ false → r ≡ left d.token wrong_state
          → outcome r i m ≡ settle_of i m d
      settle_image k l q =
          settle_on (outcome r i m)
          (rw (h, eq-eqb (length m) memory_size k, image_not_read i l) (ap (λ (x : Token). outcome x i m) q))

      pub settle_done : (i' m' : List ℕ) → Accepted i m → RanOn i m (events_of d) i' m'
          → r ≡ asked fm3130_on d.token (held (candidate i') m') → outcome r i' m' ≡ settle_of i m d
      settle_done i' m' a w q =
          settle_on (outcome r i' m')
          (rw (h, eq-eqb (length m) memory_size a.memory, image_read i a.image)
          (λ j. outcome
          ((q ∙ ap (λ (x : Held). asked fm3130_on d.token x) (ran_held i m (events_of d) i' m' w)) j)
          (w.image j) (w.memory j)))
