-- SPDX-License-Identifier: Apache-2.0
-- Rows of events: where one begins, one event more, and what it leaves in the image.
use Prim.Native.Nat.{ℕ, ◌+◌, ◌*◌, ◌/◌, ◌%◌, ◌<◌, ◌≤◌}
use mathlib.Core.Path.{◌≡◌, refl, sym, ap, ◌∙◌}
use mathlib.Core.Bool.{true, cond, ◌&&◌}
use mathlib.Core.List.{List}
use native.Mathlib.Omega.{arith}
use lib.Dec.{eqb}
use lib.ListN.{length, get_or, set, length-set}
use borrow.Author.Tests.{eqb-true, eqb-false}
use Rattle.wire.specs.Bits.{pushed, sent_bit}
use Rattle.wire.proofs.Tests.{by_test}
use Rattle.fm3130_companion.specs.Tick.{counted_of}
use Rattle.fm3130.specs.Answer.{pin_shown}
use Rattle.fm3130.specs.Code.Bus.{with_companion}
use Rattle.fm3130.specs.Chip.{memory_size}
use Rattle.fm3130.specs.declared.State.{State}
use Rattle.fm3130.proofs.Cases.{still, with_phase}
use Rattle.bus_image.specs.Layout.{transfer_of}
use Rattle.bus_image.specs.Code.Layout.{side_of}
use Rattle.fm3130_image.specs.Image.{image_of, candidate}
use Rattle.fm3130_image.specs.Code.Accepting.{is_image}
use Rattle.fm3130_image.proofs.Accepts.{image_well, image_written}
use Rattle.place_tick.specs.Code.Tick.{is_ticking}
use Rattle.place_clock.specs.Code.Outgoing.{fetched_from}
use Rattle.place_clock.specs.Code.Clocking.{Accepted}
use Rattle.place_rows.specs.Code.Led.{Led, Reached, Begun}
use Rattle.place_rows.proofs.Ledger.{led_none, led_more, image_accepted, lies}
use Rattle.place_rows.proofs.Inside.{with_bits, bits_lie, bits_over, bits_transfer, number_lies, clocks_lie}
use Rattle.place_rows.proofs.Inside.{on_while, no_transfer, high, turned, high_answer, line_answer, still_answer}
use Rattle.place_rows.proofs.Inside.{incoming_event, outgoing_event, first_event, idle_event, tick_event}

-- the pin's bits of the answers of a state
abbrev pub Pin : State → ℕ → Type 0
Pin s v = v ≡ 2 * pin_shown s.power s.companion

-- A row inside a byte: so many clocks done, these bits.
abbrev pub BitsLed : List ℕ → List ℕ → List ℕ → ℕ → List ℕ → ℕ → ℕ → ℕ → Type 0
BitsLed es i a from a' j k b =
    (m : List ℕ) → length m ≡ memory_size
    → Led es (candidate i) m a from (with_phase (candidate i) (with_bits (candidate i).phase k b)) m a' j

-- A row outside a transfer: the state stays.
abbrev pub IdleLed : List ℕ → List ℕ → List ℕ → ℕ → List ℕ → ℕ → Type 0
IdleLed es i a from a' j =
    (m : List ℕ) → length m ≡ memory_size → Led es (candidate i) m a from (candidate i) m a' j

-- A row of ticks.
abbrev pub TicksLed : List ℕ → List ℕ → List ℕ → ℕ → List ℕ → List ℕ → ℕ → Type 0
TicksLed es i a from i' a' j =
    (m : List ℕ) → length m ≡ memory_size → Led es (candidate i) m a from (candidate i') m a' j

pub settled_length : (i i₀ i' : List ℕ) (k b : ℕ) → i ≡ i₀ → i' ≡ set (set i 27 k) 28 b → length i' ≡ length i₀
settled_length i i₀ i' k b q e =
    ap length e ∙ length-set (set i 27 k) 28 b ∙ length-set i 27 k ∙ ap length q

module _ (es i a : List ℕ) (from : ℕ) (w : is_image i ≡ true) where
  pub idle_begun : from ≤ length es → IdleLed es i a from a from
  idle_begun n m h = led_none es (candidate i) m a from n (image_well i w) h

  pub none_reached : from ≤ length es → Reached es i a from i a from
  none_reached n m h = record { image = w; led = idle_begun n m h }

  pub bits_begun : from ≤ length es → BitsLed es i a from a from (get_or i 27 0) (get_or i 28 0)
  bits_begun n m h = rw (← bits_lie i (candidate i) (sym (image_written i w))) (idle_begun n m h)

  -- some transfer goes on
  pub number : get_or i 26 0 ≡ (transfer_of (candidate i).phase).phase
  number = number_lies i (candidate i) (sym (image_written i w))

  module _ (a' : List ℕ) (j : ℕ) (n : j < length es) (r : length es ≤ length a) (v : ℕ) (p : Pin (candidate i) v) where
    pub idle_more : IdleLed es i a from a' j → get_or i 26 0 ≡ 0 → get_or es j 0 / 2 ≡ 1
        → IdleLed es i a from (set a' j (v + get_or es j 0 % 2)) (j + 1)
    idle_more l z c m h =
        let s = candidate i in
        let e = get_or es j 0 in
        led_more es s m a from s m a' j (l m h) n r (turned s s.phase m (high e))
        (idle_event s m e c (no_transfer s.phase (sym number ∙ z))) (v + e % 2) (high_answer s s.phase m e v p)

    module _ (k b : ℕ) (l : BitsLed es i a from a' j k b) (c : get_or es j 0 / 2 ≡ 1) where
      pub incoming_more : 0 < get_or i 26 0 → get_or i 26 0 < 7 → k < 7
          → BitsLed es i a from (set a' j (v + get_or es j 0 % 2)) (j + 1) (k + 1) (pushed b (high (get_or es j 0)))
      incoming_more g f t m h =
          let s = candidate i in
          let q = s.phase in
          let u = with_phase s (with_bits q k b) in
          let e = get_or es j 0 in
          let g' : 0 < (transfer_of q).phase = rw number at g in
          let f' : (transfer_of q).phase < 7 = rw number at f in
          led_more es s m a from u m a' j (l m h) n r (turned u (with_bits q (k + 1) (pushed b (high e))) m (high e))
          (incoming_event u m e c (on_while s (image_well i w) g') q k b g' f' t refl) (v + e % 2)
          (high_answer u (with_bits q (k + 1) (pushed b (high e))) m e v p)

      pub outgoing_more : 6 < get_or i 26 0 → 0 < k → k < 7 → (x : ℕ)
          → x ≡ v + cond (high (get_or es j 0) && sent_bit k b) 1 0
          → BitsLed es i a from (set a' j x) (j + 1) (k + 1) b
      outgoing_more g z t x y m h =
          let s = candidate i in
          let q = s.phase in
          let u = with_phase s (with_bits q k b) in
          let e = get_or es j 0 in
          let g' : 6 < (transfer_of q).phase = rw number at g in
          let on : 0 < (transfer_of q).phase = omega arith in
          led_more es s m a from u m a' j (l m h) n r (turned u (with_bits q (k + 1) b) m (high e && sent_bit k b))
          (outgoing_event u m e c (on_while s (image_well i w) on) q k b g' z t refl) x
          (line_answer u (with_bits q (k + 1) b) m v x (high e && sent_bit k b) p y)

  -- what a row inside a byte leaves in the image
  pub bits_reached : (i₁ i' a' : List ℕ) (j k b : ℕ) → BitsLed es i a from a' j k b → 0 < get_or i 26 0 → i₁ ≡ i
      → i' ≡ set (set i₁ 27 k) 28 b → Reached es i a from i' a' j
  bits_reached i₁ i' a' j k b l g q e m h =
      let s = candidate i in
      let g' : 0 < (transfer_of s.phase).phase = rw number at g in
      let u = with_phase s (with_bits s.phase k b) in
      let y : i' ≡ image_of u = (rw q at e) ∙ bits_over i s (sym (image_written i w)) k b g' in
      let d = l m h in
      record { image = image_accepted i' u y d.state; led = rw (lies i' u y) d }

  pub idle_reached : (a' : List ℕ) (j : ℕ) → IdleLed es i a from a' j → Reached es i a from i a' j
  idle_reached a' j l m h = record { image = w; led = l m h }

  -- one tick more
  pub tick_more : (i₁ i' a' : List ℕ) (j v : ℕ) → TicksLed es i a from i₁ a' j → j < length es → length es ≤ length a
      → is_ticking (candidate i₁) ≡ true → i' ≡ image_of (with_companion (candidate i₁) (counted_of (candidate i₁).companion))
      → get_or es j 0 ≡ 4 → Pin (with_companion (candidate i₁) (counted_of (candidate i₁).companion)) v
      → TicksLed es i a from i' (set a' j (v + 1)) (j + 1)
  tick_more i₁ i' a' j v l n r t e q p m h =
      let s = candidate i₁ in
      let u = with_companion s (counted_of s.companion) in
      rw (lies i' u e)
      (led_more es (candidate i) m a from s m a' j (l m h) n r (still u m) (tick_event s m (get_or es j 0) t q) (v + 1)
      (still_answer u m v p))

  pub ticks_reached : (i' a' : List ℕ) (j : ℕ) → TicksLed es i a from i' a' j → i' ≡ image_of (candidate i')
      → Reached es i a from i' a' j
  ticks_reached i' a' j l e m h =
      let d = l m h in record { image = image_accepted i' (candidate i') e d.state; led = d }

-- a place where the events differ lies further on
pub further : (P : ℕ → Type 0) (es : List ℕ) (i j : ℕ) → i ≤ j → P (get_or es i 0) → (P (get_or es j 0) → ⊥) → i < j
further P es i j h e n =
    by_test (eqb i j) (λ t. absurd (n (rw (← eqb-true i j t) e))) (λ t. let k = eqb-false i j t in omega arith)

-- the first bit of a byte that goes out
module _ (es i m a : List ℕ) (from : ℕ) (c : Accepted i m) (n : from < length es) (r : length es ≤ length a)
    (k : get_or es from 0 / 2 ≡ 1) where
  pub row_begun : 6 < get_or i 26 0 → get_or i 27 0 ≡ 0 → (i' : List ℕ) (b v x : ℕ)
      → b ≡ fetched_from (side_of (get_or i 26 0)) (candidate i) m → Pin (candidate i) v
      → x ≡ v + cond (high (get_or es from 0) && sent_bit 0 b) 1 0 → i' ≡ set (set i 27 1) 28 b
      → Begun es i m a from i' (set a from x) (from + 1)
  row_begun g z i' b v x f p y e =
      let s = candidate i in
      let q = s.phase in
      let w = sym (image_written i c.image) in
      let g' : 6 < (transfer_of q).phase = rw (number es i a from c.image) at g in
      let on : 0 < (transfer_of q).phase = omega arith in
      let b' : b ≡ fetched_from (side_of (transfer_of q).phase) s m = rw (number es i a from c.image) at f in
      let u = with_phase s (with_bits q 1 b) in
      let own : s.phase ≡ with_bits q 0 (get_or i 28 0) = rw z at (ap (λ (t : State). t.phase) (bits_lie i s w)) in
      let d = led_more es s m a from s m a from (idle_begun es i a from c.image (omega arith) m c.memory) n r
      (turned s (with_bits q 1 b) m (high (get_or es from 0) && sent_bit 0 b))
      (first_event s m (get_or es from 0) k (on_while s (image_well i c.image) on) q (get_or i 28 0) g' own b b') x
      (line_answer s (with_bits q 1 b) m v x (high (get_or es from 0) && sent_bit 0 b) p y) in
      let l : i' ≡ image_of u = e ∙ bits_over i s w 1 b on in
      let t = bits_transfer q 1 b on in
      record {
        along = record { image = image_accepted i' u l d.state; led = rw (lies i' u l) d };
        sends = rw (number_lies i' u l, t) g';
        some = rw (clocks_lie i' u l, t) (omega arith);
        few = rw (clocks_lie i' u l, t) (omega arith);
      }

-- a byte that had begun
pub begun_still : (es i m a : List ℕ) (from : ℕ) → Accepted i m → from ≤ length es → 6 < get_or i 26 0
    → (get_or i 27 0 ≡ 0 → ⊥) → get_or i 27 0 < 7 → Begun es i m a from i a from
begun_still es i m a from c n g z f =
    record {
      along = none_reached es i a from c.image n m c.memory;
      sends = g;
      some = omega (arith, z);
      few = f;
    }

-- what the pin shows, and that it fits beside a line
pub shown_both : {i : List ℕ} {r : ℕ}
    → ((s : State) → i ≡ image_of s → r ≡ 2 * pin_shown s.power s.companion) × (r ≤ 14) → (s : State) → i ≡ image_of s
    → (r ≡ 2 * pin_shown s.power s.companion) × (r ≤ 14)
shown_both p s e = (p.0 s e, p.1)
