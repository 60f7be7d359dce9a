-- SPDX-License-Identifier: Apache-2.0
-- Rows of one event at least: one event; Clocks inside a byte, and outside a transfer. By induction on how many there are, each
-- row of `bus_rows` is the part of the list that these events are.
use Prim.Native.Nat.{ℕ, zero, suc, ◌+◌, ◌-◌, ◌/◌, ◌%◌, ◌<◌, ◌≤◌}
use mathlib.Core.Path.{◌≡◌, refl, sym, ap, ◌∙◌}
use mathlib.Core.Bool.{true, cond, ◌&&◌}
use mathlib.Core.List.{List}
use native.Mathlib.Omega.{arith}
use lib.ListN.{length, get_or, set}
use Rattle.wire.specs.Bits.{sent_bit}
use Rattle.wire.specs.declared.Phase.{Phase}
use Rattle.wire.proofs.Tests.{and_join}
use Rattle.bus.specs.Select.{lone, slave_names_for}
use Rattle.bus.specs.Code.Outcome as bus
use Rattle.bus.specs.declared.Power.TheVariants.{On}
use Rattle.fm31.specs.Chip.{companion31, Done, event_of}
use Rattle.fm31.specs.Limits.{well_formed}
use Rattle.fm31.specs.Run.{after, answer_to, run_of}
use Rattle.fm31.specs.Step.{state_of}
use Rattle.fm31.specs.declared.State.{State}
use Rattle.fm31.proofs.Entry.{limits_of}
use Rattle.bus_image.specs.Layout.{transfer_of}
use Rattle.bus_image.proofs.Lists.{same_self}
use Rattle.fm31_image.specs.Image.{image_of, candidate}
use Rattle.fm31_image.specs.Accepting.{is_image}
use Rattle.fm31_image.proofs.Images.{candidate_of}
use Rattle.fm31_image.proofs.Accepts.{image_well, image_written}
use Rattle.fm31_place.specs.Lying.{Accepted, Answered}
use Rattle.law_stretch.proofs.Ledger.{led_none, led_more, led_on, led_through}
use Rattle.fm31_run.proofs.Runs.{keeps}
use Rattle.bus_rows.specs.Row.{high, bits_after, heard_after, sent_after, Received, Sent, Unheard}
use Rattle.bus_rows.proofs.Inside.{with_bits, own_bits, bits_transfer, on_by, no_transfer, high_worth}
use Rattle.bus_rows.proofs.Inside.{incoming_event, outgoing_event, idle_event}
use Rattle.fm31_place_list.specs.Rowed.{Led, Rowed, RanIn}

-- what a well-formed state writes is accepted
image_accepted : (size : ℕ) (i : List ℕ) (s : State) → i ≡ image_of s → well_formed size lone s ≡ true → is_image size lone i ≡ true
unfolding is_image
image_accepted size i s e w = rw (e, candidate_of s) (and_join _ _ w (same_self (image_of s)))

-- the state that lies in an image
lies : (i : List ℕ) (s : State) → i ≡ image_of s → candidate i ≡ s
lies i s e = ap candidate e ∙ candidate_of s

-- the same state with another phase
abbrev with_phase : State → Phase → State
with_phase s p = record { bus = bus.with_phase s.bus p; counters = s.counters }

-- where a transfer lies in an image
module _ (i : List ℕ) (s : State) (e : i ≡ image_of s) where
  number_lies : get_or i 26 0 ≡ (transfer_of s.bus.phase).phase
  unfolding image_of
  number_lies = rw e

  clocks_lie : get_or i 27 0 ≡ (transfer_of s.bus.phase).clocks
  unfolding image_of
  clocks_lie = rw e

  byte_lies : get_or i 28 0 ≡ (transfer_of s.bus.phase).byte
  unfolding image_of
  byte_lies = rw e

  bits_lie : s ≡ with_phase s (with_bits s.bus.phase (get_or i 27 0) (get_or i 28 0))
  bits_lie = ap (with_phase s) (sym (own_bits s.bus.phase) ∙ rw (clocks_lie, byte_lies) refl)

  bits_over : (k b : ℕ) → 0 < (transfer_of s.bus.phase).phase
      → set (set i 27 k) 28 b ≡ image_of (with_phase s (with_bits s.bus.phase k b))
  unfolding image_of
  bits_over k b h = rw (e, bits_transfer s.bus.phase k b h)

zero_plus : (n : ℕ) → 0 + n ≡ n
zero_plus n = omega arith

module _ (size : ℕ) (z : 0 < size) (es i m a : List ℕ) (from : ℕ) (c : Accepted size lone i m) where
  pub begun : from ≤ length es → Led size es (candidate i) m a from (candidate i) m a from
  begun n =
      led_none (after size lone) (λ s. well_formed size lone s ≡ true) size es (candidate i) m a from n
      (image_well size lone i c.image) c.memory

  -- one event more, by what it leaves
  more : (s : State) (a' : List ℕ) (j : ℕ) → Led size es (candidate i) m a from s m a' j → j < length es → length es ≤ length a
      → (d : Done size lone) → event_of size lone s m (get_or es j 0) ≡ d → (v : ℕ) → v ≡ answer_to d
      → Led size es (candidate i) m a from (state_of d) d.memory (set a' j v) (j + 1)
  more s a' j l n r d e v f =
      led_more (after size lone) (λ s. well_formed size lone s ≡ true) size es (candidate i) m a from s m a' j (keeps size z) l n r
      (record { state = state_of d; memory = d.memory; answer = answer_to d })
      (ap (λ (x : Done size lone). record { state = state_of x; memory = x.memory; answer = answer_to x }) e) v f

  -- what a part leads to lies in the image
  rowed : (i' m' a' : List ℕ) (to : ℕ) (s' : State) → i' ≡ image_of s' → from < to
      → Led size es (candidate i) m a from s' m' a' to → Rowed size es i m a from i' m' a' to
  rowed i' m' a' to s' e n l =
      record { further = n; image = image_accepted size i' s' e l.state; led = rw (lies i' s' e) l }

  -- one event
  pub rowed_one : (i' m' : List ℕ) (v : ℕ) → from < length es → length es ≤ length a
      → Answered size lone (event_of size lone (candidate i) m (get_or es from 0)) v i' m'
      → Rowed size es i m a from i' m' (set a from v) (from + 1)
  rowed_one i' m' v n r d =
      let o = event_of size lone (candidate i) m (get_or es from 0) in
      rowed i' m' (set a from v) (from + 1) (state_of o) d.image (omega arith)
      (rw d.memory (more (candidate i) a from (begun (omega arith)) n r o refl v d.answer))

  -- some transfer goes on, or none
  pub number : get_or i 26 0 ≡ (transfer_of (candidate i).bus.phase).phase
  number = number_lies i (candidate i) (sym (image_written size lone i c.image))

  on_while : 0 < get_or i 26 0 → (candidate i).bus.power ≡ On
  on_while g =
      on_by _ _ (limits_of size lone (candidate i) (image_well size lone i c.image)).bus.power (rw number at g)

  module _ (r : length es ≤ length a) where
    -- Clocks that nobody hears
    idle_led : get_or i 26 0 ≡ 0 → (n : ℕ) → from + n ≤ length es
        → ((j : ℕ) → from ≤ j → j < from + n → get_or es j 0 / 2 ≡ 1)
        → Led size es (candidate i) m a from (candidate i) m (heard_after es from 0 a n) (from + n)
    unfolding heard_after
    idle_led q zero h k = let e : from + 0 ≡ from = omega arith in rw e (begun (omega arith))
    idle_led q (suc n) h k =
        let s = candidate i in
        let e = get_or es (from + n) 0 in
        let t : from + n + 1 ≡ from + suc n = omega arith in
        let l = idle_led q n (omega arith) (λ j g f. k j g (omega arith)) in
        let d = idle_event size (slave_names_for lone) companion31 s.bus s.counters m e (k (from + n) (omega arith) (omega arith))
        (no_transfer s.bus.phase (sym number ∙ q)) in
        rw t at (more s (heard_after es from 0 a n) (from + n) l (omega arith) r _ d (0 + e % 2) (zero_plus (e % 2) ∙ high_worth e))

    pub idle_row : get_or i 26 0 ≡ 0 → (a' : List ℕ) (to : ℕ) → Unheard 0 es a from a' to → from < to
        → Rowed size es i m a from i m a' to
    idle_row q a' to u f =
        let t : from + (to - from) ≡ to = omega (arith, u.row.onward) in
        let l = idle_led q (to - from) (omega (arith, u.row.onward, u.row.inside))
        (λ j g h. u.row.clocks j g (omega (arith, h, t))) in
        rowed i m a' to (candidate i) (sym (image_written size lone i c.image)) f (rw u.answers (rw t at l))

    module _ (g : 0 < get_or i 26 0) where
      abbrev bits_in : ℕ → ℕ → State
      bits_in k b = with_phase (candidate i) (with_bits (candidate i).bus.phase k b)

      begun_bits : from ≤ length es → Led size es (candidate i) m a from (bits_in (get_or i 27 0) (get_or i 28 0)) m a from
      begun_bits n = rw (← bits_lie i (candidate i) (sym (image_written size lone i c.image))) (begun n)

      -- a byte that comes in
      bits_led : get_or i 26 0 < 7 → (n : ℕ) → get_or i 27 0 + n ≤ 7 → from + n ≤ length es
          → ((j : ℕ) → from ≤ j → j < from + n → get_or es j 0 / 2 ≡ 1)
          → Led size es (candidate i) m a from (bits_in (get_or i 27 0 + n) (bits_after es from (get_or i 28 0) n)) m
          (heard_after es from 0 a n) (from + n)
      unfolding heard_after bits_after
      bits_led f zero w h k =
          let e : from + 0 ≡ from = omega arith in
          let o : get_or i 27 0 + 0 ≡ get_or i 27 0 = omega arith in
          rw (e, o) (begun_bits (omega arith))
      bits_led f (suc n) w h k =
          let s = candidate i in
          let p = s.bus.phase in
          let e = get_or es (from + n) 0 in
          let b = bits_after es from (get_or i 28 0) n in
          let x = get_or i 27 0 + n in
          let t : from + n + 1 ≡ from + suc n = omega arith in
          let y : x + 1 ≡ get_or i 27 0 + suc n = omega arith in
          let l = bits_led f n (omega arith) (omega arith) (λ j g f. k j g (omega arith)) in
          let d = incoming_event size (slave_names_for lone) companion31 (bus.with_phase s.bus (with_bits p x b)) s.counters m e
          (k (from + n) (omega arith) (omega arith)) (on_while g) p x b (rw number at g) (rw number at f) (omega arith) refl in
          rw t at (rw y at (more (bits_in x b) (heard_after es from 0 a n) (from + n) l (omega arith) r _ d (0 + e % 2)
          (zero_plus (e % 2) ∙ high_worth e)))

      pub receive_row : get_or i 26 0 < 7 → (i' a' : List ℕ) (to : ℕ) → Received 0 es i a from i' a' to → from < to
          → Rowed size es i m a from i' m a' to
      receive_row f i' a' to u h =
          let t : from + (to - from) ≡ to = omega (arith, u.row.onward) in
          let l = bits_led f (to - from) u.few (omega (arith, u.row.onward, u.row.inside))
          (λ j g h. u.row.clocks j g (omega (arith, h, t))) in
          rowed i' m a' to _
          (u.image ∙ bits_over i (candidate i) (sym (image_written size lone i c.image)) _ _ (rw number at g)) h
          (rw u.answers (rw t at l))

      -- a byte that goes out
      sent_led : 6 < get_or i 26 0 → 0 < get_or i 27 0 → (n : ℕ) → get_or i 27 0 + n ≤ 7 → from + n ≤ length es
          → ((j : ℕ) → from ≤ j → j < from + n → get_or es j 0 / 2 ≡ 1)
          → Led size es (candidate i) m a from (bits_in (get_or i 27 0 + n) (get_or i 28 0)) m
          (sent_after es from 0 a (get_or i 27 0) (get_or i 28 0) n) (from + n)
      unfolding sent_after
      sent_led f q zero w h k =
          let e : from + 0 ≡ from = omega arith in
          let o : get_or i 27 0 + 0 ≡ get_or i 27 0 = omega arith in
          rw (e, o) (begun_bits (omega arith))
      sent_led f q (suc n) w h k =
          let s = candidate i in
          let p = s.bus.phase in
          let e = get_or es (from + n) 0 in
          let b = get_or i 28 0 in
          let x = get_or i 27 0 + n in
          let t : from + n + 1 ≡ from + suc n = omega arith in
          let y : x + 1 ≡ get_or i 27 0 + suc n = omega arith in
          let l = sent_led f q n (omega arith) (omega arith) (λ j g f. k j g (omega arith)) in
          let d = outgoing_event size (slave_names_for lone) companion31 (bus.with_phase s.bus (with_bits p x b)) s.counters m e
          (k (from + n) (omega arith) (omega arith)) (on_while g) p x b (rw number at f) (omega arith) (omega arith) refl in
          rw t at (rw y at (more (bits_in x b) (sent_after es from 0 a (get_or i 27 0) b n) (from + n) l (omega arith) r _ d
          (0 + cond (high e && sent_bit x b) 1 0) (zero_plus _)))

      pub send_row : 6 < get_or i 26 0 → 0 < get_or i 27 0 → (i' a' : List ℕ) (to : ℕ) → Sent 0 es i a from i' a' to → from < to
          → Rowed size es i m a from i' m a' to
      send_row f q i' a' to u h =
          let t : from + (to - from) ≡ to = omega (arith, u.row.onward) in
          let l = sent_led f q (to - from) u.few (omega (arith, u.row.onward, u.row.inside))
          (λ j g h. u.row.clocks j g (omega (arith, h, t))) in
          rowed i' m a' to _
          (u.image ∙ bits_over i (candidate i) (sym (image_written size lone i c.image)) _ _ (rw number at g)) h
          (rw u.answers (rw t at l))

-- two parts, one after the other
pub led_onward : (size : ℕ) (es : List ℕ) (s : State) (m a : List ℕ) (i : ℕ) (s' : State) (m' a' : List ℕ) (i' : ℕ)
    (s'' : State) (m'' a'' : List ℕ) (i'' : ℕ) → Led size es s m a i s' m' a' i' → Led size es s' m' a' i' s'' m'' a'' i''
    → Led size es s m a i s'' m'' a'' i''
led_onward size = led_on (after size lone) (λ s. well_formed size lone s ≡ true) size

-- the whole list
pub ran_through : (size : ℕ) (es i m a i' m' a' : List ℕ) (j : ℕ) → length es ≤ j → is_image size lone i' ≡ true
    → Led size es (candidate i) m a 0 (candidate i') m' a' j → RanIn size (candidate i) m es a i' m' a'
unfolding run_of
ran_through size es i m a i' m' a' j n h l =
    led_through (after size lone) (λ s. well_formed size lone s ≡ true) size image_of es (candidate i) m a (candidate i') m' a' j n l i'
    (sym (image_written size lone i' h))
