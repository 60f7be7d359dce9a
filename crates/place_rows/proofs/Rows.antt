-- SPDX-License-Identifier: Apache-2.0
-- The rows of every part (`bus_rows`), on this one: by induction on how many events there are, each is the part of the list
-- that these events are. The bits beside the line are what the pin shows, which stays through a row.
use Prim.Native.Nat.{ℕ, zero, suc, ◌+◌, ◌-◌, ◌≤◌, ◌<◌}
use mathlib.Core.Path.{◌≡◌, refl}
use mathlib.Core.Bool.{true}
use mathlib.Core.List.{List}
use native.Mathlib.Omega.{arith}
use lib.ListN.{length, get_or}
use Rattle.bus_rows.specs.Row.{bits_after, heard_after, sent_after, Row, Received, Sent, Unheard}
use Rattle.bus_rows.proofs.Rows.{Clocks}
use Rattle.fm3130_image.specs.Image.{candidate}
use Rattle.fm3130_image.specs.Code.Accepting.{is_image}
use Rattle.place_rows.specs.Code.Led.{Clocked}
use Rattle.place_rows.proofs.Rowing.{Pin, BitsLed, IdleLed, idle_begun, idle_more, idle_reached}
use Rattle.place_rows.proofs.Rowing.{bits_begun, incoming_more, outgoing_more, bits_reached}

module _ (es i a : List ℕ) (from : ℕ) (w : is_image i ≡ true) (r : length es ≤ length a) (v : ℕ) (p : Pin (candidate i) v) where
  -- Clocks that nobody hears
  idle_led : get_or i 26 0 ≡ 0 → (n : ℕ) → from + n ≤ length es → Clocks es from (from + n)
      → IdleLed es i a from (heard_after es from v a n) (from + n)
  unfolding heard_after
  idle_led q zero h k = let e : from + 0 ≡ from = omega arith in rw e (idle_begun es i a from w (omega arith))
  idle_led q (suc n) h k =
      let t : from + n + 1 ≡ from + suc n = omega arith in
      rw t at (idle_more es i a from w (heard_after es from v a n) (from + n) (omega arith) r v p
      (idle_led q n (omega arith) (λ j g f. k j g (omega arith))) q (k (from + n) (omega arith) (omega arith)))

  -- a byte that comes in
  bits_led : 0 < get_or i 26 0 → get_or i 26 0 < 7 → (n : ℕ) → get_or i 27 0 + n ≤ 7 → from + n ≤ length es
      → Clocks es from (from + n)
      → BitsLed es i a from (heard_after es from v a n) (from + n) (get_or i 27 0 + n) (bits_after es from (get_or i 28 0) n)
  unfolding heard_after bits_after
  bits_led g f zero l h k =
      let e : from + 0 ≡ from = omega arith in
      let o : get_or i 27 0 + 0 ≡ get_or i 27 0 = omega arith in
      rw (e, o) (bits_begun es i a from w (omega arith))
  bits_led g f (suc n) l h k =
      let t : from + n + 1 ≡ from + suc n = omega arith in
      let y : get_or i 27 0 + n + 1 ≡ get_or i 27 0 + suc n = omega arith in
      rw t at (rw y at (incoming_more es i a from w (heard_after es from v a n) (from + n) (omega arith) r v p
      (get_or i 27 0 + n) (bits_after es from (get_or i 28 0) n)
      (bits_led g f n (omega arith) (omega arith) (λ j d u. k j d (omega arith))) (k (from + n) (omega arith) (omega arith))
      g f (omega arith)))

  -- a byte that goes out
  sent_led : 6 < get_or i 26 0 → 0 < get_or i 27 0 → (n : ℕ) → get_or i 27 0 + n ≤ 7 → from + n ≤ length es
      → Clocks es from (from + n)
      → BitsLed es i a from (sent_after es from v a (get_or i 27 0) (get_or i 28 0) n) (from + n) (get_or i 27 0 + n)
      (get_or i 28 0)
  unfolding sent_after
  sent_led g z zero l h k =
      let e : from + 0 ≡ from = omega arith in
      let o : get_or i 27 0 + 0 ≡ get_or i 27 0 = omega arith in
      rw (e, o) (bits_begun es i a from w (omega arith))
  sent_led g z (suc n) l h k =
      let t : from + n + 1 ≡ from + suc n = omega arith in
      let y : get_or i 27 0 + n + 1 ≡ get_or i 27 0 + suc n = omega arith in
      rw t at (rw y at (outgoing_more es i a from w (sent_after es from v a (get_or i 27 0) (get_or i 28 0) n) (from + n)
      (omega arith) r v p (get_or i 27 0 + n) (get_or i 28 0)
      (sent_led g z n (omega arith) (omega arith) (λ j d u. k j d (omega arith))) (k (from + n) (omega arith) (omega arith))
      g (omega arith) (omega arith) _ refl))

  -- so many events as lie between the two places
  module _ (to : ℕ) (o : Row es from to) where
    abbrev count : ℕ
    count = to - from

    reaches : from + count ≡ to
    reaches = omega (arith, o.onward)

    room : from + count ≤ length es
    room = omega (arith, o.onward, o.inside)

    clocks : Clocks es from (from + count)
    clocks j g h = o.clocks j g (omega (arith, h, reaches))

  pub idle_clocked : get_or i 26 0 ≡ 0 → (a' : List ℕ) (to : ℕ) → Unheard v es a from a' to → Clocked es i a from i a' to
  idle_clocked q a' to u =
      let o = u.row in (
        idle_reached es i a from w a' to
            (rw (u.answers) (rw (reaches to o) at (idle_led q (count to o) (room to o) (clocks to o)))),
        o.some,
      )

  pub received_clocked : 0 < get_or i 26 0 → get_or i 26 0 < 7 → (i' a' : List ℕ) (to : ℕ) → Received v es i a from i' a' to
      → Clocked es i a from i' a' to
  received_clocked g f i' a' to u =
      let o = u.row in (
        bits_reached es i a from w i i' a' to _ _
            (rw (u.answers) (rw (reaches to o) at (bits_led g f (count to o) u.few (room to o) (clocks to o)))) g refl u.image,
        o.some,
      )

  pub sent_clocked : 6 < get_or i 26 0 → 0 < get_or i 27 0 → (i' a' : List ℕ) (to : ℕ) → Sent v es i a from i' a' to
      → Clocked es i a from i' a' to
  sent_clocked g z i' a' to u =
      let o = u.row in (
        bits_reached es i a from w i i' a' to _ _
            (rw (u.answers) (rw (reaches to o) at (sent_led g z (count to o) u.few (room to o) (clocks to o))))
            (omega (arith, g)) refl u.image,
        o.some,
      )
