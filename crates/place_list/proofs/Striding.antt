-- SPDX-License-Identifier: Apache-2.0
-- Rows of one event at least: one event, any Clock in a transfer, a row that touches no memory, the rest of a byte that has
-- begun; and what the test of a tick tells.
use Prim.Native.Nat.{ℕ, ◌+◌, ◌/◌, ◌<◌, ◌≤◌}
use mathlib.Core.Path.{◌≡◌, refl, ◌∙◌}
use mathlib.Core.Bool.{Bool, true, false, cond, false≢true}
use mathlib.Core.List.{List}
use native.Mathlib.Omega.{arith}
use lib.Dec.{eqb}
use lib.ListN.{length, get_or, set}
use borrow.Author.Tests.{eqb-true, eqb-false}
use Rattle.wire.specs.Machine.{lined}
use Rattle.wire.proofs.Tests.{by_test}
use Rattle.bus.specs.declared.Power.TheVariants.{On}
use Rattle.fm3130.specs.Code.Bus.{clocked_with}
use Rattle.fm3130.specs.Event.{event_on, event_of}
use Rattle.fm3130.specs.declared.State.{State}
use Rattle.fm3130.proofs.Cases.{happening_clock}
use Rattle.bus_image.specs.Layout.{transfer_of}
use Rattle.fm3130_image.specs.Image.{image_of, candidate}
use Rattle.fm3130_image.proofs.Accepts.{image_well}
use Rattle.place_tick.specs.Code.Tick.{is_ticking}
use Rattle.place_clock.specs.Code.Clocking.{Accepted, Left, clock_on}
use Rattle.place_event.specs.Code.Answering.{Answered}
use Rattle.place_rows.specs.Code.Led.{Led, Reached, Clocked, Begun}
use Rattle.place_rows.proofs.Ledger.{begun, led_more, led_on, image_accepted, lies}
use Rattle.place_rows.proofs.Inside.{on_while}
use Rattle.place_rows.proofs.Rowing.{Pin, number}
use Rattle.place_list.specs.Code.Rowed.{Rowed}

module _ (es i m a : List ℕ) (from : ℕ) where
  -- what a part leads to lies in the image
  rowed : (i' m' a' : List ℕ) (to : ℕ) (s' : State) → i' ≡ image_of s' → from < to
      → Led es (candidate i) m a from s' m' a' to → Rowed es i m a from i' m' a' to
  rowed i' m' a' to s' e n l =
      record { further = n; image = image_accepted i' s' e l.state; led = rw (lies i' s' e) l }

  -- one event
  pub rowed_one : (i' m' : List ℕ) (v : ℕ) → Accepted i m → from < length es → length es ≤ length a
      → Answered (event_of (candidate i) m (get_or es from 0)) v i' m' → Rowed es i m a from i' m' (set a from v) (from + 1)
  rowed_one i' m' v c n r d =
      let s = candidate i in
      let one = led_more es s m a from s m a from (begun es i m a from c.image c.memory (omega arith)) n r
      (event_of s m (get_or es from 0)) refl v d.answer in
      rowed i' m' (set a from v) (from + 1) (event_of s m (get_or es from 0)).state d.image (omega arith)
      (rw d.memory one)

-- any Clock in a transfer
clock_event_lem : (s : State) (m : List ℕ) (e : ℕ) → e / 2 ≡ 1 → s.power ≡ On
    → event_of s m e ≡ clocked_with s m s.phase (eqb e 3)
unfolding event_on lined
clock_event_lem s m e h o = rw (o, happening_clock e h)

-- a row of one event at least
module _ (es i m a : List ℕ) (from : ℕ) (c : Accepted i m) (n : from < length es) where
  pub row_done : (i' a' : List ℕ) (to : ℕ) → Reached es i a from i' a' to → from < to → Rowed es i m a from i' m a' to
  row_done i' a' to d f = let w = d m c.memory in record { further = f; image = w.image; led = w.led }

  -- the rest of a byte that has begun
  pub row_sent : (i₁ a₁ : List ℕ) (next : ℕ) (i₂ a₂ : List ℕ) (to : ℕ) → get_or es from 0 / 2 ≡ 1
      → Begun es i m a from i₁ a₁ next → Clocked es i₁ a₁ next i₂ a₂ to → Rowed es i m a from i₂ m a₂ to
  row_sent i₁ a₁ next i₂ a₂ to k b d =
      let u = b.along.led in
      let w = d.0 m c.memory in
      let v = w.led in
      record {
        further =
            by_test (eqb next from)
            (λ t. let q = eqb-true next from t in
            let f : next < to = d.1 (rw q n) (rw q k) in omega (arith, q, f))
            (λ t. let q = eqb-false next from t in omega (arith, u.onward, v.onward));
        image = w.image;
        led =
            led_on es (candidate i) m a from (candidate i₁) m a₁ next (candidate i₂) m a₂ to u v;
      }

  module _ (r : length es ≤ length a) (k : get_or es from 0 / 2 ≡ 1) where
    pub row_clock : 0 < get_or i 26 0 → (i' m' : List ℕ) (line : Bool) (v x : ℕ)
        → Left (clock_on i m (eqb (get_or es from 0) 3)) line i' m' → Pin (clock_on i m (eqb (get_or es from 0) 3)).state v
        → x ≡ v + cond line 1 0 → Rowed es i m a from i' m' (set a from x) (from + 1)
    row_clock g i' m' line v x l p y =
        let s = candidate i in
        let on : 0 < (transfer_of s.phase).phase = rw (number es i a from c.image) at g in
        let q = clock_event_lem s m (get_or es from 0) k (on_while s (image_well i c.image) on) in
        rowed_one es i m a from i' m' x c n r
        (rw q (record { answer = y ∙ (λ t. p t + cond (l.line t) 1 0); image = l.image; memory = l.memory }))

-- a tick that moves the core, by the test of it
both : (t v : Bool) → cond t v false ≡ true → (t ≡ true) × (v ≡ true)
both true v h = (refl, h)
both false v h = absurd (false≢true h)

pub moves_facts : (s : State) (e : ℕ) → cond (eqb e 4) (is_ticking s) false ≡ true → (e ≡ 4) × (is_ticking s ≡ true)
moves_facts s e h = let f = both (eqb e 4) (is_ticking s) h in (eqb-true e 4 f.0, f.1)
