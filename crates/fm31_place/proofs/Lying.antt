-- SPDX-License-Identifier: Apache-2.0
-- An event on an image, put together from the companion's part and the bus's, as `fm31` does for a state by value.
use Prim.Native.Nat.{ℕ, ◌/◌, ◌%◌, ◌≤◌}
use mathlib.Core.Path.{◌≡◌, refl, sym, ap, ◌∙◌}
use mathlib.Core.Bool.{true}
use mathlib.Core.List.{List}
use lib.ListN.{length, get_or}
use Rattle.fm31_counters.specs.Map.{FIRST, LAST, WP0}
use Rattle.fm31_counters.specs.Part.{guard_of}
use Rattle.fm31_counters.specs.declared.Counters.{Counters}
use Rattle.bus.specs.Happening.{happening, edges}
use Rattle.bus.specs.Code.Outcome as bus
use Rattle.bus.specs.Code.Outcome.{left, went_of}
use Rattle.bus.specs.Select.{slave_names_for}
use Rattle.bus.specs.declared.Bus.{Bus}
use Rattle.bus.specs.declared.Reply.{Reply}
use Rattle.bus.specs.declared.Went.{Went}
use Rattle.bus_deeds.specs.Serve.{deed_of}
use Rattle.bus_deeds.specs.Serve as Serve
use Rattle.bus_deeds.specs.declared.Deed.{Deed}
use Rattle.bus_deeds.specs.declared.Deed.TheVariants.{Nothing}
use Rattle.fm31.specs.Chip.{companion31, event_of}
use Rattle.fm31.specs.Step.{Ready, served_by, answer_byte}
use Rattle.fm31.specs.declared.State.{State}
use Rattle.fm31.specs.declared.Answered as answered
use Rattle.bus_deeds.specs.declared.serve.Served as served
use Rattle.fm31.proofs.Advance.{advanced}
use Rattle.fm31.proofs.Entry.{ready}
use Rattle.bus_image.specs.Layout.{bus_bytes, bus_at}
use Rattle.bus_image.specs.Places.{ADDRESS_HIGH_AT}
use Rattle.std.proofs.lemmas.List.Edits.{sets}
use Rattle.fm31_image.specs.Image.{image_size, image_of, counters_at, candidate}
use Rattle.fm31_image.specs.Code.Image.{with_counters}
use Rattle.fm31_image.proofs.Images.{candidate_of, image_length}
use Rattle.fm31_image.proofs.Accepts.{image_well, image_written, image_long}
use Rattle.fm31_place.specs.Lying.{Accepted, Served, Answered}

-- a bus that is written into an image
pub bus_written : (s : State) (i i' : List ℕ) (u : Bus) → i ≡ image_of s → i' ≡ sets i ADDRESS_HIGH_AT (bus_bytes u)
    → i' ≡ image_of (record { bus = u; counters = s.counters })
unfolding image_of
bus_written s i i' u e w = w ∙ rw e refl

-- a companion that is written into an image
pub counters_written : (s : State) (i i' : List ℕ) (c : Counters) → i ≡ image_of s → i' ≡ with_counters i c
    → i' ≡ image_of (record { bus = s.bus; counters = c })
unfolding image_of
counters_written s i i' c e w = w ∙ rw e refl

module _ (size select : ℕ) (i m : List ℕ) (c : Accepted size select i m) where
  -- what is asked of the state holds of the one that lies in the image
  accepted_ready : Ready size (candidate i) m
  accepted_ready = ready size select (candidate i) m c.memory (image_well size select i c.image)

  pub long : length i ≡ image_size
  long = image_long size select i c.image

  pub lies : i ≡ image_of (candidate i)
  lies = sym (image_written size select i c.image)

  pub companion_ready : (length i ≡ image_size) × (FIRST ≤ get_or i 22 0) × (get_or i 22 0 ≤ LAST)
  unfolding candidate
  companion_ready = (long, accepted_ready.least, accepted_ready.most)

  module _ (u : Bus) (hu : u ≡ bus_at i) where
    pub bus_ready : bus.Ready size u m
    unfolding candidate
    bus_ready = rw hu (record { memory = accepted_ready.memory; address = accepted_ready.address })

    bus_lies : u ≡ (candidate i).bus
    unfolding candidate
    bus_lies = hu

    -- the companion's part leaves an image
    pub served_long : (i₁ : List ℕ) (q : Deed) (r : Reply)
        → ((s : State) → i ≡ image_of s → u ≡ s.bus → Served s (Serve.served_of companion31 q s.counters) r i₁)
        → length i₁ ≡ image_size
    served_long i₁ q r h = ap length (h (candidate i) lies bus_lies).image ∙ image_length _

    guard_lies : (g : ℕ) → g ≡ get_or i 2 0 / WP0 % 4 → g ≡ guard_of (candidate i).counters
    unfolding candidate
    guard_lies g h = h

    -- the event
    pub happened : (m' i₁ i' : List ℕ) (e g : ℕ) (q : Deed) (r : Reply) (w : Went) (a : ℕ)
        → g ≡ get_or i 2 0 / WP0 % 4 → q ≡ deed_of u.power u.phase (happening edges e)
        → ((s : State) → i ≡ image_of s → u ≡ s.bus → Served s (Serve.served_of companion31 q s.counters) r i₁)
        → left w m' ≡ went_of size (slave_names_for select) g r u m e
        → ((s : State) → i₁ ≡ image_of s → i' ≡ image_of (record { bus = w.bus; counters = s.counters }))
        → a ≡ answer_byte w.line → Answered size select (event_of size select (candidate i) m e) a i' m'
    happened m' i₁ i' e g q r w a hg hq hs hw hp ha =
        let s = candidate i in
        let v = Serve.served_of companion31 q s.counters in
        let t = hs s lies bus_lies in
        let w' : left w m' ≡ went_of size (slave_names_for select) g v.reply s.bus m e =
        hw ∙ (λ k. went_of size (slave_names_for select) g (t.reply k) (bus_lies k) m e) in
        let z = advanced size select s m m' e g q (served_by q s.counters) w a (guard_lies g hg)
        (hq ∙ ap (λ (x : Bus). deed_of x.power x.phase (happening edges e)) bus_lies) refl w' ha in
        record {
          answer = ap (λ (x : answered.Answered). x.answer) z.result;
          image = hp _ t.image ∙ ap (λ (x : answered.Answered). image_of x.state) z.result;
          memory = z.memory;
        }

-- the companion that lies in an image
counters_lie : (s : State) → counters_at (image_of s) ≡ s.counters
unfolding candidate
counters_lie s = ap (λ (x : State). x.counters) (candidate_of s)

module _ (s : State) (i : List ℕ) (e : i ≡ image_of s) (q : Deed) where
  -- asked for something: read, done, written beside its bus
  pub asked : (i' : List ℕ) (u : Bus) (c : Counters) (v : served.Served Counters (Unit {0})) → u ≡ s.bus → c ≡ counters_at i
      → v ≡ served_by q c → i' ≡ image_of (record { bus = u; counters = v.companion })
      → Served s (Serve.served_of companion31 q s.counters) v.reply i'
  asked i' u c v hu hc hv hi =
      let k : c ≡ s.counters = hc ∙ ap counters_at e ∙ counters_lie s in
      let w = hv ∙ ap (λ (x : Counters). served_by q x) k in
      record {
        reply = ap (λ (x : served.Served Counters (Unit {0})). x.reply) w;
        image = hi ∙ (λ t. image_of (record { bus = hu t; counters = (w t).companion }));
      }

  -- asked for nothing
  pub nothing_asked : q ≡ Nothing
      → Served s (Serve.served_of companion31 q s.counters) (record { good = true; byte = 0 }) i
  nothing_asked z = rw z (record { reply = refl; image = e })
