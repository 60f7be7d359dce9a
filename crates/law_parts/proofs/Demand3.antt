-- SPDX-License-Identifier: Apache-2.0
-- Demand 3 on event bytes, from that of the machine, over any size, names and companion. A powered event byte is the
-- machine's event (`event_is`): a tick by what is asked of the part, any other by computation; so a list of event bytes
-- leaves what the machine's run leaves (`run_is`), and is answered by its answers, written as bytes (`answers_are`) or
-- as bits (`lines_are`).
use Prim.Native.Nat.{ℕ, ◌+◌, ◌*◌, ◌%◌}
use mathlib.Core.Path.{◌≡◌, refl, sym, ap, subst, ◌∙◌}
use mathlib.Core.Bool.{Bool, true, false, cond}
use mathlib.Core.List.{List, [], ◌∷◌, map}
use native.Mathlib.Omega.{arith}
use Rattle.wire.specs.Machine.{start, stop, clock, line, tick, Answer, answer_of, step}
use Rattle.wire.specs.Machine as Machine
use Rattle.wire.specs.Memory.{Cells, lent}
use Rattle.wire.specs.declared.Named.{Named}
use Rattle.bus.specs.Desk.{Desks, part_of}
use Rattle.bus.specs.Happening.{happening}
use Rattle.bus.specs.Event.{Done, done_of, event_on}
use Rattle.bus.specs.declared.Power.TheVariants.{On}
use Rattle.law_merging.specs.Merge.{events_of, picked}
use Rattle.law_merging.specs.Party.{is_memory, is_companion, BusEvent, PartyEvent}
use Rattle.law_merging.specs.Apart.{run, answers_of}
use Rattle.law_merging.specs.Demand.{OnlyWrites, IfWritten, WritesSteady, Isolated}
use Rattle.law_merging.proofs.Picked.{picked_map}
use Rattle.law_merging.proofs.Demand.{isolation}
use Rattle.law_merging.proofs.Demand as merged
use Rattle.law_parts.specs.Demand3 as bytes
use Rattle.law_parts.specs.Events.{TicksHeard, Held, event, held_by, answer_to, after_events, answers_to}
use Rattle.law_parts.specs.Demand3.{lines_of, DemandThree, SteadyMerged, DemandThreeMerged}

line_bit : (n : ℕ) (d : Bool) → (2 * n + cond d 1 0) % 2 ≡ cond d 1 0
line_bit n true = omega arith
line_bit n false = omega arith

module _ (size : ℕ) (names : ℕ → Named) (D : Desks) (T : TicksHeard D) where
  abbrev P : Machine.Parts
  P = part_of size names D

  abbrev H : Type 0
  H = Held size names D

  abbrev Bus : Type 0
  Bus = Machine.State P

  abbrev Events : Type 0
  Events = List (BusEvent P)

  abbrev after : H → List ℕ → H
  after = after_events size names D

  abbrev answers : H → List ℕ → List ℕ
  answers = answers_to size names D

  abbrev ran : H → List ℕ → bytes.Ran size names D
  ran = bytes.one_by_one size names D

  abbrev byte_of : BusEvent P → ℕ
  byte_of = bytes.byte_of size names D

  abbrev bytes_of : Events → List ℕ
  bytes_of = bytes.bytes_of size names D

  abbrev SteadyIn : H → Events → Type 0
  SteadyIn = bytes.WritesSteadyIn size names D

  -- what a powered device holds, of the machine's state; and its memory
  abbrev held_of : Bus → H
  held_of u =
      record {
        bus = record { power = On; phase = u.phase; address = u.memory.address };
        companion = u.companion;
        memory = u.memory.bytes;
      }

  abbrev store_in : H → Cells
  store_in h = lent h.memory h.bus.address

  -- an answer as a byte, a line as a bit
  abbrev byte_for : Answer P → ℕ
  byte_for a = 2 * a.pin + cond a.line 1 0

  abbrev bit_for : Bool → ℕ
  bit_for d = cond d 1 0

  -- one event
  event_is : (u : Bus) (e : BusEvent P)
      → event size names D (held_of u) (byte_of e) ≡ done_of size names D (step P u e)
  unfolding happening event_on
  event_is u (line start) = refl
  event_is u (line stop) = refl
  event_is u (line (clock false)) = refl
  event_is u (line (clock true)) = refl
  event_is u (tick t) = rw (T t)

  module _ (u : Bus) (e : BusEvent P) where
    after_is : held_by size names D (event size names D (held_of u) (byte_of e)) ≡ held_of (step P u e).state
    after_is = ap (held_by size names D) (event_is u e)

    answer_is : answer_to size names D (held_of u) (byte_of e) ≡ byte_for (answer_of P (step P u e))
    answer_is = ap (λ (d : Done size names D). 2 * D.pin d.bus.power d.companion + cond d.line 1 0)
        (event_is u e)

  -- a list of events
  run_is : (u : Bus) (es : Events) → after (held_of u) (bytes_of es) ≡ held_of (run P u es)
  run_is u [] = refl
  run_is u (e ∷ es) = ap (λ (h : H). after h (bytes_of es)) (after_is u e) ∙ run_is (step P u e).state es

  answers_are : (u : Bus) (es : Events)
      → answers (held_of u) (bytes_of es) ≡ map byte_for (answers_of P (λ a. a) u es)
  answers_are u [] = refl
  answers_are u (e ∷ es) =
      let rest = ap (λ (h : H). answers h (bytes_of es)) (after_is u e) ∙ answers_are (step P u e).state es in
      λ i. answer_is u e i ∷ rest i

  lines_are : (u : Bus) (es : Events)
      → lines_of (answers (held_of u) (bytes_of es)) ≡ map bit_for (answers_of P (λ a. a.line) u es)
  lines_are u [] = refl
  lines_are u (e ∷ es) =
      let o = step P u e in
      let this = ap (λ (n : ℕ). n % 2) (answer_is u e) ∙ line_bit (answer_of P o).pin o.line in
      let rest = ap (λ (h : H). lines_of (answers h (bytes_of es))) (after_is u e) ∙ lines_are o.state es in
      λ i. this i ∷ rest i

  steady_is : (u : Bus) (es : Events) → SteadyIn (held_of u) es → WritesSteady P u es
  steady_is u [] h = tt
  steady_is u (e ∷ es) h =
      let k = after_is u e in
      let this =
      subst (λ (z : H). IfWritten u.phase e (D.guard z.companion ≡ D.guard u.companion)) k h.0 in
      (this, steady_is (step P u e).state es (subst (λ (z : H). SteadyIn z es) k h.1))

  steady_back : (u : Bus) (es : Events) → WritesSteady P u es → SteadyIn (held_of u) es
  steady_back u [] h = tt
  steady_back u (e ∷ es) h =
      let k = sym (after_is u e) in
      let this =
      subst (λ (z : H). IfWritten u.phase e (D.guard z.companion ≡ D.guard u.companion)) k h.0 in
      (this, subst (λ (z : H). SteadyIn z es) k (steady_back (step P u e).state es h.1))

  module _ (u : Bus) (xs ys : Events) (l : List (PartyEvent P)) (r : Isolated P u xs ys l) where
    abbrev all : List ℕ
    all = bytes_of (events_of l)

    store_alike : {Z : Type 0} (part : Cells → Z)
        → part (store_in (after (held_of u) all)) ≡ part (store_in (after (held_of u) (bytes_of xs)))
    store_alike part =
        ap (λ (h : H). part (store_in h)) (run_is u (events_of l))
        ∙ (ap part r.memory ∙ sym (ap (λ (h : H). part (store_in h)) (run_is u xs)))

    desk_alike : (after (held_of u) all).companion ≡ (after (held_of u) (bytes_of ys)).companion
    desk_alike =
        ap (λ (h : H). h.companion) (run_is u (events_of l))
        ∙ (r.companion ∙ sym (ap (λ (h : H). h.companion) (run_is u ys)))

    lines_alike : lines_of (picked is_memory l (answers (held_of u) all)) ≡ lines_of (answers (held_of u) (bytes_of xs))
    lines_alike =
        sym (picked_map (λ n. n % 2) is_memory l (answers (held_of u) all))
        ∙ (ap (picked is_memory l) (lines_are u (events_of l))
        ∙ (picked_map bit_for is_memory l (answers_of P (λ a. a.line) u (events_of l))
        ∙ (ap (map bit_for) r.memory_lines ∙ sym (lines_are u xs))))

    answers_alike : picked is_companion l (answers (held_of u) all) ≡ answers (held_of u) (bytes_of ys)
    answers_alike =
        ap (picked is_companion l) (answers_are u (events_of l))
        ∙ (picked_map byte_for is_companion l (answers_of P (λ a. a) u (events_of l))
        ∙ (ap (map byte_for) r.companion_answers ∙ sym (answers_are u ys)))

    demanded : bytes.Demanded size names D (ran (held_of u) (bytes_of xs)) (ran (held_of u) (bytes_of ys))
        (ran (held_of u) all) l
    demanded =
        record {
          memory = store_alike (λ m. m.bytes);
          memory_address = store_alike (λ m. m.address);
          memory_lines = lines_alike;
          companion = desk_alike;
          companion_answers = answers_alike;
        }

  machine_of : H → Bus
  machine_of h = record { phase = h.bus.phase; memory = lent h.memory h.bus.address; companion = h.companion }

  powered : (h : H) → h.bus.power ≡ On → h ≡ held_of (machine_of h)
  unfolding machine_of
  powered h e =
      λ i. record {
        bus = record { power = e i; phase = h.bus.phase; address = h.bus.address };
        companion = h.companion;
        memory = h.memory;
      }

  pub demand_three : OnlyWrites P → DemandThree size names D ran
  unfolding machine_of
  demand_three only h xs ys l on idle wx wy merge steady =
      let u = machine_of h in
      let k = powered h on in
      subst (λ (z : H). bytes.Demanded size names D (ran z (bytes_of xs)) (ran z (bytes_of ys))
      (ran z (bytes_of (events_of l))) l)
      (sym k)
      (demanded u xs ys l
      (isolation P only u xs ys l idle wx wy merge
      (steady_is u ys (subst (λ (z : H). SteadyIn z ys) k steady))))

  pub steady_merged : OnlyWrites P → SteadyMerged size names D
  unfolding machine_of
  steady_merged only h xs ys l on idle wx wy merge steady =
      let u = machine_of h in
      let k = powered h on in
      subst (λ (z : H). SteadyIn z ys) (sym k)
      (steady_back u ys
      (merged.steady_merged P only u xs ys l idle wx wy merge
      (steady_is u (events_of l) (subst (λ (z : H). SteadyIn z (events_of l)) k steady))))

  pub demand_three_merged : OnlyWrites P → DemandThreeMerged size names D ran
  demand_three_merged only h xs ys l on idle wx wy merge steady =
      demand_three only h xs ys l on idle wx wy merge (steady_merged only h xs ys l on idle wx wy merge steady)
