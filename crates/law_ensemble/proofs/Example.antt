-- SPDX-License-Identifier: Apache-2.0
-- The worked merge of two devices meets all that demand 3 asks: it is a merge of whole transactions, and no written byte
-- changes the protection. What it does, by computation.
use Prim.Native.Nat.{ℕ}
use mathlib.Core.Path.{◌≡◌, refl, sym}
use mathlib.Core.Bool.{Bool, true, false, ◌&&◌}
use mathlib.Core.List.{List, [], ◌∷◌, ◌++◌}
use native.Mathlib.Omega.{arith}
use lib.Dec.{eqb, ltb}
use borrow.Author.Tests.{eqb-true}
use Rattle.wire.specs.Bits.{pushed, sent_bit, place_at}
use Rattle.wire.specs.Slave.{slave_names, answers, opened}
use Rattle.wire.specs.Clock.{kept, received_at}
use Rattle.wire.specs.Memory.{put_byte}
use Rattle.wire.specs.Machine.{clock, Event, clocked, lined}
use Rattle.wire.proofs.Tests.{and_split}
use Rattle.bus.specs.Select.{slave_names_for}
use Rattle.bus.specs.Happening.{happening}
use Rattle.bus.specs.Event.{event_on}
use Rattle.bus.specs.declared.Beat.{Beat}
use Rattle.bus.specs.declared.Power.TheVariants as power
use Rattle.fm31_counters.specs.Edge.{edge_of, next_count}
use Rattle.fm31_counters.specs.Power.{lost_of, blank_of}
use Rattle.fm31_counters.specs.Part.{aim_of, store_of, guard_of}
use Rattle.fm31_counters.specs.Write.{written_of}
use Rattle.law_merging.specs.Merge.{Reader, between, calling, moving, next, MayStand}
use Rattle.law_merging.specs.Party.{to, MayName}
use Rattle.law_merging.specs.Clocks.{bits_of}
use Rattle.fm31.specs.declared.Size.{Size}
use Rattle.fm31.specs.declared.Size.TheVariants.{Kb64, Kb256}
use Rattle.law_larger.proofs.Example.{if_written}
use Rattle.law_wired.specs.Wire.{Seat, Word, Turns, done, turn, bus, tock, companion_list}
use Rattle.set_event.specs.Set.{Held, Together, Place, first, second, third, fourth, number_of, at, hears, own_byte, after_own}
use Rattle.law_ensemble.specs.Alone.{counters_in}
use Rattle.law_ensemble.specs.Transaction.{Between, Unlike}
use Rattle.law_ensemble.specs.Demand.{Told, Device, Tock, bench, Powered, WritesSteadyIn, own_byte_of}
use Rattle.law_ensemble.specs.Example.{pair, other, clocks_of, writer, setter, merged, ExampleDemanded, ExampleOutcome}
use Rattle.law_ensemble.proofs.Demand.{demand_three}

-- clocks of a seat, one by one
module _ (j k : Size) (a b : List ℕ) where
  abbrev both : Together
  both = pair j k a b

  abbrev Own : Seat (Device 2) → ℕ → Type 0
  Own s x = MayName (to s.side) (((bench both).part s.at).names x)

  abbrev MayAll : Seat (Device 2) → Reader → List Bool → Type 0
  MayAll s q [] = Unit {0}
  MayAll s q (d ∷ ds) = MayStand (Own s) q (clock d) × MayAll s (next q (clock d)) ds

  abbrev after : Reader → List Bool → Reader
  after q [] = q
  after q (d ∷ ds) = after (next q (clock d)) ds

  clocked_on : (s : Seat (Device 2)) (q : Reader) (ds : List Bool) (l : List (Word (Device 2) Tock)) → MayAll s q ds
      → Turns (bench both) s (after q ds) l → Turns (bench both) s q (clocks_of s ds l)
  clocked_on s q [] l m w = w
  clocked_on s q (d ∷ ds) l m w = bus m.0 (clocked_on s (next q (clock d)) ds l m.1 w)

  moved_on : (s : Seat (Device 2)) (ds : List Bool) (l : List (Word (Device 2) Tock)) → Turns (bench both) s moving l
      → Turns (bench both) s moving (clocks_of s ds l)
  moved_on s [] l w = w
  moved_on s (d ∷ ds) l w = bus tt (moved_on s ds l w)

  -- the merge is one: each slave byte names the device whose turn it is
  whole : Turns (bench both) writer between merged
  unfolding pushed sent_bit place_at slave_names slave_names_for
  whole =
      bus tt (clocked_on writer (calling 0 0) (bits_of 0xA0) _ (tt, (tt, (tt, (tt, (tt, (tt, (tt, (tt, (tt, tt)))))))))
      (tock (moved_on writer (bits_of 0x00 ++ bits_of 0x05 ++ bits_of 0x5A) _ (bus tt
      (turn {c = setter} (bus tt (clocked_on setter (calling 0 0) (bits_of 0xD2) _
      (tt, (tt, (tt, (tt, (tt, (tt, (tt, (tt, (tt, tt)))))))))
      (moved_on setter (bits_of 0x0A) _ (tock (moved_on setter (bits_of 0x15) _ (bus tt done)))))))))))

  powered : Powered both
  powered v = on v.place
    where
      on : (p : Place) → (at p both).member.state.bus.power ≡ power.On
      on first = refl
      on second = refl
      on third = refl
      on fourth = refl

  resting : Between both
  resting first h = refl
  resting second h = refl
  resting third h = refl
  resting fourth h = refl

  not_true : false ≡ true → ⊥
  not_true e = let z : ◌≡◌ {A = ℕ} 0 1 = cc in omega arith

  unlike : Unlike both
  unlike first first h g s e = not_true (sym s)
  unlike first second h g s e = omega (arith, e)
  unlike first third h g s e = not_true g
  unlike first fourth h g s e = not_true g
  unlike second first h g s e = omega (arith, e)
  unlike second second h g s e = not_true (sym s)
  unlike second third h g s e = not_true g
  unlike second fourth h g s e = not_true g
  unlike third w h g s e = not_true h
  unlike fourth w h g s e = not_true h

  -- no event of the second device's list changes its protection
  abbrev protection : Held → ℕ
  protection h = guard_of (counters_in h)

  abbrev is_steady : Held → List (Event Beat) → Bool
  is_steady h [] = true
  is_steady h (e ∷ es) =
      eqb (protection (after_own h (own_byte_of e))) (protection h) && is_steady (after_own h (own_byte_of e)) es

  steady_of_test : (h : Held) (es : List (Event Beat)) → is_steady h es ≡ true → WritesSteadyIn h es
  steady_of_test h [] t = tt
  steady_of_test h (e ∷ es) t =
      let n = after_own h (own_byte_of e) in
      let r = and_split (eqb (protection n) (protection h)) (is_steady n es) t in (
        if_written 0 h.member.state.bus.phase e (eqb-true (protection n) (protection h) r.0),
        steady_of_test n es r.1,
      )

  steady : (v : Device 2) → WritesSteadyIn (at v.place both) (companion_list (bench both) v merged)
  unfolding happening event_on lined clocked received_at kept pushed sent_bit place_at opened answers slave_names
      slave_names_for aim_of store_of written_of edge_of next_count blank_of lost_of
  steady v = by_place v.place v.here
    where
      by_place : (p : Place) (h : Told (ltb (number_of p) 2))
          → WritesSteadyIn (at p both) (companion_list (bench both) (record { place = p; here = h }) merged)
      by_place first h = (tt, tt)
      by_place second h = steady_of_test (at second both) (companion_list (bench both) other merged) refl
      by_place third h = absurd h
      by_place fourth h = absurd h

pub example_demanded : ExampleDemanded
example_demanded j k a b v =
    demand_three (pair j k a b) v writer merged (powered j k a b) (resting j k a b) (unlike j k a b)
    (whole j k a b) (steady j k a b v)

pub example_outcome : ExampleOutcome
unfolding hears own_byte happening event_on lined clocked received_at kept pushed sent_bit place_at opened answers slave_names
    slave_names_for put_byte aim_of store_of written_of edge_of next_count blank_of lost_of
example_outcome Kb64 Kb64 a b =
    record { memory = refl; address = refl; edges = refl; other_memory = refl; other_watchdog = refl; other_edges = refl }
example_outcome Kb64 Kb256 a b =
    record { memory = refl; address = refl; edges = refl; other_memory = refl; other_watchdog = refl; other_edges = refl }
example_outcome Kb256 Kb64 a b =
    record { memory = refl; address = refl; edges = refl; other_memory = refl; other_watchdog = refl; other_edges = refl }
example_outcome Kb256 Kb256 a b =
    record { memory = refl; address = refl; edges = refl; other_memory = refl; other_watchdog = refl; other_edges = refl }
