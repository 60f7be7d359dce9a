-- SPDX-License-Identifier: Apache-2.0
-- The record's bytes that a call leaves are taken by the next call.
use Prim.Native.Nat.{ℕ, ◌-◌, ◌/◌, ◌<◌}
use mathlib.Core.Path.{◌≡◌, refl}
use mathlib.Core.Bool.{Bool, true, false, ◌&&◌}
use mathlib.Core.List.{List, [], ◌∷◌}
use native.Mathlib.Omega.{arith}
use lib.Dec.{eqb, leb}
use lib.ListN.{length, get_or}
use borrow.Author.Tests.{leb-true, le-leb, eq-eqb}
use Rattle.wire.specs.declared.Side.TheVariants.{Memory, Companion}
use Rattle.wire.specs.declared.Phase.{Phase}
use Rattle.wire.specs.declared.Phase.TheVariants.{Idle, Slave, AddressHigh, AddressLow, Pointer, Write, Read}
use Rattle.wire.specs.Machine.{start, stop, clock}
use Rattle.wire.proofs.Tests.{by_test, and_split, and_join}
use Rattle.fm3130.specs.Chip.{memory_size}
use Rattle.fm3130.specs.Limits.{well_formed}
use Rattle.fm3130.specs.Event.{Happening, on_wire, beat, lost, gone, returned, happening, event_of}
use Rattle.fm3130.specs.declared.State.{State}
use Rattle.fm3130.specs.declared.Answered.{Answered}
use Rattle.fm3130.proofs.Entry.{ready}
use Rattle.fm3130.proofs.Wellformed.{event_ok}
use Rattle.fm3130_image.proofs.Images.{image_decode}
use Rattle.lamps_eight.specs.Eight.{bit, lamp_next}
use Rattle.lamps.specs.Step.{mark_by, gathered, followed, step_of}
use Rattle.lamps.specs.Statement.{answered_by, proven_by}
use Rattle.lamps_bytes.specs.Kept.{kept_of, bytes_of, lamp_fits, lamps_in, lamps_fit, is_kept}
use Rattle.lamps_eight.specs.declared.Mark.{Mark}
use Rattle.lamps_eight.specs.declared.Mark.TheVariants.{Failed, Ended, Ticked, Gave, Other}
use Rattle.lamps.specs.declared.Follower.{Follower}
use Rattle.lamps_eight.specs.declared.Lamp.{Lamp}
use Rattle.lamps.specs.declared.Proving.{Proving}
use Rattle.c_lamps.specs.Laws.{TakenAgain}
use Rattle.lamps_bytes.proofs.Bytes.{kept_length}

fits_next : (at : ℕ) (x : Mark) (l : Lamp) → lamp_fits l ≡ true → lamp_fits (lamp_next at x l) ≡ true
fits_next at Failed l h = refl
fits_next at Ended l h =
    by_test (eqb l.held 0) (λ q. rw q h)
    (λ q. by_test (eqb l.held 1) (λ u. rw (q, u)) (λ u. rw (q, u)))
fits_next at Ticked l h =
    let both = and_split (leb l.held 2) (leb l.left 3) h in
    let n = leb-true l.left 3 both.1 in
    and_join (leb l.held 2) (leb (l.left - 1) 3) both.0 (le-leb (l.left - 1) 3 (omega arith))
fits_next at (Gave a v) l h =
    let left = (and_split (leb l.held 2) (leb l.left 3) h).1 in
    by_test (eqb a at)
    (λ q. by_test (eqb v 1) (λ u. rw (q, u) left) (λ u. rw (q, u) left))
    (λ q. rw q h)
fits_next at Other l h = h

pub record Fit (r : Proving) : Type 0 where
  pub place : r.follower.place < memory_size
  pub zero : lamp_fits r.lamps.zero ≡ true
  pub one : lamp_fits r.lamps.one ≡ true
  pub two : lamp_fits r.lamps.two ≡ true
  pub three : lamp_fits r.lamps.three ≡ true
  pub four : lamp_fits r.lamps.four ≡ true
  pub five : lamp_fits r.lamps.five ≡ true
  pub six : lamp_fits r.lamps.six ≡ true
  pub seven : lamp_fits r.lamps.seven ≡ true

-- the address is one of the memory's
gathered_place : (p : Phase) (f : Follower) (a : ℕ) (w line : Bool) → a < memory_size → f.place < memory_size
    → (gathered p f a w line).place < memory_size
gathered_place Idle f a w line h g = omega arith
gathered_place (Slave k b) f a w line h g = omega arith
gathered_place (AddressHigh k b) f a w line h g = omega arith
gathered_place (AddressLow u k b) f a w line h g = omega arith
gathered_place (Pointer k b) f a w line h g = omega arith
gathered_place (Write s k b) f a w line h g = omega arith
gathered_place (Read Companion k b) f a w line h g = omega arith
gathered_place (Read Memory k b) f a w line h g = by_test (eqb k 0) (λ q. rw q h) (λ q. rw q g)

followed_place : (y : Happening) (f : Follower) (s : State) (p : Phase) (line : Bool) → s.address < memory_size
    → f.place < memory_size → (followed f y s p line).place < memory_size
followed_place (on_wire start) f s p line h g = omega arith
followed_place (on_wire stop) f s p line h g = omega arith
followed_place (on_wire (clock d)) f s p line h g = gathered_place s.phase f s.address _ line h g
followed_place (beat t') f s p line h g = g
followed_place lost f s p line h g = omega arith
followed_place gone f s p line h g = omega arith
followed_place returned f s p line h g = g

fit_next : (r : Proving) (s : State) (e : ℕ) (d : Answered) → s.address < memory_size → Fit r → Fit (step_of r s e d)
fit_next r s e d h g =
    let x = mark_by r.follower s e in
    record {
      place = followed_place (happening e) r.follower s d.state.phase _ h g.place;
      zero = fits_next _ x r.lamps.zero g.zero;
      one = fits_next _ x r.lamps.one g.one;
      two = fits_next _ x r.lamps.two g.two;
      three = fits_next _ x r.lamps.three g.three;
      four = fits_next _ x r.lamps.four g.four;
      five = fits_next _ x r.lamps.five g.five;
      six = fits_next _ x r.lamps.six g.six;
      seven = fits_next _ x r.lamps.seven g.seven;
    }

fit_run : (r : Proving) (s : State) (m es : List ℕ) → well_formed s ≡ true → length m ≡ memory_size → Fit r
    → Fit (proven_by r s m es)
fit_run r s m [] w h g = g
fit_run r s m (e ∷ es) w h g =
    let o = event_ok s m e w h in
    fit_run (step_of r s e (answered_by (event_of s m e))) (event_of s m e).state (event_of s m e).memory es o.state o.memory
    (fit_next r s e (answered_by (event_of s m e)) (ready s m h w).address g)

flag_small : (t : Bool) → leb (bit t 1) 1 ≡ true
flag_small true = refl
flag_small false = refl

-- a record that fits writes bytes that hold one
pub fit_kept : (r : Proving) → Fit r → is_kept (bytes_of r) ≡ true
unfolding is_kept bytes_of
fit_kept r g =
    let p = g.place in
    let high : leb (r.follower.place / 256) 31 ≡ true = le-leb (r.follower.place / 256) 31 (omega arith) in
    rw (flag_small r.follower.refused, high, g.zero, g.one, g.two, g.three, g.four, g.five, g.six, g.seven) refl

-- bytes that hold a record hold one that fits
pub kept_fit : (b : List ℕ) → is_kept b ≡ true → get_or b 2 0 < 256 → Fit (kept_of b)
unfolding is_kept kept_of
kept_fit b h low =
    let n = eq-eqb (length b) 20 (kept_length b h) in
    let all : (leb (get_or b 0 0) 1 && leb (get_or b 1 0) 31 && lamps_fit (lamps_in b)) ≡ true = rw n at h in
    let front = and_split (leb (get_or b 0 0) 1 && leb (get_or b 1 0) 31) (lamps_fit (lamps_in b)) all in
    let high = leb-true (get_or b 1 0) 31 (and_split (leb (get_or b 0 0) 1) (leb (get_or b 1 0) 31) front.0).1 in
    let l = lamps_in b in
    let a7 = and_split (lamp_fits l.zero && lamp_fits l.one && lamp_fits l.two && lamp_fits l.three && lamp_fits l.four && lamp_fits l.five && lamp_fits l.six) (lamp_fits l.seven) front.1 in
    let a6 = and_split (lamp_fits l.zero && lamp_fits l.one && lamp_fits l.two && lamp_fits l.three && lamp_fits l.four && lamp_fits l.five) (lamp_fits l.six) a7.0 in
    let a5 = and_split (lamp_fits l.zero && lamp_fits l.one && lamp_fits l.two && lamp_fits l.three && lamp_fits l.four) (lamp_fits l.five) a6.0 in
    let a4 = and_split (lamp_fits l.zero && lamp_fits l.one && lamp_fits l.two && lamp_fits l.three) (lamp_fits l.four) a5.0 in
    let a3 = and_split (lamp_fits l.zero && lamp_fits l.one && lamp_fits l.two) (lamp_fits l.three) a4.0 in
    let a2 = and_split (lamp_fits l.zero && lamp_fits l.one) (lamp_fits l.two) a3.0 in
    let a1 = and_split (lamp_fits l.zero) (lamp_fits l.one) a2.0 in
    record {
      place = omega arith;
      zero = a1.0;
      one = a1.1;
      two = a2.1;
      three = a3.1;
      four = a4.1;
      five = a5.1;
      six = a6.1;
      seven = a7.1;
    }

-- what an accepted call leaves is taken again
pub kept_again : TakenAgain
kept_again i m es b s d h k low =
    fit_kept (proven_by (kept_of b) s m es) (fit_run (kept_of b) s m es (image_decode i s d).0 h (kept_fit b k low))
