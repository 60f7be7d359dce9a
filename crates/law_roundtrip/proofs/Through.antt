-- SPDX-License-Identifier: Apache-2.0
-- The round trip as a host program makes it: with room the master's entries give their events, which are known, so the list
-- run accepts them; its answers are as many as the events, so they are told.
use Prim.Native.Nat.{ℕ, zero, suc, ◌+◌, ◌/◌, ◌%◌, ◌≤◌, ◌<◌}
use mathlib.Core.Path.{◌≡◌, refl, sym, ap, ◌∙◌}
use mathlib.Core.Bool.{Bool, true, false}
use mathlib.Core.List.{List, [], ◌∷◌, ◌++◌, append-nil, append_assoc}
use native.Mathlib.Omega.{arith}
use lib.Dec.{leb}
use lib.ListN.{length, drop, drop_of_length-le}
use lib.Seq.{take-append_seam}
use borrow.Author.Tests.{le-leb, lt-ltb, eq-eqb, ne_eqb}
use Rattle.fm3130.specs.Chip.{memory_size}
use Rattle.fm3130_image.specs.Image.{image_of}
use Rattle.bus_list.specs.Run as list
use Rattle.fm3130_list.specs.Run.{Ended, run_of, all_known, answers_over}
use Rattle.fm3130_image.proofs.Images.{decode_image, image_decode}
use Rattle.fm3130_list.proofs.Runs.{run_ok, outcome_written}
use Rattle.fm3130_list.proofs.Pieces.{answers_length}
use Rattle.wire_clocks.specs.Clocks.{clock_event, nine_clocks, lines_of}
use Rattle.c_master.specs.Numbers.{most}
use Rattle.wire_clocks.specs.Events.{written, asked, opening, all_written, asked_on, all_asked, write_events, read_events}
use Rattle.wire_clocks.specs.Events.{write_count, read_count}
use Rattle.c_master.specs.Told.{flags_of, bytes_of}
use Rattle.c_master.specs.Outcome.{filled, write_events_of, read_events_of, write_told_of, read_told_of}
use Rattle.wire_clocks.proofs.Laying.{write_count_lem, read_count_lem}
use Rattle.law_roundtrip.specs.Through.{given, Through}
use Rattle.law_roundtrip.proofs.Trip.{round_trip}

-- the events of a master's transactions are known
known_clock : (d : Bool) → leb (clock_event d) 7 ≡ true
known_clock true = refl
known_clock false = refl

known_nine : (b : ℕ) (d : Bool) (es : List ℕ) → all_known es ≡ true → all_known (nine_clocks b d ++ es) ≡ true
unfolding list.all_known
known_nine b d es h = simp known_clock h

known_written : (bs es : List ℕ) → all_known es ≡ true → all_known (all_written bs ++ es) ≡ true
known_written [] es h = h
known_written (b ∷ bs) es h = known_nine b true (all_written bs ++ es) (known_written bs es h)

known_on : (n : ℕ) (es : List ℕ) → all_known es ≡ true → all_known (asked_on n ++ es) ≡ true
known_on zero es h = h
known_on (suc n) es h = known_nine 0xFF false (asked_on n ++ es) (known_on n es h)

known_opens : (a : ℕ) (es : List ℕ) → all_known es ≡ true → all_known (opening a ++ es) ≡ true
unfolding list.all_known
known_opens a es h =
    known_nine 0xA0 true (written (a / 256) ++ (written (a % 256) ++ es))
    (known_nine (a / 256) true (written (a % 256) ++ es) (known_nine (a % 256) true es h))

pub known_write : (a : ℕ) (bs : List ℕ) → all_known (write_events a bs) ≡ true
unfolding write_events list.all_known
known_write a bs = known_opens a (all_written bs ++ (1 ∷ [])) (known_written bs (1 ∷ []) refl)

known_all : (n : ℕ) → all_known (all_asked n ++ (1 ∷ [])) ≡ true
unfolding list.all_known
known_all zero = refl
known_all (suc n) =
    rw (append_assoc (asked_on n) (asked true) (1 ∷ [])) (known_on n (asked true ++ (1 ∷ [])) (known_nine 0xFF true (1 ∷ []) refl))

pub known_read : (a n : ℕ) → all_known (read_events a n) ≡ true
unfolding read_events list.all_known
known_read a n =
    known_opens a (0 ∷ (written 0xA1 ++ (all_asked n ++ (1 ∷ [])))) (known_nine 0xA1 true (all_asked n ++ (1 ∷ [])) (known_all n))

-- with room, the master's entries give their events
write_given : (a : ℕ) (bs e : List ℕ) → length bs ≤ most → a < memory_size → write_count (length bs) ≤ length e
    → given (write_events_of a bs e) ≡ write_events a bs
unfolding write_events_of
write_given a bs e few l room =
    rw (le-leb (length bs) most few, lt-ltb a memory_size l, le-leb (write_count (length bs)) (length e) room)
    (take-append_seam (write_events a bs) (drop (length (write_events a bs)) e))

read_given : (a n : ℕ) (e : List ℕ) → n ≤ most → 1 ≤ n → a < memory_size → read_count n ≤ length e
    → given (read_events_of a n e) ≡ read_events a n
unfolding read_events_of
read_given a n e few some l room =
    rw (le-leb n most few, ne_eqb n 0 (λ z. omega arith), lt-ltb a memory_size l, le-leb (read_count n) (length e) room)
    (take-append_seam (read_events a n) (drop (length (read_events a n)) e))

-- answers as many as the events are told
write_tells : (n : ℕ) (answers e : List ℕ) → n ≤ most → n ≤ length e → length answers ≡ write_count n
    → write_told_of n answers e ≡ filled (flags_of n (lines_of answers)) e
unfolding write_told_of
write_tells n answers e few room all = rw (le-leb n most few, le-leb n (length e) room, eq-eqb (length answers) (write_count n) all)

read_tells : (n : ℕ) (answers e : List ℕ) → n ≤ most → 1 ≤ n → n ≤ length e → length answers ≡ read_count n
    → read_told_of n answers e ≡ filled (bytes_of n (lines_of answers)) e
unfolding read_told_of
read_tells n answers e few some room all =
    rw (le-leb n most few, ne_eqb n 0 (λ z. omega arith), le-leb n (length e) room, eq-eqb (length answers) (read_count n) all)

-- a buffer as long as the events holds the answers alone
exact : (r : Ended) (es x : List ℕ) → length x ≡ length es → answers_over r es x ≡ r.answers
exact r es x l = rw (drop_of_length-le x {i = length es} (omega arith)) (append-nil r.answers)

pub through : Through
through i m s a bs e f x y flags got d on w l some few h free roomE roomF p q roomFlags roomGot =
    let n = length bs in
    let W = write_events a bs in
    let R = read_events a n in
    let t = run_of s m W in
    let u = run_of t.state t.memory R in
    let ok = run_ok s m W (image_decode i s d).0 w in
    let lw : length x ≡ length W = p ∙ sym (write_count_lem a bs) in
    let lr : length y ≡ length R = q ∙ sym (read_count_lem a n) in
    let trip = round_trip s m a bs on w l some few h free in
    let countW = answers_length s m W ∙ write_count_lem a bs in
    let countR = answers_length t.state t.memory R ∙ read_count_lem a n in
    rw (write_given a bs e few l roomE, read_given a n f few some l roomF)
    (rw (outcome_written i m W x w s d (known_write a bs) (omega arith))
    (rw (outcome_written (image_of t.state) t.memory R y ok.memory t.state (decode_image t.state ok.state)
    (known_read a n) (omega arith))
    (record {
      written = refl;
      acknowledged =
          rw (exact t W x lw)
          (write_tells n t.answers flags few roomFlags countW ∙ ap (λ (v : List ℕ). filled v flags) trip.acknowledged);
      read = refl;
      back =
          rw (exact u R y lr)
          (read_tells n u.answers got few some roomGot countR ∙ ap (λ (v : List ℕ). filled v got) trip.back);
    })))
