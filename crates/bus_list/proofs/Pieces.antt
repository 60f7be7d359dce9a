-- SPDX-License-Identifier: Apache-2.0
-- A list in pieces through the entry: the image and the memory that one call leaves are handed to the next, and the two
-- give what one call with the whole list gives.
use Prim.Native.Nat.{ℕ, ◌+◌, ◌≤◌}
use mathlib.Core.Path.{◌≡◌, ◌∙◌}
use mathlib.Core.List.{List, ◌++◌, append_assoc, append-nil}
use native.Mathlib.Omega.{arith}
use lib.ListN.{length, drop, length-append}
use lib.Seq.{drop-append-add, drop-length}
use Rattle.wire.proofs.Tests.{and_join}
use Rattle.numbers.specs.Numbers.{accepted}
use Rattle.bus_list.specs.Run.{run_of, all_known}
use Rattle.bus_list.specs.Outcome.{Outcome}
use Rattle.bus_list.proofs.Runs.{Keeps, run_ok, run_append, known_append}
use Rattle.bus_list.proofs.Lists.{Lists, Reads, written, outcome_of}
use Rattle.bus_list.proofs.Ends.{outcome_written, accepted_outcome, accepted_by}

-- Auxiliary: two accepted calls, told as one.
abbrev pub joined : Outcome → Outcome → Outcome
joined o p =
    record {
      number = p.number;
      count = o.count + p.count;
      image = p.image;
      memory = p.memory;
      answers = o.answers ++ p.answers;
    }

answers_joined : (x y xs ys a b : List ℕ) → length a ≡ length xs
    → (x ++ y) ++ drop (length (xs ++ ys)) (a ++ b) ≡ (x ++ drop (length xs) a) ++ (y ++ drop (length ys) b)
answers_joined x y xs ys a b l =
    rw (length-append xs ys, ← l, drop-append-add a b (length ys), drop-length a, append-nil x)
    (append_assoc x y (drop (length ys) b))

module _ (L : Lists) where
  written_joined : (s : L.State) (m xs ys a b : List ℕ) → length a ≡ length xs
      → (let r = run_of L.after s m xs in
      written L (run_of L.after s m (xs ++ ys)) (xs ++ ys) (a ++ b)
      ≡ joined (written L r xs a) (written L (run_of L.after r.state r.memory ys) ys b))
  written_joined s m xs ys a b l =
      let r = run_of L.after s m xs in
      let t = run_of L.after r.state r.memory ys in
      rw (run_append L.after s m xs ys)
      (λ k. record {
        number = accepted;
        count = length-append xs ys k;
        image = L.image_of t.state;
        memory = t.memory;
        answers = answers_joined r.answers t.answers xs ys a b l k;
      })

  module _ (R : Reads L) (keeps : Keeps L.after R.Ok L.size) where
    -- two accepted calls, with image and memory handed on and the answers cut where the events are, give what one gives
    pub run_pieces : (i m xs ys a b : List ℕ) → length a ≡ length xs
        → (outcome_of L i m xs a).number ≡ accepted
        → (outcome_of L (outcome_of L i m xs a).image (outcome_of L i m xs a).memory ys b).number ≡ accepted
        → outcome_of L i m (xs ++ ys) (a ++ b)
        ≡ joined (outcome_of L i m xs a) (outcome_of L (outcome_of L i m xs a).image (outcome_of L i m xs a).memory ys b)
    run_pieces i m xs ys a b l h g =
        let c = accepted_by L R i m xs a h in
        let s = c.state in
        let r = run_of L.after s m xs in
        let o = run_ok L.after keeps s m xs (R.ok i s c.image) c.memory in
        let d = accepted_by L R (outcome_of L i m xs a).image (outcome_of L i m xs a).memory ys b g in
        let room : length (xs ++ ys) ≤ length (a ++ b) =
        rw (length-append xs ys, length-append a b) (let n = c.room in let p = d.room in omega arith) in
        let known = known_append L.last xs ys
        ∙ and_join (all_known L.last xs) (all_known L.last ys) c.events d.events in
        rw (accepted_outcome L R i m xs a c)
        (rw (outcome_written L R (L.image_of r.state) r.memory ys b o.memory r.state
        (R.again r.state o.state) d.events d.room)
        (outcome_written L R i m (xs ++ ys) (a ++ b) c.memory s c.image known room
        ∙ written_joined s m xs ys a b l))
