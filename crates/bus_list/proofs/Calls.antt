-- SPDX-License-Identifier: Apache-2.0
-- Calls that hand image and memory on are one call with all their events. An accepted call leaves and answers what the
-- run of its events from the image's state does (`call_left`); its image holds the state that the run left, so the next
-- call goes on from there, and by induction on the calls they leave what the run of all events does (`calls_left`). The
-- tests of the buffers pass for the whole as they pass for each call: an event is known in the one as in the other.
use Prim.Native.Nat.{ℕ, ◌≤◌}
use mathlib.Core.Path.{◌≡◌, refl, sym, ap, subst, ◌∙◌}
use mathlib.Core.Bool.{true}
use mathlib.Core.List.{List, [], ◌∷◌, append-nil}
use native.Mathlib.Omega.{arith}
use lib.ListN.{length, drop}
use lib.Seq.{take_at}
use Rattle.std.specs.Prelude.{Some}
use Rattle.wire.proofs.Tests.{and_split, and_join}
use Rattle.numbers.specs.Numbers.{accepted}
use Rattle.bus_list.specs.Run.{Ended, run_of, all_known}
use Rattle.bus_list.specs.Calls.{Call, events_in, Left, left_of, onward, calls_of, AllAccepted, Leaves, AllRoom}
use Rattle.bus_list.specs.Calls.{OneCall, CallsAsOne, OneAsCalls}
use Rattle.bus_list.proofs.Runs.{Keeps, run_ok, run_append, answers_length, known_append}
use Rattle.bus_list.proofs.Lists.{Lists, Reads, outcome_of}
use Rattle.bus_list.proofs.Ends.{Accepted, accepted_outcome, accepted_number, accepted_by, run_again}

-- two states in one answer
some_is : {X : Type 0} {s t : X} → Some s ≡ Some t → s ≡ t
some_is e = cc

module _ (L : Lists) where
  -- what a run leaves, as a call leaves it
  abbrev pub left_by : Ended L.State → Left
  left_by r = record { image = L.image_of r.state; memory = r.memory; answers = r.answers }

  module _ (R : Reads L) (keeps : Keeps L.after R.Ok L.size) where
    -- one image holds one state
    read_one : (i : List ℕ) (s t : L.State) → R.Read i s → R.Read i t → s ≡ t
    read_one i s t p q = some_is (sym (R.some_read i s p) ∙ R.some_read i t q)

    -- an accepted call, and the image that it leaves
    module _ (i m es a : List ℕ) (s : L.State) (d : R.Read i s) (h : (outcome_of L i m es a).number ≡ accepted) where
      pub call_left : left_of (outcome_of L i m es a) ≡ left_by (run_of L.after s m es)
      call_left =
          let c = accepted_by L R i m es a h in
          let r = run_of L.after s m es in
          rw (accepted_outcome L R i m es a c, read_one i c.state s c.image d)
          (λ k. record {
            image = L.image_of r.state;
            memory = r.memory;
            answers = take_at r.answers (drop (length es) a) (length es) (answers_length L.after s m es) k;
          })

      call_state : R.Read (left_by (run_of L.after s m es)).image (run_of L.after s m es).state
      call_state =
          let c = accepted_by L R i m es a h in
          R.again (run_of L.after s m es).state
          (run_ok L.after keeps s m es (R.ok i s d) c.memory).state

    -- calls after one another, from the image's state on
    calls_left : (i m : List ℕ) (s : L.State) → R.Read i s → (cs : List Call) → AllAccepted (outcome_of L) i m cs
        → calls_of (outcome_of L) i m cs ≡ left_by (run_of L.after s m (events_in cs))
    unfolding run_of
    calls_left i m s d [] h = λ k. record { image = sym (R.image i s d) k; memory = m; answers = [] }
    calls_left i m s d (c ∷ cs) h =
        let r = run_of L.after s m c.events in
        let q = call_left i m c.events c.answers s d h.0 in
        let rest = subst (λ (l : Left). AllAccepted (outcome_of L) l.image l.memory cs) q h.1 in
        ap (λ (l : Left). onward l (calls_of (outcome_of L) l.image l.memory cs)) q
        ∙ (ap (onward (left_by r)) (calls_left (L.image_of r.state) r.memory r.state
        (call_state i m c.events c.answers s d h.0) cs rest)
        ∙ sym (ap left_by (run_append L.after s m c.events (events_in cs))))

    calls_known : (i m : List ℕ) (cs : List Call) → AllAccepted (outcome_of L) i m cs → all_known L.last (events_in cs) ≡ true
    unfolding all_known
    calls_known i m [] h = refl
    calls_known i m (c ∷ cs) h =
        let o = outcome_of L i m c.events c.answers in
        known_append L.last c.events (events_in cs)
        ∙ and_join (all_known L.last c.events) (all_known L.last (events_in cs))
        (accepted_by L R i m c.events c.answers h.0).events (calls_known o.image o.memory cs h.1)

    -- what is left by calls: the buffers pass the tests, and a run says what it is
    module _ (i m es : List ℕ) (l : Left) (h : Leaves (outcome_of L) i m es l) where
      pub leaves_accepted : (a : List ℕ) → length es ≤ length a → Accepted L R i m es a
      leaves_accepted a room =
          let c = h.first in
          let o = accepted_by L R i m c.events c.answers h.all.0 in
          record {
            state = o.state;
            memory = o.memory;
            image = o.image;
            events =
                subst (λ (z : List ℕ). all_known L.last z ≡ true) h.cut (calls_known i m (c ∷ h.more) h.all);
            room = room;
          }

      pub leaves_run : (s : L.State) → R.Read i s → l ≡ left_by (run_of L.after s m es)
      leaves_run s d =
          sym h.result ∙ calls_left i m s d (h.first ∷ h.more) h.all
          ∙ ap (λ (z : List ℕ). left_by (run_of L.after s m z)) h.cut

      pub leaves_state : (s : L.State) → R.Read i s → (t : L.State) → R.Read l.image t
          → t ≡ (run_of L.after s m es).state
      leaves_state s d t g =
          let n = accepted_number L R i m es es (leaves_accepted es (omega arith)) in
          let there = subst (λ (z : Left). R.Read z.image t) (leaves_run s d) g in
          read_one (L.image_of (run_of L.after s m es).state) t (run_of L.after s m es).state there
          (call_state i m es es s d n)

    pub one_call : OneCall (outcome_of L)
    one_call i m es a h =
        let c = accepted_by L R i m es a h in
        let s = c.state in
        let call : Call = record { events = es; answers = a } in
        let all : AllAccepted (outcome_of L) i m (call ∷ []) = (h, tt) in
        record {
          first = call;
          more = [];
          cut = append-nil es;
          all = all;
          result =
              calls_left i m s c.image (call ∷ []) all
              ∙ ap (λ (z : List ℕ). left_by (run_of L.after s m z)) (append-nil es)
              ∙ sym (call_left i m es a s c.image h);
        }

    pub calls_as_one : CallsAsOne (outcome_of L)
    calls_as_one i m es a l h room =
        let c = leaves_accepted i m es l h a room in
        let n = accepted_number L R i m es a c in
        (n, call_left i m es a c.state c.image n ∙ sym (leaves_run i m es l h c.state c.image))

    -- each call of a list that passes the tests passes them
    calls_accepted : (i m : List ℕ) (cs : List Call) → AllRoom cs → Accepted L R i m (events_in cs) (events_in cs)
        → AllAccepted (outcome_of L) i m cs
    calls_accepted i m [] room c = tt
    calls_accepted i m (x ∷ cs) room c =
        let es = x.events in
        let known = and_split (all_known L.last es) (all_known L.last (events_in cs))
        (sym (known_append L.last es (events_in cs)) ∙ c.events) in
        let first : Accepted L R i m es x.answers =
        record { state = c.state; memory = c.memory; image = c.image; events = known.0; room = room.0 } in
        let o = outcome_of L i m es x.answers in (
          accepted_number L R i m es x.answers first,
          calls_accepted o.image o.memory cs room.1
              (run_again L R i m es x.answers keeps first (events_in cs) (events_in cs) known.1 (omega arith)),
        )

    pub one_as_calls : OneAsCalls (outcome_of L)
    one_as_calls i m a cs room h =
        let c = accepted_by L R i m (events_in cs) a h in
        let whole : Accepted L R i m (events_in cs) (events_in cs) =
        record { state = c.state; memory = c.memory; image = c.image; events = c.events; room = omega arith } in
        let all = calls_accepted i m cs room whole in (
          all,
          calls_left i m c.state c.image cs all ∙ sym (call_left i m (events_in cs) a c.state c.image h),
        )
