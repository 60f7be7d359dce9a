-- SPDX-License-Identifier: Apache-2.0
-- Of the entries, over the size: an accepted call leaves what the run of its events leaves, and of that run all is
-- proved. A refused call leaves the image as it was.
use Prim.Native.Nat.{ℕ, ◌+◌, ◌%◌, ◌≤◌, ◌<◌}
use mathlib.Core.Path.{◌≡◌, refl, sym, ap, subst, ◌∙◌}
use mathlib.Core.Bool.{Bool, true, false, cond}
use mathlib.Core.List.{List, [], ◌∷◌, ◌++◌, append_assoc}
use native.Mathlib.Omega.{arith}
use lib.Dec.{eqb}
use lib.ListN.{length, get_or, drop, length-append}
use borrow.Author.Tests.{eqb-true, eqb-false}
use Rattle.wire.proofs.Tests.{by_test, and_split, and_join}
use Rattle.bits.specs.Weight.{has}
use Rattle.fm31_counters.specs.Map.{SNL}
use Rattle.fm31_counters.specs.declared.Serial.{Serial}
use Rattle.numbers.specs.Numbers.{accepted}
use Rattle.bus.specs.Select.{lone}
use Rattle.fm31.specs.Chip.{event_of}
use Rattle.fm31.specs.Run.{Ended, run_of, answer_to}
use Rattle.fm31.specs.declared.State.{State}
use Rattle.fm31.proofs.Lock.{serial_locked}
use Rattle.fm31_image.specs.Image.{image_of, decode_of}
use Rattle.bus_list.specs.Run as list
use Rattle.bus_list.proofs.Ends as ends
use Rattle.fm31_run.specs.Code.Run.{all_known}
use Rattle.c_fm31.specs.Run.{Outcome, outcome_of}
use Rattle.std.specs.Prelude.{Some}
use Rattle.fm31_image.proofs.Images.{image_decode, decode_image}
use Rattle.fm31_run.proofs.Runs.{run_ok}
use Rattle.c_fm31.proofs.Runs.{list31, reads31}
use Rattle.c_fm31.proofs.Ends.{Accepted, accepted_outcome, accepted_by, run_refused}
use Rattle.c_fm31.proofs.Pieces.{run_append, answers_length, known_append}
use Rattle.law_parts.specs.Events.{clock_event}
use Rattle.law_parts.specs.Stored.{AtData, StoredAt}
use Rattle.law_larger.specs.Entry.{up_to_ninth, CallStores, CallKeeps, LockedIn, CallLocks, CountByNumber}
use Rattle.law_larger.proofs.Memory.{acknowledged_stored, protected_kept}

good_is : {s t : State} → Some s ≡ Some t → s ≡ t
good_is e = cc

-- the answer that comes after others, in a buffer that goes on
answer_at : (xs : List ℕ) (b : ℕ) (ys : List ℕ) (n : ℕ) → n ≡ length xs → get_or ((xs ++ (b ∷ [])) ++ ys) n 0 ≡ b
answer_at [] b ys n e = rw e
answer_at (x ∷ xs) b ys n e = rw e (answer_at xs b ys (length xs) refl)

line_low : (d : Bool) → cond d 1 0 % 2 ≡ 0 → d ≡ false
line_low true h = absurd (omega arith)
line_low false h = refl

-- the eight bytes of a serial number
bytes : Serial → List ℕ
bytes n = n.sn0 ∷ n.sn1 ∷ n.sn2 ∷ n.sn3 ∷ n.sn4 ∷ n.sn5 ∷ n.sn6 ∷ n.sn7 ∷ []

module _ (size : ℕ) where
  pub call_keeps : CallKeeps size
  call_keeps i m es b a s n holds h =
      let c = accepted_by size i m es b n in
      let same : c.state ≡ s = good_is (sym c.image ∙ holds) in
      ap (λ (o : Outcome). get_or o.memory a 0) (accepted_outcome size i m es b c)
      ∙ rw same (protected_kept size s m es a h)

  -- the lock, of what a run of events leaves
  run_locks : (s : State) (m es : List ℕ) → has (get_or (image_of s) 2 0) SNL ≡ true
      → LockedIn size (image_of s) (image_of (run_of size lone s m es).state)
  unfolding image_of bytes
  run_locks s m es h =
      let k = serial_locked size lone s m es h in record { lock = k.locked; serial = ap bytes k.serial }

  pub call_locks : CallLocks size
  call_locks i m es a h =
      let left : Outcome → Type 0 = λ o. LockedIn size i o.image in
      by_test (eqb (outcome_of size i m es a).number accepted)
      (λ t. let c = accepted_by size i m es a (eqb-true _ _ t) in
      let w = (image_decode size lone i c.state c.image).1 in
      let k = run_locks c.state m es (subst (λ (x : List ℕ). has (get_or x 2 0) SNL ≡ true) (sym w) h) in
      subst left (sym (accepted_outcome size i m es a c))
      (subst (λ (x : List ℕ). LockedIn size x (image_of (run_of size lone c.state m es).state)) w k))
      (λ t. subst left (sym (run_refused size i m es a (eqb-false _ _ t))) (record { lock = h; serial = refl }))

  -- the answer to a ninth clock at which the master leaves the line high tells whether the device pulls it low
  pulled : (s : State) (m es rest : List ℕ)
      → get_or ((run_of size lone s m (es ++ (3 ∷ []))).answers ++ rest) (length es) 0 % 2 ≡ 0
      → (event_of size lone (run_of size lone s m es).state (run_of size lone s m es).memory 3).line ≡ false
  unfolding run_of
  pulled s m es rest h =
      let r = run_of size lone s m es in
      let d = event_of size lone r.state r.memory 3 in
      let q = ap (λ (x : Ended). get_or (x.answers ++ rest) (length es) 0 % 2) (run_append size s m es (3 ∷ [])) in
      let p = answer_at r.answers (answer_to d) rest (length es) (sym (answers_length size s m es)) in
      line_low d.line (sym (ap (λ (n : ℕ). n % 2) p) ∙ (sym q ∙ h))

  -- the call with the ninth clock high is accepted where that with any ninth clock is; so is the call before the byte
  module _ (i m before byte a : List ℕ) (d : Bool) (c : Accepted size i m (up_to_ninth before byte d) a) where
    known_parts : (all_known before ≡ true) × (all_known byte ≡ true)
    known_parts =
        let ninth = clock_event d ∷ [] in
        let rest = byte ++ ninth in
        let k = and_split (all_known before) (all_known rest) (sym (known_append before rest) ∙ c.events) in
        (k.0, (and_split (all_known byte) (all_known ninth) (sym (known_append byte ninth) ∙ k.1)).0)

    room_there : length before + (length byte + 1) ≤ length a
    room_there =
        rw (length-append before (byte ++ (clock_event d ∷ [])), length-append byte (clock_event d ∷ [])) at c.room

    before_accepted : Accepted size i m before a
    before_accepted =
        record {
          state = c.state;
          memory = c.memory;
          image = c.image;
          events = known_parts.0;
          room = omega (arith, room_there);
        }

    high_accepted : Accepted size i m (up_to_ninth before byte true) a
    unfolding list.all_known
    high_accepted =
        record {
          state = c.state;
          memory = c.memory;
          image = c.image;
          events =
              known_append before (byte ++ (3 ∷ []))
              ∙ and_join (all_known before) (all_known (byte ++ (3 ∷ []))) known_parts.0
              (known_append byte (3 ∷ []) ∙ and_join (all_known byte) true known_parts.1 refl);
          room = rw (length-append before (byte ++ (3 ∷ [])), length-append byte (3 ∷ [])) room_there;
        }

  -- the state before the byte is the one that the image holds
  held_before : 0 < size → (i m before a : List ℕ) (c : Accepted size i m before a) (s : State)
      → decode_of size lone (outcome_of size i m before a).image ≡ Some s → (run_of size lone c.state m before).state ≡
      s
  held_before z i m before a c s holds =
      let o = run_ok size z c.state m before (image_decode size lone i c.state c.image).0 c.memory in
      let b = ap (λ (x : Outcome). decode_of size lone x.image) (accepted_outcome size i m before a c) in
      good_is (sym (decode_image size lone _ o.state) ∙ (sym b ∙ holds))

  pub call_stores : 0 < size → CallStores size
  unfolding before_accepted high_accepted
  call_stores z i m before byte a w d s n holds start r low =
      let all = up_to_ninth before byte d in
      let c = accepted_by size i m all a n in
      let s₀ = c.state in
      let b = before_accepted i m before byte a d c in
      let k = held_before z i m before a b s holds in
      let g = accepted_outcome size i m (up_to_ninth before byte true) a (high_accepted i m before byte a d c) in
      let rest = drop (length (up_to_ninth before byte true)) a in
      let place = length (before ++ byte) in
      let bit : get_or ((run_of size lone s₀ m ((before ++ byte) ++ (3 ∷ []))).answers ++ rest) place 0 % 2 ≡ 0 =
      ap (λ (x : List ℕ). get_or ((run_of size lone s₀ m x).answers ++ rest) place 0 % 2) (append_assoc before byte (3 ∷
      []))
      ∙ (sym (ap (λ (x : Outcome). get_or x.answers place 0 % 2) g) ∙ low) in
      let stored = acknowledged_stored size z s₀ m before byte w d (image_decode size lone i s₀ c.image).0
      c.memory
      (subst (λ (x : State). AtData x.bus) (sym k) start) r (pulled s₀ m (before ++ byte) rest bit) in
      let ended = (run_of size lone s₀ m all).memory in
      let at = subst (λ (x : State). StoredAt (run_of size lone s₀ m before).memory x.bus.address w ended) k stored
      in
      let first = sym (accepted_outcome size i m before a b) in
      let begun = subst (λ (x : Outcome). StoredAt x.memory s.bus.address w ended) first at in
      subst (λ (x : Outcome). StoredAt (outcome_of size i m before a).memory s.bus.address w x.memory)
      (sym (accepted_outcome size i m all a c)) begun

  pub count_by_number : CountByNumber size
  count_by_number i m es a =
      by_test (eqb (outcome_of size i m es a).number accepted)
      (λ t. rw t (ends.run_count (list31 size) (reads31 size) i m es a (eqb-true _ accepted t)))
      (λ t. rw t (ap (λ (o : Outcome). o.count) (run_refused size i m es a (eqb-false _ accepted t))))
