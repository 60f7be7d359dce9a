-- SPDX-License-Identifier: Apache-2.0
-- Demand 2's two sentences of the entry: what calls leave is what the run of their events leaves (`leaves_run`), and of
-- that run both sentences are proved. The last answer's bit 0 is the line of the last event.
use Prim.Native.Nat.{ℕ, ◌+◌, ◌*◌, ◌%◌, ◌≤◌}
use mathlib.Core.Path.{◌≡◌, refl, sym, ap, subst, ◌∙◌}
use mathlib.Core.Bool.{Bool, true, false, cond}
use mathlib.Core.List.{List, [], ◌∷◌, ◌++◌, append_assoc}
use native.Mathlib.Omega.{arith}
use lib.ListN.{length, get_or, length-append}
use Rattle.wire.proofs.Tests.{and_split, and_join}
use Rattle.numbers.specs.Numbers.{accepted}
use Rattle.fm3130.specs.Event.{event_of}
use Rattle.fm3130.specs.Answer.{pin_shown}
use Rattle.fm3130.specs.declared.State.{State}
use Rattle.bus_list.specs.Run as list
use Rattle.fm3130_list.specs.Run.{Ended, answer_to, run_of, all_known, outcome_of}
use Rattle.fm3130_list.specs.Calls.{Left, left_of}
use Rattle.fm3130_image.proofs.Images.{image_decode}
use Rattle.fm3130_list.proofs.Ends.{Accepted, accepted_number, accepted_by}
use Rattle.fm3130_list.proofs.Pieces.{run_append, known_append}
use Rattle.fm3130_list.proofs.Calls.{leaves_accepted, leaves_run, leaves_state, one_call}
use Rattle.law_table.specs.Stored.{after, memory_after, clock_event, AtData, Pulls}
use Rattle.law_table.specs.Table.{last_line}
use Rattle.law_table.specs.Entry.{up_to_ninth, CallsStore, CallStores, CallsKeep, CallKeeps}
use Rattle.law_table.proofs.Stored.{acknowledged_stored}
use Rattle.law_table.proofs.Throughout.{protected_kept}

last_line_lem : (xs : List ℕ) (b : ℕ) → last_line (xs ++ (b ∷ [])) ≡ b % 2
last_line_lem [] b = refl
last_line_lem (x ∷ []) b = refl
last_line_lem (x ∷ y ∷ xs) b = last_line_lem (y ∷ xs) b

-- an answer byte whose bit 0 is 0 tells of a line that is low
line_low : (n : ℕ) (d : Bool) → (2 * n + cond d 1 0) % 2 ≡ 0 → d ≡ false
line_low n true h = absurd (omega arith)
line_low n false h = refl

pulled : (s : State) (m es : List ℕ) → last_line (run_of s m (es ++ (3 ∷ []))).answers ≡ 0
    → Pulls (after s m es) (memory_after s m es)
unfolding run_of
pulled s m es h =
    let d = event_of (after s m es) (memory_after s m es) 3 in
    let q = ap (λ (r : Ended). last_line r.answers) (run_append s m es (3 ∷ [])) in
    line_low (pin_shown d.state.power d.state.companion) d.line
    (sym (last_line_lem (run_of s m es).answers (answer_to d)) ∙ (sym q ∙ h))

pub calls_store : CallsStore
calls_store i m before byte w d s begun high whole hb holds start r hh low hw =
    let c = leaves_accepted i m before begun hb before (omega arith) in
    let s₀ = c.state in
    let k = leaves_state i m before begun hb s₀ c.image s holds in
    let qb = leaves_run i m before begun hb s₀ c.image in
    let qh = leaves_run i m (up_to_ninth before byte true) high hh s₀ c.image in
    let qw = leaves_run i m (up_to_ninth before byte d) whole hw s₀ c.image in
    let ends : last_line (run_of s₀ m ((before ++ byte) ++ (3 ∷ []))).answers ≡ 0 =
    ap (λ (z : List ℕ). last_line (run_of s₀ m z).answers) (append_assoc before byte (3 ∷ []))
    ∙ (sym (ap (λ (l : Left). last_line l.answers) qh) ∙ low) in
    let stored = acknowledged_stored s₀ m before byte w d (image_decode i s₀ c.image).0 c.memory
    (subst AtData k start) r (pulled s₀ m (before ++ byte) ends) in
    rw (qb, qw, k) stored

pub calls_keep : CallsKeep
calls_keep i m es a s l holds h left =
    ap (λ (z : Left). get_or z.memory a 0) (leaves_run i m es l left s holds) ∙ protected_kept s m es a h

pub call_keeps : CallKeeps
call_keeps i m es b a s n holds h =
    calls_keep i m es a s (left_of (outcome_of i m es b)) holds h (one_call i m es b n)

-- the call with the ninth clock high is accepted where that with any ninth clock is, and so is the call before the byte
module _ (i m before byte a : List ℕ) (d : Bool) (c : Accepted i m (up_to_ninth before byte d) a) where
  known_parts : (all_known before ≡ true) × (all_known byte ≡ true)
  known_parts =
      let ninth = clock_event d ∷ [] in
      let rest = byte ++ ninth in
      let k = and_split (all_known before) (all_known rest) (sym (known_append before rest) ∙ c.events) in
      (k.0, (and_split (all_known byte) (all_known ninth) (sym (known_append byte ninth) ∙ k.1)).0)

  room_there : length before + (length byte + 1) ≤ length a
  room_there =
      rw (length-append before (byte ++ (clock_event d ∷ [])), length-append byte (clock_event d ∷ [])) at c.room

  before_accepted : (outcome_of i m before a).number ≡ accepted
  before_accepted =
      accepted_number i m before a
      (record {
        state = c.state;
        memory = c.memory;
        image = c.image;
        events = known_parts.0;
        room = omega (arith, room_there);
      })

  high_accepted : (outcome_of i m (up_to_ninth before byte true) a).number ≡ accepted
  unfolding list.all_known
  high_accepted =
      accepted_number i m (up_to_ninth before byte true) a
      (record {
        state = c.state;
        memory = c.memory;
        image = c.image;
        events =
            known_append before (byte ++ (3 ∷ []))
            ∙ and_join (all_known before) (all_known (byte ++ (3 ∷ []))) known_parts.0
            (known_append byte (3 ∷ []) ∙ and_join (all_known byte) true known_parts.1 refl);
        room = rw (length-append before (byte ++ (3 ∷ [])), length-append byte (3 ∷ [])) room_there;
      })

pub call_stores : CallStores
call_stores i m before byte a w d s n holds start r low =
    let c = accepted_by i m (up_to_ninth before byte d) a n in
    let o : List ℕ → Left = λ es. left_of (outcome_of i m es a) in
    calls_store i m before byte w d s (o before) (o (up_to_ninth before byte true)) (o (up_to_ninth before byte d))
    (one_call i m before a (before_accepted i m before byte a d c)) holds start r
    (one_call i m (up_to_ninth before byte true) a (high_accepted i m before byte a d c)) low
    (one_call i m (up_to_ninth before byte d) a n)
