-- SPDX-License-Identifier: Apache-2.0
-- A list of events on each device in turn, the answers joined, is the list on the set. No device hears another, so what an event
-- leaves at a place is that of the device there; and the line is the join of the devices' lines, in whatever order they are joined.
use Prim.Native.Nat.{ℕ, ◌≤◌, ◌<◌}
use mathlib.Core.Path.{◌≡◌, refl, sym, ap, ◌∙◌}
use mathlib.Core.Bool.{Bool, true, false, cond, ◌&&◌, and-true, and_assoc}
use mathlib.Core.List.{List, [], ◌∷◌, ◌++◌}
use native.Mathlib.Nat.{le_of_suc-le-suc, not-suc-le-zero}
use lib.Dec.{eqb, ltb}
use lib.ListN.{length, drop, replicate}
use borrow.Author.Tests.{lt-ltb}
use Rattle.wire.proofs.Tests.{by_test}
use Rattle.bus_list.specs.Run as list
use Rattle.fm31.specs.Step.{answer_byte}
use Rattle.fm31.specs.Run.{after}
use Rattle.fm31.specs.declared.State.{State}
use Rattle.fm31_run.specs.Seat.{hears_at, own_byte, joined_at, unheard, heard_in, RanAt}
use Rattle.set_event.specs.Set.{Held, held, Together, first, second, third, fourth, at, size_in, select_in, hears, done_in}
use Rattle.set_event.specs.Set.{after_own, after_at, line_at, together, after_event, line_to}
use Rattle.set_event.specs.Outcome.{lent_to}
use Rattle.set_event.specs.declared.Member.{Member}
use Rattle.set_run.specs.Run.{run_of, answers_over, RanThrough}
use Rattle.set_run.proofs.Runs.{run_memory}
use Rattle.set_run.specs.Turn.{seat_of, left_at, joined_by, RanMember}

-- one event at a place: as the device in its seat does it
abbrev heard_at : ℕ → Held → ℕ → list.Stepped State
heard_at v h e = heard_in (seat_of v h) h.member.state h.memory e

abbrev stepped_to : Held → list.Stepped State → Held
stepped_to h d = held (record { size = h.member.size; select = h.member.select; state = d.state }) d.memory

module _ (h : Held) (o : ℕ) where
  abbrev own : Bool → list.Stepped State
  own b = cond b (after (size_in h) (select_in h) h.member.state h.memory o) (unheard h.member.state h.memory)

  device_by : (b : Bool) → cond b (after_own h o) h ≡ stepped_to h (own b)
  device_by true = refl
  device_by false = refl

  line_by_lem : (b : Bool) → answer_byte (cond b (done_in h o).line true) ≡ (own b).answer
  line_by_lem true = refl
  line_by_lem false = refl

module _ (n v : ℕ) (h : Held) (e : ℕ) where
  device_here : ltb v n ≡ true → after_at n v h e ≡ stepped_to h (heard_at v h e)
  unfolding hears
  device_here k = rw k (device_by h (own_byte e) (hears_at v e))

  line_here : ltb v n ≡ true → answer_byte (line_at n v h e) ≡ (heard_at v h e).answer
  unfolding hears
  line_here k = rw k (line_by_lem h (own_byte e) (hears_at v e))

  device_absent : ltb v n ≡ false → after_at n v h e ≡ h
  unfolding hears
  device_absent k = rw k refl

  line_absent : ltb v n ≡ false → line_at n v h e ≡ true
  unfolding hears
  line_absent k = rw k refl

  -- the first event of a list, and the rest from what it left
  left_more : (es : List ℕ) → left_at n v (after_at n v h e) es ≡ left_at n v h (e ∷ es)
  unfolding list.run_of
  left_more es =
      by_test (ltb v n)
      (λ k. ap (λ (g : Held). left_at n v g es) (device_here k) ∙ rw k refl)
      (λ k. ap (λ (g : Held). left_at n v g es) (device_absent k) ∙ rw k refl)

  -- the answer to an event: what was answered before, and the device's own
  abbrev head_at : ℕ → ℕ
  head_at b = cond (ltb v n) (joined_at v b (heard_at v h e).answer) b

  joined_more : (es : List ℕ) (b : ℕ) (a : List ℕ)
      → joined_by n v h (e ∷ es) (b ∷ a) ≡ head_at b ∷ joined_by n v (after_at n v h e) es a
  unfolding list.run_of
  joined_more es b a =
      by_test (ltb v n)
      (λ k. rw (device_here k, k) refl)
      (λ k. rw k refl)

  head_first : eqb v 0 ≡ true → ltb v n ≡ true → (b : ℕ) → head_at b ≡ answer_byte (line_at n v h e)
  unfolding joined_at
  head_first z k b = rw (k, z) (sym (line_here k))

  join_line : eqb v 0 ≡ false → (l : Bool) (x : ℕ) (m : Bool) → answer_byte m ≡ x → joined_at v (answer_byte l) x ≡
      answer_byte (l && m)
  unfolding joined_at
  join_line z true x m p = rw z (sym p)
  join_line z false x m p = rw z refl

  head_later : eqb v 0 ≡ false → (l : Bool) → head_at (answer_byte l) ≡ answer_byte (l && line_at n v h e)
  head_later z l =
      by_test (ltb v n)
      (λ k. rw k (join_line z l (heard_at v h e).answer (line_at n v h e) (line_here k)))
      (λ k. rw (k, line_absent k) (ap answer_byte (sym (and-true l))))

left_none : (b : Bool) (h : Held) → cond b h h ≡ h
left_none true h = refl
left_none false h = refl

-- the devices
pub all_left : (t : Together) (es : List ℕ)
    → (run_of t es).state
    ≡ (let n = t.set.count in
    together n (left_at n 0 (at first t) es) (left_at n 1 (at second t) es) (left_at n 2 (at third t) es)
    (left_at n 3 (at fourth t) es))
unfolding run_of list.run_of
all_left t [] =
    let n = t.set.count in
    sym (λ i. together n (left_none (ltb 0 n) (at first t) i) (left_none (ltb 1 n) (at second t) i)
    (left_none (ltb 2 n) (at third t) i) (left_none (ltb 3 n) (at fourth t) i))
all_left t (e ∷ es) =
    let n = t.set.count in
    all_left (after_event t e) es
    ∙ (λ i. together n (left_more n 0 (at first t) e es i) (left_more n 1 (at second t) e es i)
    (left_more n 2 (at third t) e es i) (left_more n 3 (at fourth t) e es i))

-- the answers
abbrev all_joined : Together → List ℕ → List ℕ → List ℕ
all_joined t es a =
    let n = t.set.count in
    joined_by n 3 (at fourth t) es
    (joined_by n 2 (at third t) es (joined_by n 1 (at second t) es (joined_by n 0 (at first t) es a)))

joined_none : (b : Bool) (a : List ℕ) → cond b a a ≡ a
joined_none true a = refl
joined_none false a = refl

-- one event, all four
all_more : (t : Together) (e : ℕ) (es : List ℕ) (b : ℕ) (a : List ℕ) → ltb 0 t.set.count ≡ true
    → all_joined t (e ∷ es) (b ∷ a) ≡ answer_byte (line_to t e) ∷ all_joined (after_event t e) es a
all_more t e es b a k =
    let n = t.set.count in
    let l₀ = line_at n 0 (at first t) e in
    let l₁ = line_at n 1 (at second t) e in
    let l₂ = line_at n 2 (at third t) e in
    let l₃ = line_at n 3 (at fourth t) e in
    let t' = after_event t e in
    let j₀ = joined_by n 0 (at first t') es a in
    let j₁ = joined_by n 1 (at second t') es j₀ in
    let j₂ = joined_by n 2 (at third t') es j₁ in
    let j₃ = joined_by n 3 (at fourth t') es j₂ in
    let p₀ : joined_by n 0 (at first t) (e ∷ es) (b ∷ a) ≡ answer_byte l₀ ∷ j₀ =
    joined_more n 0 (at first t) e es b a ∙ ap (λ (x : ℕ). x ∷ j₀) (head_first n 0 (at first t) e refl k b) in
    let p₁ : joined_by n 1 (at second t) (e ∷ es) (answer_byte l₀ ∷ j₀) ≡ answer_byte (l₀ && l₁) ∷ j₁ =
    joined_more n 1 (at second t) e es _ j₀ ∙ ap (λ (x : ℕ). x ∷ j₁) (head_later n 1 (at second t) e refl l₀) in
    let p₂ : joined_by n 2 (at third t) (e ∷ es) (answer_byte (l₀ && l₁) ∷ j₁) ≡ answer_byte ((l₀ && l₁) && l₂) ∷ j₂ =
    joined_more n 2 (at third t) e es _ j₁ ∙ ap (λ (x : ℕ). x ∷ j₂) (head_later n 2 (at third t) e refl (l₀ && l₁)) in
    let p₃ : joined_by n 3 (at fourth t) (e ∷ es) (answer_byte ((l₀ && l₁) && l₂) ∷ j₂)
    ≡ answer_byte (((l₀ && l₁) && l₂) && l₃) ∷ j₃ =
    joined_more n 3 (at fourth t) e es _ j₂
    ∙ ap (λ (x : ℕ). x ∷ j₃) (head_later n 3 (at fourth t) e refl ((l₀ && l₁) && l₂)) in
    ap (joined_by n 3 (at fourth t) (e ∷ es))
    (ap (joined_by n 2 (at third t) (e ∷ es)) (ap (joined_by n 1 (at second t) (e ∷ es)) p₀ ∙ p₁) ∙ p₂)
    ∙ (p₃ ∙ ap (λ (l : Bool). answer_byte l ∷ j₃) (and_assoc (l₀ && l₁) l₂ l₃ ∙ and_assoc l₀ l₁ (l₂ && l₃)))

pub all_joined_lem : (t : Together) (es a : List ℕ) → ltb 0 t.set.count ≡ true → length es ≤ length a
    → all_joined t es a ≡ answers_over (run_of t es) es a
unfolding run_of list.run_of
all_joined_lem t [] a k h =
    let n = t.set.count in
    ap (joined_by n 3 (at fourth t) [])
    (ap (joined_by n 2 (at third t) []) (ap (joined_by n 1 (at second t) []) (joined_none (ltb 0 n) a)))
    ∙ (ap (joined_by n 3 (at fourth t) []) (ap (joined_by n 2 (at third t) []) (joined_none (ltb 1 n) a))
    ∙ (ap (joined_by n 3 (at fourth t) []) (joined_none (ltb 2 n) a) ∙ joined_none (ltb 3 n) a))
all_joined_lem t (e ∷ es) [] k h = absurd (not-suc-le-zero h)
all_joined_lem t (e ∷ es) (b ∷ a) k h =
    all_more t e es b a k
    ∙ ap (λ (l : List ℕ). answer_byte (line_to t e) ∷ l) (all_joined_lem (after_event t e) es a k (le_of_suc-le-suc h))

-- the device at a place, from what the code finds
module _ (n v : ℕ) (h : Held) (es a : List ℕ) where
  pub member_here : (z : ℕ) (r : State) (m a' : List ℕ) → ltb v n ≡ true → z ≡ size_in h
      → RanAt (record { size = z; select = select_in h; place = v }) h.member.state h.memory es a r m a'
      → RanMember n v h es a (record { size = h.member.size; select = h.member.select; state = r }) m a'
  member_here z r m a' k p w =
      let w' : RanAt (seat_of v h) h.member.state h.memory es a r m a' = rw p at w in
      record {
        device =
            rw k (λ i. held (record {
              size = h.member.size;
              select = h.member.select;
              state = w'.state i;
            }) (w'.memory i));
        answers = rw k w'.answers;
      }

  pub member_absent : ltb v n ≡ false → RanMember n v h es a h.member h.memory a
  member_absent k = record { device = rw k refl; answers = rw k refl }

-- all of them
pub all_ran : (t : Together) (es a : List ℕ) → 0 < t.set.count → length es ≤ length a
    → (p q r s : Member) (k l m o : List ℕ) (a₁ a₂ a₃ a₄ : List ℕ)
    → RanMember t.set.count 0 (at first t) es a p k a₁ → RanMember t.set.count 1 (at second t) es a₁ q l a₂
    → RanMember t.set.count 2 (at third t) es a₂ r m a₃ → RanMember t.set.count 3 (at fourth t) es a₃ s o a₄
    → RanThrough t es a
    (lent_to (record { count = t.set.count; first = p; second = q; third = r; fourth = s }) k l m o) a₄
all_ran t es a z h p q r s k l m o a₁ a₂ a₃ a₄ w x y u =
    let n = t.set.count in
    record {
      image =
          (λ i. together n (w.device i) (x.device i) (y.device i) (u.device i)) ∙ sym (all_left t es);
      memory = sym (run_memory t es);
      answers =
          u.answers
          ∙ (ap (joined_by n 3 (at fourth t) es)
          (y.answers
          ∙ ap (joined_by n 2 (at third t) es) (x.answers ∙ ap (joined_by n 1 (at second t) es) w.answers))
          ∙ all_joined_lem t es a (lt-ltb 0 n z) h);
    }

-- no device on the line: the set stays as it is, and each answer is 1
none_step : (t : Together) (e : ℕ) → t.set.count ≡ 0 → line_to t e ≡ true
none_step t e z =
    rw (
      line_absent t.set.count 0 (at first t) e (rw z refl),
      line_absent t.set.count 1 (at second t) e (rw z refl),
      line_absent t.set.count 2 (at third t) e (rw z refl),
      line_absent t.set.count 3 (at fourth t) e (rw z refl),
    )

none_answers : (t : Together) (es : List ℕ) → t.set.count ≡ 0 → (run_of t es).answers ≡ replicate (length es) 1
unfolding run_of list.run_of
none_answers t [] z = refl
none_answers t (e ∷ es) z =
    (λ i. answer_byte (none_step t e z i) ∷ (run_of (after_event t e) es).answers)
    ∙ ap (λ (l : List ℕ). 1 ∷ l) (none_answers (after_event t e) es z)

none_left : (t : Together) (es : List ℕ) → t.set.count ≡ 0 → (run_of t es).state ≡ t
none_left t es z = all_left t es ∙ rw z refl

pub none_ran : (t : Together) (es a : List ℕ) → t.set.count ≡ 0
    → RanThrough t es a t (replicate (length es) 1 ++ drop (length es) a)
none_ran t es a z =
    record {
      image = sym (none_left t es z);
      memory = sym (run_memory t es);
      answers = ap (λ (l : List ℕ). l ++ drop (length es) a) (sym (none_answers t es z));
    }
