-- SPDX-License-Identifier: Apache-2.0
-- Which entries are faulty: the tests of an entry, taken apart and put together again.
use Prim.Native.Nat.{ℕ, zero, suc, ◌+◌, ◌*◌, ◌≤◌, ◌<◌}
use mathlib.Core.Path.{◌≡◌, refl, sym, ◌∙◌}
use mathlib.Core.Bool.{Bool, true, false, not, ◌||◌, false≢true}
use mathlib.Core.List.{List, [], ◌∷◌}
use native.Mathlib.Omega.{arith}
use native.Mathlib.Nat.{not-suc-le-zero}
use lib.Dec.{leb, ltb, eqb}
use lib.ListN.{length}
use borrow.Author.Tests.{eqb-true, eqb-false, eq-eqb, ne_eqb, leb-true, leb-false, le-leb, lt-leb, lt-ltb, le-ltb, ltb-true, ltb-false, not-true, not-false}
use Rattle.std.specs.Prelude.{Option, Some, None, is_some}
use Rattle.wire.proofs.Tests.{by_test, and_split, and_join}
use Rattle.fm3130.specs.declared.State.{State}
use Rattle.fm3130_image.specs.Image.{decode_of}
use Rattle.fm3130_image.specs.Reading.{WrittenBy}
use Rattle.fm3130_image.proofs.Images.{image_decode, settled_decode}
use Rattle.bus_list.specs.Run as list
use Rattle.fm3130_list.specs.Run.{all_known}
use Rattle.capture_table.specs.Table.{word_at, entry_at, overlap, is_accepted, body_of, stands_in, uneven, clashes, clashes_below, is_sound}
use Rattle.capture_table.specs.Sections.{first_faulty}
use Rattle.capture_table.specs.declared.Entry.{Entry}
use Rattle.capture_table.proofs.Sound.{or_split, by_fault}
use Rattle.c_judge.specs.Verdict.{limit, verdict_of, compared, right_answers}
use Rattle.c_judge.specs.Faults.{kind, offset, size, body, EachKnown, Faultless, SoundExactly, FaultFirst, TooLongExactly}
use Rattle.c_judge.specs.declared.Verdict.TheVariants.{Differs, Faulty, TooLong}

-- two tests that both fail
or_join : (a b : Bool) → a ≡ false → b ≡ false → (a || b) ≡ false
or_join a b p q = rw (p, q)

-- two stretches that do not overlap
overlap_apart : (from size from₂ size₂ : ℕ) → overlap from size from₂ size₂ ≡ false
    → 0 < size → 0 < size₂ → from < from₂ + size₂ → from + size ≤ from₂
unfolding overlap
overlap_apart from size from₂ size₂ h p q r =
    ltb-false from₂ (from + size) (rw (lt-ltb 0 size p, lt-ltb 0 size₂ q, lt-ltb from (from₂ + size₂) r) at h)

apart_overlap : (from size from₂ size₂ : ℕ)
    → (0 < size → 0 < size₂ → from < from₂ + size₂ → from + size ≤ from₂) → overlap from size from₂ size₂ ≡ false
unfolding overlap
apart_overlap from size from₂ size₂ h =
    by_test (ltb 0 size)
    (λ p. by_test (ltb 0 size₂)
    (λ q. by_test (ltb from (from₂ + size₂))
    (λ r.
    rw (p, q, r, le-ltb from₂ (from + size) (h (ltb-true 0 size p) (ltb-true 0 size₂ q) (ltb-true from (from₂ + size₂) r))))
    (λ r. rw (p, q, r)))
    (λ q. rw (p, q)))
    (λ p. rw p)

-- the events of a section
known_each : (es : List ℕ) → all_known es ≡ true → EachKnown es
unfolding list.all_known
known_each [] h = tt
known_each (e ∷ es) h = let s = and_split (leb e 7) (all_known es) h in (leb-true e 7 s.0, known_each es s.1)

each_known : (es : List ℕ) → EachKnown es → all_known es ≡ true
unfolding list.all_known
each_known [] h = refl
each_known (e ∷ es) h = and_join (leb e 7) (all_known es) (le-leb e 7 h.0) (each_known es h.1)

-- the image of a section
state_written : (b : List ℕ) (d : Option State) → decode_of b ≡ d → is_some d ≡ true → (s : State) × WrittenBy b s
state_written b (Some s) e h = (s, image_decode b s e)
state_written b None e h = absurd (false≢true h)

written_state : (b : List ℕ) → (s : State) × WrittenBy b s → is_some (decode_of b) ≡ true
written_state b w = rw (settled_decode b (Some w.0) w.1)

-- what 01 refuses of a section
record Accepts (k : ℕ) (b : List ℕ) : Type 0 where
  pub image : k ≡ 1 → (s : State) × WrittenBy b s
  pub memory : k ≡ 2 → length b ≡ 8192
  pub events : k ≡ 3 → EachKnown b

accepts : (k : ℕ) (b : List ℕ) → is_accepted k b ≡ true → Accepts k b
unfolding is_accepted
accepts k b h =
    record {
      image = λ e. state_written b (decode_of b) refl (rw (eq-eqb k 1 e) at h);
      memory = λ e. eqb-true (length b) 8192 (rw (ne_eqb k 1 (λ z. omega arith), eq-eqb k 2 e) at h);
      events = λ e. known_each b (rw (ne_eqb k 1 (λ z. omega arith), ne_eqb k 2 (λ z. omega arith), eq-eqb k 3 e) at h);
    }

accepted : (k : ℕ) (b : List ℕ) → Accepts k b → is_accepted k b ≡ true
unfolding is_accepted
accepted k b a =
    by_test (eqb k 1) (λ p. rw p (written_state b (a.image (eqb-true k 1 p))))
    (λ p. by_test (eqb k 2) (λ q. rw (p, q) (eq-eqb (length b) 8192 (a.memory (eqb-true k 2 q))))
    (λ q. by_test (eqb k 3) (λ r. rw (p, q, r) (each_known b (a.events (eqb-true k 3 r)))) (λ r. rw (p, q, r))))

-- an entry with an earlier one
record Agrees (e d : Entry) : Type 0 where
  pub unrepeated : e.kind ≡ d.kind → ⊥
  pub apart : 0 < e.size → 0 < d.size → d.from < e.from + e.size → d.from + d.size ≤ e.from
  pub even : 3 ≤ e.kind → 3 ≤ d.kind → e.size ≡ d.size

agrees : (e d : Entry) → clashes e d ≡ false → Agrees e d
unfolding clashes
agrees e d h =
    let a = or_split (eqb e.kind d.kind || overlap d.from d.size e.from e.size) (uneven e d) h in
    let b = or_split (eqb e.kind d.kind) (overlap d.from d.size e.from e.size) a.0 in
    record {
      unrepeated = eqb-false e.kind d.kind b.0;
      apart = λ p q r. overlap_apart d.from d.size e.from e.size b.1 q p r;
      even = λ p q.
          let z : not (eqb e.size d.size) ≡ false = rw (le-leb 3 e.kind p, le-leb 3 d.kind q) at a.1 in
          eqb-true e.size d.size (not-false (eqb e.size d.size) z);
    }

agreed : (e d : Entry) → Agrees e d → clashes e d ≡ false
unfolding clashes
agreed e d a =
    or_join (eqb e.kind d.kind || overlap d.from d.size e.from e.size) (uneven e d)
    (or_join (eqb e.kind d.kind) (overlap d.from d.size e.from e.size)
    (ne_eqb e.kind d.kind a.unrepeated)
    (apart_overlap d.from d.size e.from e.size (λ p q r. a.apart q p r)))
    (by_test (leb 3 e.kind)
    (λ p. by_test (leb 3 d.kind)
    (λ q. rw (p, q, eq-eqb e.size d.size (a.even (leb-true 3 e.kind p) (leb-true 3 d.kind q))))
    (λ q. rw (p, q)))
    (λ p. rw p))

below : (f : List ℕ) (e : Entry) (n : ℕ) → clashes_below f e n ≡ false → (j : ℕ) → j < n → Agrees e (entry_at f j)
unfolding clashes_below
below f e zero h j l = absurd (not-suc-le-zero l)
below f e (suc n) h j l =
    let o = or_split (clashes_below f e n) (clashes e (entry_at f n)) h in
    by_test (ltb j n) (λ t. below f e n o.0 j (ltb-true j n t))
    (λ t. let g = ltb-false j n t in let z : j ≡ n = omega arith in rw z (agrees e (entry_at f n) o.1))

none_below : (f : List ℕ) (e : Entry) (n : ℕ) → ((j : ℕ) → j < n → Agrees e (entry_at f j)) → clashes_below f e n ≡ false
unfolding clashes_below
none_below f e zero h = refl
none_below f e (suc n) h =
    or_join (clashes_below f e n) (clashes e (entry_at f n)) (none_below f e n (λ j l. h j (omega arith)))
    (agreed e (entry_at f n) (h n (omega arith)))

module _ (f : List ℕ) (n : ℕ) where
  sound_faultless : is_sound f n ≡ true → Faultless f n
  unfolding is_sound stands_in entry_at word_at
  sound_faultless h =
      let e = entry_at f n in
      let a = and_split _ (not (clashes_below f e n)) h in
      let b = and_split (leb (n * 12 + 12) (length f)) (stands_in f e) a.0 in
      let c = and_split _ (is_accepted e.kind (body_of f e)) b.1 in
      let d = and_split _ (not (overlap 0 48 e.from e.size)) c.0 in
      let g = and_split _ (leb (e.from + e.size) (length f)) d.0 in
      let k = and_split (leb 1 e.kind) (leb e.kind 4) g.0 in
      let held = accepts (kind f n) (body f n) c.1 in
      let others = below f e n (not-true _ a.1) in
      record {
        uncut = leb-true (n * 12 + 12) (length f) b.0;
        least = leb-true 1 (kind f n) k.0;
        most = leb-true (kind f n) 4 k.1;
        inside = leb-true (offset f n + size f n) (length f) g.1;
        clear = λ p. clear (not-true _ d.1) p;
        image = held.image;
        memory = held.memory;
        events = held.events;
        unrepeated = λ j l. (others j l).unrepeated;
        apart = λ j l. (others j l).apart;
        even = λ j l. (others j l).even;
      }
    where
      clear : overlap 0 48 (offset f n) (size f n) ≡ false → 0 < size f n → 48 ≤ offset f n
      clear h p = let z = overlap_apart 0 48 (offset f n) (size f n) h (omega arith) p (omega arith) in omega arith

  faultless_sound : Faultless f n → is_sound f n ≡ true
  unfolding is_sound stands_in entry_at word_at
  faultless_sound w =
      let e = entry_at f n in
      let kinds = and_join (leb 1 e.kind) (leb e.kind 4) (le-leb 1 (kind f n) w.least) (le-leb (kind f n) 4 w.most) in
      let ends = and_join _ (leb (e.from + e.size) (length f)) kinds (le-leb (offset f n + size f n) (length f) w.inside) in
      let clear = and_join _ (not (overlap 0 48 e.from e.size)) ends (rw untabled) in
      let whole =
      and_join _ (is_accepted e.kind (body_of f e)) clear
      (accepted (kind f n) (body f n) (record { image = w.image; memory = w.memory; events = w.events })) in
      let stands = and_join (leb (n * 12 + 12) (length f)) (stands_in f e) (le-leb (n * 12 + 12) (length f) w.uncut) whole in
      and_join _ (not (clashes_below f e n)) stands (rw others)
    where
      untabled : overlap 0 48 (offset f n) (size f n) ≡ false
      untabled = apart_overlap 0 48 (offset f n) (size f n) (λ p q r. let z = w.clear q in omega arith)

      others : clashes_below f (entry_at f n) n ≡ false
      others =
          none_below f (entry_at f n) n
          (λ j l. record { unrepeated = w.unrepeated j l; apart = w.apart j l; even = w.even j l })

pub sound_exactly : SoundExactly
sound_exactly f n = (sound_faultless f n, faultless_sound f n)

-- the verdict by the number of the first faulty entry
record Named (f : List ℕ) (n : ℕ) : Type 0 where
  pub first : ℕ
  pub is : first_faulty f ≡ Some first
  pub up_to : first ≤ n + 1

named : (f : List ℕ) (n : ℕ) → n < 4 → is_sound f n ≡ false → Named f n
unfolding first_faulty
named f n l h =
    by_test (is_sound f 0)
    (λ a. by_test (is_sound f 1)
    (λ b. by_test (is_sound f 2)
    (λ c. by_test (is_sound f 3)
    (λ d. absurd (false≢true (sym h ∙ all a b c d n l)))
    (λ d. record { first = 4; is = rw (a, b, c, d); up_to = after3 a b c n l h }))
    (λ c. record { first = 3; is = rw (a, b, c); up_to = after2 a b n l h }))
    (λ b. record { first = 2; is = rw (a, b); up_to = after1 a n h }))
    (λ a. record { first = 1; is = rw a; up_to = omega arith })
  where
    after1 : is_sound f 0 ≡ true → (n : ℕ) → is_sound f n ≡ false → 2 ≤ n + 1
    after1 a zero h = absurd (false≢true (sym h ∙ a))
    after1 a (suc n) h = omega arith

    after2 : is_sound f 0 ≡ true → is_sound f 1 ≡ true → (n : ℕ) → n < 4 → is_sound f n ≡ false → 3 ≤ n + 1
    after2 a b zero l h = absurd (false≢true (sym h ∙ a))
    after2 a b (suc zero) l h = absurd (false≢true (sym h ∙ b))
    after2 a b (suc (suc n)) l h = omega arith

    after3 : is_sound f 0 ≡ true → is_sound f 1 ≡ true → is_sound f 2 ≡ true → (n : ℕ) → n < 4 → is_sound f n ≡ false → 4 ≤ n + 1
    after3 a b c zero l h = absurd (false≢true (sym h ∙ a))
    after3 a b c (suc zero) l h = absurd (false≢true (sym h ∙ b))
    after3 a b c (suc (suc zero)) l h = absurd (false≢true (sym h ∙ c))
    after3 a b c (suc (suc (suc n))) l h = omega arith

    all : is_sound f 0 ≡ true → is_sound f 1 ≡ true → is_sound f 2 ≡ true → is_sound f 3 ≡ true
        → (n : ℕ) → n < 4 → is_sound f n ≡ true
    all a b c d zero l = a
    all a b c d (suc zero) l = b
    all a b c d (suc (suc zero)) l = c
    all a b c d (suc (suc (suc zero))) l = d
    all a b c d (suc (suc (suc (suc n)))) l = absurd (omega arith)

pub fault_first : FaultFirst
unfolding verdict_of
fault_first f n short l h =
    let w = named f n l h in (
      w.first,
      rw (le-leb (length f) 61440 short, w.is),
      w.up_to,
    )

-- a comparison is never too long
compared_short : (n : ℕ) (rs bs : List ℕ) → compared n rs bs ≡ TooLong → ⊥
unfolding compared
compared_short n [] bs e = let z : ◌≡◌ {A = ℕ} 0 1 = cc in omega arith
compared_short n (r ∷ rs) [] e = let z : ◌≡◌ {A = ℕ} 0 1 = cc in omega arith
compared_short n (r ∷ rs) (b ∷ bs) e =
    by_test (eqb b r) (λ t. compared_short (n + 1) rs bs (rw t at e))
    (λ t. let d : Differs n b r ≡ TooLong = rw t at e in let z : ◌≡◌ {A = ℕ} 0 1 = cc in omega arith)

pub too_long_exactly : TooLongExactly
unfolding verdict_of
too_long_exactly f = (is_long, λ h. rw (lt-leb (length f) 61440 h))
  where
    is_long : verdict_of f ≡ TooLong → 61440 < length f
    is_long e =
        by_test (leb (length f) limit)
        (λ t. by_fault (first_faulty f)
        (λ u. absurd (compared_short 0 (right_answers f) _ (rw (t, u) at e)))
        (λ k u. let d : Faulty k ≡ TooLong = rw (t, u) at e in
        absurd (let z : ◌≡◌ {A = ℕ} 0 1 = cc in omega arith)))
        (λ t. leb-false (length f) limit t)
