-- SPDX-License-Identifier: Apache-2.0
-- A session on image and memory is that of the part, laid down: so what is shown of every session holds of it.
use Prim.Native.Nat.{ℕ}
use mathlib.Core.Path.{◌≡◌, refl, sym, ap, subst, ◌∙◌}
use mathlib.Core.Bool.{Bool, true, false, cond, ◌&&◌, false≢true, true≢false}
use mathlib.Core.List.{List, [], ◌∷◌, ◌++◌, append-nil}
use lib.Dec.{eqb, ltb}
use lib.ListN.{length}
use native.Mathlib.Omega.{arith}
use borrow.Author.Tests.{eq-eqb, ne_eqb, eqb-true, eqb-false}
use Rattle.std.specs.Prelude.{Some, None}
use Rattle.wire.proofs.Tests.{by_test}
use Rattle.fm3130.specs.Chip.{memory_size}
use Rattle.fm3130.specs.declared.State.{State}
use Rattle.fm3130_image.specs.Image.{image_of, decode_of}
use Rattle.fm3130_image.proofs.Images.{decode_image, image_decode}
use Rattle.fm3130_list.specs.Run.{run_of}
use Rattle.c_line.specs.Line.{pulls, pulls_after}
use Rattle.pins_levels.specs.Wave.{spelt, clock_of}
use Rattle.pins_levels.specs.Look.{Readings, left, first_of, look_of, driven_of, hand_of, known, events_of}
use Rattle.pins_levels.specs.Session.{Stood, stood, Deed, saw, told, seen_in, handed_in, ran, asked, settled_on, settled, begun, step, session}
use Rattle.pins_levels.specs.Session.{under_way, Account, Merged, neither, on_bus, handed}
use Rattle.pins_levels.specs.declared.Seen.{Seen}
use Rattle.pins_levels.specs.declared.Seen.TheVariants.{Low, High}
use Rattle.pins_levels.specs.declared.Token.{Token}
use Rattle.pins_levels.specs.declared.Due.{Due}
use Rattle.pins_levels.proofs.Runs.{known_some, known_none}
use Rattle.pins_levels.proofs.Shown.{shown}
use Rattle.pins_levels.proofs.Steps.{settled_on_lem, settled_left, driven_left}
use Rattle.c_pins.specs.Chip.{Held, held, fm3130_on}
use Rattle.c_pins.specs.Entry.{Outcome, outcome, laid, is_idle, settle_of, begin_of}
use Rattle.c_pins.specs.Session.{on_token, step_on, session_on, Faithfully, OnWires, EveryWaveform, LooksOnly, StillHigh, NotBegun, Refused}
use Rattle.c_pins.proofs.Dropped.{lawful}
use Rattle.c_pins.proofs.Line.{stays_left}
use Rattle.c_pins.proofs.Ran.{HeldOk, ran_ok, ran_run, eighth_in_lem}
use Rattle.c_pins.proofs.Ways.{settle_left, settle_idle, settle_on}

-- where a part's session stands, laid down in image and memory
abbrev down : Stood fm3130_on → Outcome
down o = laid o.token o.state

-- no event is due exactly if the list of them is empty
abbrev is_nil : List ℕ → Bool
is_nil [] = true
is_nil (e ∷ es) = false

idle_is : (a b c : ℕ) → is_nil (known a ++ (known b ++ known c)) ≡ ((ltb 7 a && ltb 7 b) && ltb 7 c)
idle_is a b c = by (ltb 7 a) (ltb 7 b) (ltb 7 c) refl refl refl
  where
    by : (x y z : Bool) → ltb 7 a ≡ x → ltb 7 b ≡ y → ltb 7 c ≡ z
        → is_nil (known a ++ (known b ++ known c)) ≡ ((x && y) && z)
    by true true true p q r = rw (known_none a p, known_none b q, known_none c r)
    by true true false p q r = rw (known_none a p, known_none b q, known_some c r)
    by true false z p q r = rw (known_none a p, known_some b q)
    by false y z p q r = rw (known_some a p)

settled_nil : (t : Token) (es : List ℕ) (h : Held) → is_nil es ≡ true → settled_on fm3130_on t es h ≡ stood fm3130_on t h
unfolding settled_on
settled_nil t [] h n = refl
settled_nil t (e ∷ es) h n = absurd (false≢true n)

settled_more : (t : Token) (es : List ℕ) (h : Held) → is_nil es ≡ false
    → settled_on fm3130_on t es h ≡ stood fm3130_on (asked fm3130_on t (ran fm3130_on h es)) (ran fm3130_on h es)
unfolding settled_on
settled_more t [] h n = absurd (true≢false n)
settled_more t (e ∷ es) h n = refl

-- what is due, on image and memory
module _ (h : Held) (k : HeldOk h) (d : Due) where
  settle_by : is_idle d ≡ false → d.token.number ≡ 0
      → laid (asked fm3130_on d.token (ran fm3130_on h (events_of d))) (ran fm3130_on h (events_of d))
      ≡ settle_of (image_of h.state) h.memory d
  settle_by i n =
      settle_on (image_of h.state) h.memory d n
      (laid (asked fm3130_on d.token (ran fm3130_on h (events_of d))) (ran fm3130_on h (events_of d)))
      (rw (i, eq-eqb (length h.memory) memory_size k.memory, decode_image h.state k.state))

  settle_down : settle_of (image_of h.state) h.memory d ≡ down (settled fm3130_on d.token (events_of d) h)
  settle_down =
      by_test (eqb d.token.number 0)
      (λ q. let n = eqb-true d.token.number 0 q in
      by_test (is_idle d)
      (λ i. sym (settle_idle (image_of h.state) h.memory d n i)
      ∙ sym (ap down (settled_on_lem fm3130_on d.token (events_of d) h n
      ∙ settled_nil d.token (events_of d) h (idle_is d.first d.second d.third ∙ i))))
      (λ i. sym (settle_by i n)
      ∙ sym (ap down (settled_on_lem fm3130_on d.token (events_of d) h n
      ∙ settled_more d.token (events_of d) h (idle_is d.first d.second d.third ∙ i)))))
      (λ q. let n = eqb-false d.token.number 0 q in
      sym (settle_left (image_of h.state) h.memory d n) ∙ sym (ap down (settled_left fm3130_on d.token (events_of d) h n)))

settled_on_ok : (t : Token) (es : List ℕ) (h : Held) → HeldOk h → HeldOk (settled_on fm3130_on t es h).state
unfolding settled_on
settled_on_ok t [] h k = k
settled_on_ok t (e ∷ es) h k = ran_ok h (e ∷ es) k

settled_ok : (t : Token) (es : List ℕ) (h : Held) → HeldOk h → HeldOk (settled fm3130_on t es h).state
settled_ok t es h k =
    by_test (eqb t.number 0)
    (λ q. subst (λ (r : Stood fm3130_on). HeldOk r.state) (sym (settled_on_lem fm3130_on t es h (eqb-true t.number 0 q)))
    (settled_on_ok t es h k))
    (λ q. subst (λ (r : Stood fm3130_on). HeldOk r.state) (sym (settled_left fm3130_on t es h (eqb-false t.number 0 q))) k)

-- a deed
step_ok : (o : Stood fm3130_on) (x : Deed) → HeldOk o.state → HeldOk (step fm3130_on o x).state
unfolding step
step_ok o (saw v a b) k = settled_ok _ _ o.state k
step_ok o (told e b) k = settled_ok _ _ o.state k

step_down : (o : Stood fm3130_on) (x : Deed) → HeldOk o.state → step_on (down o) x ≡ down (step fm3130_on o x)
unfolding step step_on
step_down o (saw v a b) k =
    let d = look_of o.token v in
    let t : Token = driven_of o.token.pulling d.token a in
    ap (λ (r : Outcome). outcome (driven_of t.pulling r.token b) r.image r.memory) (settle_down o.state k (on_token t d))
step_down o (told e b) k =
    let h = o.state in
    let d = hand_of o.token e (fm3130_on.eighth h) in
    ap (λ (x : Bool). let y = hand_of o.token e x in let r = settle_of (image_of h.state) h.memory y in
    outcome (driven_of y.token.pulling r.token b) r.image r.memory) (eighth_in_lem h.state)
    ∙ ap (λ (r : Outcome). outcome (driven_of d.token.pulling r.token b) r.image r.memory) (settle_down h k d)

-- a session
module _ (s : State) (m : List ℕ) (k : HeldOk (held s m)) (v : Seen) (c : Readings) where
  session_ok : (ds : List Deed) → HeldOk (session fm3130_on (held s m) v c ds).state
  unfolding session begun
  session_ok [] = k
  session_ok (x ∷ ds) = step_ok (session fm3130_on (held s m) v c ds) x (session_ok ds)

  begin_down : begin_of (image_of s) m v ≡ asked fm3130_on (first_of v) (held s m)
  unfolding begin_of
  begin_down = rw (eq-eqb (length m) memory_size k.memory, decode_image s k.state)

  session_down : (ds : List Deed) → session_on (image_of s) m v c ds ≡ down (session fm3130_on (held s m) v c ds)
  unfolding session session_on begun
  session_down [] = ap (λ (t : Token). outcome (driven_of false t c) (image_of s) m) begin_down
  session_down (x ∷ ds) =
      ap (λ (o : Outcome). step_on o x) (session_down ds) ∙ step_down (session fm3130_on (held s m) v c ds) x (session_ok ds)

  -- what is shown, laid down
  faithfully : (hs : List ℕ) (w : List Seen) (o : Stood fm3130_on) → Account fm3130_on (held s m) w hs o
      → Faithfully s m w hs (down o)
  faithfully hs w o a =
      let e : o.state ≡ held (run_of s m a.done).state (run_of s m a.done).memory = a.state ∙ ran_run s m a.done in
      record {
        done = a.done;
        ticks = a.ticks;
        is_early = a.is_early;
        image = ap (λ (h : Held). image_of h.state) e;
        memory = ap (λ (h : Held). h.memory) e;
        merged = a.merged;
        waits = a.waits;
        at_rest = a.at_rest;
        lasted = a.lasted;
      }

good_is : (x y : State) → Some x ≡ Some y → x ≡ y
good_is x y e = cc

every_image : (s : State) (m : List ℕ) (k : HeldOk (held s m)) (v : Seen) (c : Readings) (ds : List Deed)
    → (session_on (image_of s) m v c ds).token.number ≡ 0 → OnWires (image_of s) m s v c ds
every_image s m k v c ds h =
    let e = session_down s m k v c ds in
    let n = sym (ap (λ (o : Outcome). o.token.number) e) ∙ h in
    let o : Stood fm3130_on = session fm3130_on (held s m) v c ds in
    record {
      faithful =
          subst (Faithfully s m (seen_in v ds) (handed_in ds)) (sym e)
          (faithfully s m k v c (handed_in ds) (seen_in v ds) o ((shown fm3130_on lawful).faithful (held s m) v c ds n));
      driven =
          subst (λ (r : Outcome). r.token.scl ≡ false
          → (x : State) → decode_of r.image ≡ Some x → r.token.pulling ≡ pulls x r.memory) (sym e)
          (λ q x g. (shown fm3130_on lawful).driven (held s m) v c ds n q
          ∙ ap (λ (y : State). pulls y o.state.memory)
          (good_is _ _ (sym (decode_image o.state.state (session_ok s m k v c ds).state) ∙ g)));
      early =
          subst (λ (r : Outcome). r.token.pulse ≡ true → (x : State) → decode_of r.image ≡ Some x
          → (look_of r.token Low).token.pulling ≡ pulls_after x r.memory (clock_of r.token.sda)) (sym e)
          (λ q x g. (shown fm3130_on lawful).early (held s m) v c ds n q
          ∙ ap (λ (y : State). pulls_after y o.state.memory (clock_of o.token.sda))
          (good_is _ _ (sym (decode_image o.state.state (session_ok s m k v c ds).state) ∙ g)));
    }

pub every_waveform : EveryWaveform
every_waveform i m s l g v c ds h =
    let w = image_decode i s g in
    let k : HeldOk (held s m) = record { state = w.0; memory = l } in
    subst (λ (x : List ℕ). (session_on x m v c ds).token.number ≡ 0 → OnWires x m s v c ds) w.1
    (λ n. every_image s m k v c ds n) h

still_image : (s : State) (m : List ℕ) (k : HeldOk (held s m)) (v : Seen) (c : Readings) (ds : List Deed) (d : Bool) (a b : Readings)
    → (session_on (image_of s) m v c (saw (High d) a b ∷ ds)).token.number ≡ 0
    → (session_on (image_of s) m v c (saw (High d) a b ∷ ds)).token.pulling ≡ (session_on (image_of s) m v c ds).token.pulling
unfolding session
still_image s m k v c ds d a b h =
    let e = session_down s m k v c (saw (High d) a b ∷ ds) in
    ap (λ (o : Outcome). o.token.pulling) e
    ∙ (shown fm3130_on lawful).still (session fm3130_on (held s m) v c ds) d a b (sym (ap (λ (o : Outcome). o.token.number) e) ∙ h)
    ∙ sym (ap (λ (o : Outcome). o.token.pulling) (session_down s m k v c ds))

pub still_high : StillHigh
still_high i m s l g v c ds d a b h =
    let w = image_decode i s g in
    let k : HeldOk (held s m) = record { state = w.0; memory = l } in
    subst (λ (x : List ℕ). (session_on x m v c (saw (High d) a b ∷ ds)).token.number ≡ 0
    → (session_on x m v c (saw (High d) a b ∷ ds)).token.pulling ≡ (session_on x m v c ds).token.pulling) w.1
    (λ n. still_image s m k v c ds d a b n) h

-- refused at the first look
not_begun : (i m : List ℕ) (v : Seen) (c : Readings) (n : ℕ) → (n ≡ 0 → ⊥) → begin_of i m v ≡ left (first_of v) n
    → (ds : List Deed) → session_on i m v c ds ≡ outcome (left (first_of v) n) i m
unfolding session_on
not_begun i m v c n z e [] =
    ap (λ (t : Token). outcome (driven_of false t c) i m) e
    ∙ ap (λ (t : Token). outcome t i m) (driven_left false (left (first_of v) n) c z)
not_begun i m v c n z e (k ∷ ds) =
    ap (λ (o : Outcome). step_on o k) (not_begun i m v c n z e ds) ∙ stays_left (outcome (left (first_of v) n) i m) k z

begun_not : (i m : List ℕ) (v : Seen) (c : Readings) (ds : List Deed) (n : ℕ)
    → session_on i m v c ds ≡ outcome (left (first_of v) n) i m → NotBegun i m v c ds n
begun_not i m v c ds n e =
    record {
      number = ap (λ (o : Outcome). o.token.number) e;
      pulling = ap (λ (o : Outcome). o.token.pulling) e;
      image = ap (λ (o : Outcome). o.image) e;
      memory = ap (λ (o : Outcome). o.memory) e;
    }

begin_short : (i m : List ℕ) (v : Seen) → (length m ≡ memory_size → ⊥) → begin_of i m v ≡ left (first_of v) 1
unfolding begin_of
begin_short i m v h = rw (ne_eqb (length m) memory_size h)

begin_bad : (i m : List ℕ) (v : Seen) → length m ≡ memory_size → decode_of i ≡ None → begin_of i m v ≡ left (first_of v) 2
unfolding begin_of
begin_bad i m v h g = rw (eq-eqb (length m) memory_size h, g)

pub refused : Refused
refused i m v c ds = (
  λ h. begun_not i m v c ds 1 (not_begun i m v c 1 (λ z. omega arith) (begin_short i m v h) ds),
  λ h g. begun_not i m v c ds 2 (not_begun i m v c 2 (λ z. omega arith) (begin_bad i m v h g) ds),
)

-- with nothing handed in
nothing_handed : (es bs ts : List ℕ) → Merged es bs ts → ts ≡ [] → es ≡ bs
nothing_handed es bs ts neither e = refl
nothing_handed es bs ts (on_bus x p) e = ap (λ (l : List ℕ). x ∷ l) (nothing_handed _ _ _ p e)
nothing_handed es bs ts (handed {ts = us} x p) e = absurd (let z = ap length e in omega arith)

front_nil : (xs ys : List ℕ) → [] ≡ xs ++ ys → xs ≡ []
front_nil [] ys e = refl
front_nil (x ∷ xs) ys e = absurd (let z = ap length e in omega arith)

pub looks_only : LooksOnly
looks_only i m s l g v c ds q h =
    let f = (every_waveform i m s l g v c ds h).faithful in
    let n : f.is_early ≡ false = by_test f.is_early (λ b. absurd (let y = f.lasted b in let z = ap length q in omega arith)) (λ b. b) in
    let t : f.ticks ≡ [] = front_nil f.ticks _ (sym q ∙ f.waits) in
    let e : f.done ≡ spelt (seen_in v ds) =
    nothing_handed _ _ _ f.merged t
    ∙ ap (λ (b : Bool). spelt (seen_in v ds) ++ cond b (under_way (seen_in v ds)) []) n ∙ append-nil (spelt (seen_in v ds)) in
    (f.image ∙ ap (λ (x : List ℕ). image_of (run_of s m x).state) e, f.memory ∙ ap (λ (x : List ℕ). (run_of s m x).memory) e)
