-- SPDX-License-Identifier: Apache-2.0
-- Every word of a session says all of what is known: so the session in words is that of looks and events.
use Prim.Native.Nat.{ℕ, ◌+◌, ◌*◌, ◌<◌, ◌≤◌}
use mathlib.Core.Path.{◌≡◌, refl, ap, subst, ◌∙◌}
use mathlib.Core.Bool.{Bool, true, false, cond, ◌&&◌}
use mathlib.Core.List.{List, [], ◌∷◌}
use lib.Dec.{eqb, ltb}
use lib.ListN.{length}
use native.Mathlib.Omega.{arith}
use borrow.Author.Tests.{ltb-false}
use Rattle.std.specs.Prelude.{Option, Some, None}
use Rattle.wire.proofs.Tests.{by_test}
use Rattle.bits.specs.Weight.{has, only}
use Rattle.fm3130_registers.specs.Map.{AF, AEN, CAL, ALSW}
use Rattle.fm3130_registers.specs.Pin.{ALARM, function_of}
use Rattle.bus.specs.declared.Power.{Power}
use Rattle.bus.specs.declared.Power.TheVariants.{On, Backup, Off}
use Rattle.fm3130_companion.specs.Pin.{pin_of}
use Rattle.fm3130_companion.specs.declared.Companion.{Companion}
use Rattle.fm3130.specs.Answer.{answer_byte, pin_shown}
use Rattle.fm3130.specs.Chip.{memory_size}
use Rattle.fm3130.specs.declared.State.{State}
use Rattle.fm3130_image.specs.Image.{decode_of}
use Rattle.numbers.specs.Numbers.{wrong_memory, wrong_state}
use Rattle.pins_levels.specs.Look.{Readings, left, stayed, first_of, look_of, driven_of, hand_of, events_of}
use Rattle.pins_levels.specs.Packed.{packed, unpacked, levels_of, readings_of, Small, Fits}
use Rattle.pins_levels.specs.Session.{Deed, saw, told, ran, asked}
use Rattle.pins_levels.specs.declared.Seen.{Seen}
use Rattle.pins_levels.specs.declared.Token.{Token}
use Rattle.pins_levels.specs.declared.Due.{Due}
use Rattle.pins_levels.proofs.Fit.{token_by, left_small, stay_fits, look_fits, hand_fits, driven_small, first_small, asks_small}
use Rattle.pins_levels.proofs.Words.{round_trip}
use Rattle.c_pins.specs.Chip.{Held, held, fm3130_on}
use Rattle.c_pins.specs.Entry.{Outcome, outcome, is_idle, on_decoded, settle_of, begin_on, begin_of, eighth_in}
use Rattle.c_pins.specs.Session.{on_token, step_on, session_on}
use Rattle.c_pins.specs.Words.{driven_word, event_of_word}
use Rattle.c_pins.specs.InWords.{Kept, kept, Call, looks, hands, deed_of, deeds_of, due_on, turn_on, turns_on, in_word, Spoken, InWords}

-- an answer has four bits
function_small : (x y z : Bool) → cond x 3 (cond y (cond z 1 0) 2) ≤ 3
function_small true y z = omega arith
function_small false true true = omega arith
function_small false true false = omega arith
function_small false false z = omega arith

only_small : (b : Bool) → only b 4 ≤ 4
only_small true = omega arith
only_small false = omega arith

pin_bits : (x y z w : Bool) → cond x 3 (cond y (cond z 1 0) 2) + only w 4 ≤ 7
pin_bits x y z w = let f = function_small x y z in let o = only_small w in omega arith

pin_small : (c : Companion) → pin_of c ≤ 7
unfolding pin_of
pin_small c =
    let r = c.registers in
    pin_bits (has r.control CAL) (has r.setup ALSW) (has r.control AEN)
    (eqb (function_of r.control r.setup) ALARM && has r.control AF)

shown_small : (w : Power) (c : Companion) → pin_shown w c ≤ 7
shown_small On c = pin_small c
shown_small Backup c = pin_small c
shown_small Off c = omega arith

answer_small : (s : State) → answer_byte s true < 16
answer_small s =
    let h = shown_small s.power s.companion in
    let z : answer_byte s true ≡ 2 * pin_shown s.power s.companion + 1 = refl in
    omega arith

asked_small : (t : Token) (h : Held) → Small t → Small (asked fm3130_on t h)
asked_small t h s = asks_small t _ _ _ (answer_byte h.state true) s (answer_small h.state)

-- the first look
begin_on_small : (d : Option State) (m : List ℕ) (v : Seen) → Small (begin_on d m v)
begin_on_small None m v = left_small (first_of v) wrong_state (first_small v) (omega arith)
begin_on_small (Some s) m v = asked_small (first_of v) (held s m) (first_small v)

begin_small : (i m : List ℕ) (v : Seen) → Small (begin_of i m v)
unfolding begin_of
begin_small i m v =
    token_by (eqb (length m) memory_size) _ _ (begin_on_small (decode_of i) m v)
    (left_small (first_of v) wrong_memory (first_small v) (omega arith))

-- what is due
outcome_by : (b : Bool) (x y : Outcome) → Small x.token → Small y.token → Small (cond b x y).token
outcome_by true x y p q = p
outcome_by false x y p q = q

decoded_small : (x : Option State) (i m : List ℕ) (d : Due) → Small d.token → Small (on_decoded x i m d).token
decoded_small None i m d s = left_small d.token wrong_state s (omega arith)
decoded_small (Some x) i m d s = asked_small d.token (ran fm3130_on (held x m) (events_of d)) s

settle_small : (i m : List ℕ) (d : Due) → Small d.token → Small (settle_of i m d).token
unfolding settle_of
settle_small i m d s =
    outcome_by (eqb d.token.number 0) _ (outcome d.token i m)
    (outcome_by (is_idle d) (outcome d.token i m) _ s
    (outcome_by (eqb (length m) memory_size) (on_decoded (decode_of i) i m d) (outcome (left d.token wrong_memory) i m)
    (decoded_small (decode_of i) i m d s) (left_small d.token wrong_memory s (omega arith))))
    s

on_fits : (t : Token) (d : Due) → Small t → Fits d → Fits (on_token t d)
on_fits t d s f = record { token = s; first = f.first; second = f.second; third = f.third }

event_small : (e : ℕ) → event_of_word e < 16
event_small e =
    by_test (ltb 7 e)
    (λ q. let z : event_of_word e ≡ 8 = rw q in omega arith)
    (λ q. let z : event_of_word e ≡ e = rw q in let l = ltb-false 7 e q in omega arith)

-- every step keeps it
step_small : (o : Outcome) (k : Deed) → Small o.token → ((e : ℕ) (b : Readings) → k ≡ told e b → e < 16) → Small (step_on o k).token
unfolding step_on
step_small o (saw v a b) s h =
    let d = look_of o.token v in
    let f = look_fits o.token v s in
    let t : Token = driven_of o.token.pulling d.token a in
    driven_small t.pulling _ b
    (settle_small o.image o.memory (on_token t d) (driven_small o.token.pulling d.token a f.token))
step_small o (told e b) s h =
    let f = hand_fits o.token e (eighth_in o.image) s (h e b refl) in
    driven_small (hand_of o.token e (eighth_in o.image)).token.pulling _ b
    (settle_small o.image o.memory (hand_of o.token e (eighth_in o.image)) f.token)

-- words, and what they say
driven_words : (e d : Due) (c : ℕ) → Fits e → Fits d
    → driven_word (packed e) (packed d) c ≡ packed (on_token (driven_of e.token.pulling d.token (readings_of c)) d)
driven_words e d c f g =
    ap (λ (x : Due). packed (on_token (driven_of x.token.pulling (unpacked (packed d)).token (readings_of c)) (unpacked (packed d))))
    (round_trip e f)
    ∙ ap (λ (x : Due). packed (on_token (driven_of e.token.pulling x.token (readings_of c)) x)) (round_trip d g)

abbrev finished : List ℕ → List ℕ → Due → ℕ → Outcome
finished i m d b =
    let r = settle_of i m d in
    outcome (driven_of d.token.pulling r.token (readings_of b)) r.image r.memory

due_words : (i m : List ℕ) (d : Due) (b : ℕ) → Fits d → due_on i m (packed d) b ≡ in_word (finished i m d b)
due_words i m d b f =
    ap (λ (x : Due). let o = settle_of i m x in
    kept (driven_word (packed d) (packed (stayed o.token)) b) o.image o.memory) (round_trip d f)
    ∙ ap (λ (w : ℕ). kept w (settle_of i m d).image (settle_of i m d).memory)
    (driven_words d (stayed (settle_of i m d).token) b f
    (stay_fits (settle_of i m d).token (settle_small i m d f.token)))

turn_words : (o : Outcome) (k : Call) → Small o.token → turn_on (in_word o) k ≡ in_word (step_on o (deed_of k))
unfolding step_on
turn_words o (looks n a b) s =
    let t = o.token in
    let d = look_of t (levels_of n) in
    let f = look_fits t (levels_of n) s in
    let x : Token = driven_of t.pulling d.token (readings_of a) in
    ap (λ (y : Due). due_on o.image o.memory (driven_word (packed (stayed t)) (packed (look_of y.token (levels_of n))) a) b)
    (round_trip (stayed t) (stay_fits t s))
    ∙ ap (λ (w : ℕ). due_on o.image o.memory w b) (driven_words (stayed t) d a (stay_fits t s) f)
    ∙ due_words o.image o.memory (on_token x d) b
    (on_fits x d (driven_small t.pulling d.token (readings_of a) f.token) f)
turn_words o (hands e b) s =
    let t = o.token in
    let d = hand_of t (event_of_word e) (eighth_in o.image) in
    ap (λ (y : Due). due_on o.image o.memory (packed (hand_of y.token (event_of_word e) (eighth_in o.image))) b)
    (round_trip (stayed t) (stay_fits t s))
    ∙ due_words o.image o.memory d b (hand_fits t (event_of_word e) (eighth_in o.image) s (event_small e))

deed_small : (k : Call) (e : ℕ) (b : Readings) → deed_of k ≡ told e b → e < 16
deed_small (looks n a c) e b q = absurd (no q)
  where
    is_told : Deed → Type 0
    is_told (saw v x y) = Unit {0}
    is_told (told x y) = ⊥

    no : saw (levels_of n) (readings_of a) (readings_of c) ≡ told e b → ⊥
    no p = subst is_told p tt
deed_small (hands x c) e b q = subst (λ (y : ℕ). y < 16) (ap event_in q) (event_small x)
  where
    event_in : Deed → ℕ
    event_in (saw v y z) = 0
    event_in (told y z) = y

no_pull : (unpacked 0).token.pulling ≡ false
unfolding unpacked
no_pull = refl

begin_words : (t : Token) (c : ℕ) → Small t → driven_word 0 (packed (stayed t)) c ≡ packed (stayed (driven_of false t (readings_of c)))
begin_words t c s =
    ap (λ (p : Bool). packed (on_token (driven_of p (unpacked (packed (stayed t))).token (readings_of c)) (unpacked (packed (stayed t))))) no_pull
    ∙ ap (λ (x : Due). packed (on_token (driven_of false x.token (readings_of c)) x)) (round_trip (stayed t) (stay_fits t s))

-- all of it
module _ (i m : List ℕ) (n c : ℕ) where
  abbrev session : List Call → Outcome
  session ks = session_on i m (levels_of n) (readings_of c) (deeds_of ks)

  session_small : (ks : List Call) → Small (session ks).token
  unfolding session_on
  session_small [] = driven_small false (begin_of i m (levels_of n)) (readings_of c) (begin_small i m (levels_of n))
  session_small (k ∷ ks) = step_small (session ks) (deed_of k) (session_small ks) (deed_small k)

  session_words : (ks : List Call) → turns_on i m n c ks ≡ in_word (session ks)
  unfolding session_on
  session_words [] =
      ap (λ (w : ℕ). kept w i m) (begin_words (begin_of i m (levels_of n)) c (begin_small i m (levels_of n)))
  session_words (k ∷ ks) = ap (λ (x : Kept). turn_on x k) (session_words ks) ∙ turn_words (session ks) k (session_small ks)

  says : (ks : List Call) → unpacked (turns_on i m n c ks).word ≡ stayed (session ks).token
  says ks =
      ap (λ (k : Kept). unpacked k.word) (session_words ks)
      ∙ round_trip (stayed (session ks).token) (stay_fits (session ks).token (session_small ks))

  spoken : (ks : List Call) → Spoken i m n c ks (session ks)
  unfolding unpacked
  spoken ks =
      record {
        kept = session_words ks;
        number = ap (λ (d : Due). d.token.number) (says ks);
        pulled = ap (λ (d : Due). d.token.pulling) (says ks);
        answer = ap (λ (d : Due). d.token.answer) (says ks);
      }

pub in_words : InWords
in_words i m n c ks = spoken i m n c ks
