-- SPDX-License-Identifier: Apache-2.0
-- A lit lamp was read as 1: the log's cut is one of the history. And the memory then holds 1: while a byte of the memory goes
-- out, the byte that is sent is the one that the memory holds at the address of its first clock; where the master leaves the
-- line high, the line shows its bits one by one; and after the ninth clock only a write to the address can change it.
use Prim.Native.Nat.{ℕ, zero, suc, ◌≤◌, ◌<◌}
use mathlib.Core.Path.{◌≡◌, refl, sym, ap, ◌∙◌, subst}
use mathlib.Core.Bool.{Bool, true, false, cond, not, ◌&&◌, and-false}
use mathlib.Core.List.{List, [], ◌∷◌, ◌++◌}
use native.Mathlib.Omega.{arith}
use lib.Dec.{eqb, ltb}
use lib.ListN.{get_or, take, drop}
use lib.Seq.{get_or-set_other}
use borrow.Author.Tests.{eqb-true, ltb-false, ne_eqb, eq-eqb}
use Rattle.wire.specs.Bits.{place_at, pushed, sent_bit}
use Rattle.wire.specs.Clock.{sent_at}
use Rattle.wire.specs.Kinds.{memory_read}
use Rattle.wire.specs.Memory.{Cells, lent, byte_at}
use Rattle.wire.specs.Machine.{start, stop, clock, clocked, lined}
use Rattle.wire.specs.declared.Side.TheVariants.{Memory, Companion}
use Rattle.wire.specs.declared.Phase.{Phase}
use Rattle.wire.specs.declared.Phase.TheVariants.{Read}
use Rattle.wire.proofs.Cells.{fetch_bytes}
use Rattle.wire.proofs.HighFirst.{pushed_sent}
use Rattle.wire.proofs.Tests.{by_test, and_split}
use Rattle.bus_limits.specs.Limits.{power_within}
use Rattle.bus.specs.declared.Power.{Power}
use Rattle.bus.specs.declared.Power.TheVariants.{On, Backup, Off}
use Rattle.fm3130_companion.specs.declared.Companion as Part
use Rattle.fm3130.specs.Chip.{memory_size, fm3130}
use Rattle.fm3130.specs.Event.{Happening, on_wire, beat, lost, gone, returned, happening, event_on, event_of}
use Rattle.fm3130.specs.declared.State.{State}
use Rattle.fm3130_list.specs.Run.{run_of}
use Rattle.law_table.specs.Protected.{Change, same, eighth}
use Rattle.law_table.proofs.Protected.{only_eighth_clocks}
use Rattle.lamps.specs.History.{Moment, History, moment, happened, left, past_of}
use Rattle.lamps.specs.Log.{is_clock, clocks_in, byte_shown, address_at, mark_of, log_of}
use Rattle.lamps_eight.specs.Lit.{lamp_address}
use Rattle.lamps.specs.Step.{begun, step_of}
use Rattle.lamps.specs.Statement.{answered_by}
use Rattle.lamps_eight.specs.declared.Mark.{Mark}
use Rattle.lamps_eight.specs.declared.Mark.TheVariants.{Ended, Gave}
use Rattle.lamps.specs.declared.Proving.{Proving}
use Rattle.lamps_eight.proofs.Words.{lit_words}
use Rattle.lamps.proofs.Proven.{Stands, stands_begun, stands_next}
use Rattle.law_maintenance.specs.Memory.{is_high_clock, is_left_high, all_high, writes_to, no_writes, LitWasRead, HoldsOne}
use Rattle.law_maintenance.proofs.Under.{no, At, idle_at, clock_at, along}
use Rattle.law_maintenance.proofs.Ninth.{ninth_of_lem}

-- a cut of the log is a cut of the history
record Cut (x : Mark) (h : History) : Type 0 where
  pub since : History
  pub moment : Moment
  pub before : History
  pub cut : h ≡ since ++ (moment ∷ before)
  pub mark : mark_of moment before ≡ x

abbrev head_or : Mark → List Mark → Mark
head_or d [] = d
head_or d (x ∷ l) = x

abbrev tail_of : List Mark → List Mark
tail_of [] = []
tail_of (x ∷ l) = l

abbrev is_empty : List Mark → Bool
is_empty [] = true
is_empty (x ∷ l) = false

log_cut : (x : Mark) (h : History) (a b : List Mark) → log_of h ≡ a ++ (x ∷ b) → Cut x h
log_cut x [] [] b e = no (sym (ap is_empty e))
log_cut x [] (y ∷ a) b e = no (sym (ap is_empty e))
log_cut x (z ∷ h) [] b e =
    record { since = []; moment = z; before = h; cut = refl; mark = ap (head_or x) e }
log_cut x (z ∷ h) (y ∷ a) b e =
    let c = log_cut x h a b (ap tail_of e) in
    record { since = z ∷ c.since; moment = c.moment; before = c.before; cut = ap (λ (l : History). z ∷ l) c.cut; mark = c.mark }

-- behind two parts of a list
behind : (a : List Mark) (x : Mark) (b : List Mark) (y : Mark) (c : List Mark) → a ++ (x ∷ (b ++ (y ∷ c))) ≡ (a ++ (x ∷ b)) ++ (y ∷ c)
behind [] x b y c = refl
behind (z ∷ a) x b y c = ap (λ (l : List Mark). z ∷ l) (behind a x b y c)

pub lit_was_read : LitWasRead
lit_was_read k s m es h =
    let l = lit_words (lamp_address k) (log_of (past_of [] s m es)) h in
    let c =
    log_cut (Gave (lamp_address k) 1) (past_of [] s m es) (l.since ++ (Ended ∷ l.between)) l.before
    (l.cut ∙ behind l.since Ended l.between (Gave (lamp_address k) 1) l.before) in
    record { since = c.since; ninth = c.moment; before = c.before; cut = c.cut; gave = c.mark }

-- the first n bits of a byte that goes out, as they come in
abbrev shown_so : ℕ → ℕ → ℕ
shown_so zero b = 0
shown_so (suc n) b = pushed (shown_so n b) (sent_bit n b)

-- of a byte that goes out with k clocks done: the memory holds it at the first clock's address; where the master left the
-- line high, the line showed its bits
abbrev SendingAt : List ℕ → History → ℕ → ℕ → Type 0
SendingAt m c zero b = Unit {0}
SendingAt m c (suc k) b =
    (b ≡ get_or m (address_at (drop k c)) 0) × (all_high (take (suc k) c) ≡ true → byte_shown (take (suc k) c) ≡ shown_so (suc k) b)

-- one Clock more
module _ (x : Moment) (c : History) (m : List ℕ) (d : Bool) where
  abbrev a : ℕ
  a = x.state.address

  sending_more : (k b : ℕ) → (left x).line ≡ (d && sent_bit k (cond (eqb k 0) (get_or m a 0) b)) → is_left_high x ≡ d
      → SendingAt m c k b → SendingAt m (x ∷ c) (suc k) (cond (eqb k 0) (get_or m a 0) b)
  sending_more zero b l u h = (
    refl,
    λ g. let t : d ≡ true = sym u ∙ (and_split (is_left_high x) true g).0 in
        ap (pushed 0) (l ∙ ap (λ (z : Bool). z && sent_bit 0 (get_or m a 0)) t),
  )
  sending_more (suc k) b l u h =
      let z : eqb (suc k) 0 ≡ false = ne_eqb (suc k) 0 (λ q. omega arith) in
      let l' : (left x).line ≡ (d && sent_bit (suc k) b) = l ∙ ap (λ (t : Bool). d && sent_bit (suc k) (cond t (get_or m a 0) b)) z in
      let on : SendingAt m (x ∷ c) (suc (suc k)) b = (
        h.0,
        λ g.
            let both = and_split (is_left_high x) (all_high (take (suc k) c)) g in
            let t : d ≡ true = sym u ∙ both.0 in
            let line = l' ∙ ap (λ (v : Bool). v && sent_bit (suc k) b) t in
            ap (λ (n : ℕ). pushed n (left x).line) (h.1 both.1) ∙ ap (pushed (shown_so (suc k) b)) line,
      ) in
      subst (λ (t : Bool). SendingAt m (x ∷ c) (suc (suc k)) (cond t (get_or m a 0) b)) (sym z) on

-- the line of a Clock at which a byte of the memory goes out
sent_line : (k b : ℕ) (m : Cells) (d : Bool) → k ≤ 7
    → (sent_at (place_at k) (memory_read fm3130.fetch fm3130.step_on) m k b d).line ≡ (d && sent_bit k (cond (eqb k 0) (byte_at m) b))
unfolding sent_at place_at
sent_line k b m d h =
    by_test (eqb k 0) (λ t. let n = eqb-true k 0 t in rw (t, n))
    (λ t. by_test (ltb k 7) (λ u. rw (t, u))
    (λ u. let l = ltb-false k 7 u in let n : k ≡ 7 = omega arith in rw (t, u, eq-eqb k 7 n, n)))

-- a Clock of a byte from the memory: the line, and the memory
read_line : (p : Phase) (m : Cells) (e : Part.Companion) (d : Bool) (k b : ℕ) → p ≡ Read Memory k b → k ≤ 7
    → (clocked fm3130 p m e d).line ≡ (d && sent_bit k (cond (eqb k 0) (byte_at m) b))
unfolding clocked
read_line p m e d k b q h = rw q (sent_line k b m d h)

read_bytes : (p : Phase) (m : Cells) (e : Part.Companion) (d : Bool) (k b : ℕ) → p ≡ Read Memory k b
    → (clocked fm3130 p m e d).state.memory.bytes ≡ m.bytes
unfolding clocked
read_bytes p m e d k b q = rw q (fetch_bytes memory_size m k b d)

module _ (x : Moment) (c : History) where
  abbrev s : State
  s = x.state

  abbrev Next : Power → Happening → Type 0
  Next p y =
      At (SendingAt (event_on p y s x.memory).memory (cond (is_clock y) (x ∷ c) c)) (event_on p y s x.memory).state.phase

  sending_next : (p : Power) (y : Happening) → (left x).line ≡ (event_on p y s x.memory).line → is_left_high x ≡ is_high_clock y
      → power_within p s.phase ≡ true → At (SendingAt x.memory c) s.phase → Next p y
  unfolding event_on lined power_within
  sending_next On (on_wire start) l u w h = tt
  sending_next On (on_wire stop) l u w h = tt
  sending_next On (on_wire (clock d)) l u w h =
      let cells = lent x.memory s.address in
      let after = (clocked fm3130 s.phase cells s.companion d).state.memory.bytes in
      clock_at (SendingAt after (x ∷ c)) tt s.phase cells s.companion d
      (λ k b q n.
      let now : SendingAt x.memory c k b = subst (At (SendingAt x.memory c)) q h in
      let more = sending_more x c x.memory d k b (l ∙ read_line s.phase cells s.companion d k b q n) u now in
      subst (λ (m : List ℕ). SendingAt m (x ∷ c) (suc k) (cond (eqb k 0) (byte_at cells) b))
      (sym (read_bytes s.phase cells s.companion d k b q)) more)
  sending_next On (beat t') l u w h = h
  sending_next On lost l u w h = tt
  sending_next On gone l u w h = tt
  sending_next On returned l u w h = h
  sending_next Backup (on_wire y) l u w h = idle_at (SendingAt x.memory (cond (is_clock (on_wire y)) (x ∷ c) c)) s.phase w
  sending_next Backup (beat t') l u w h = h
  sending_next Backup lost l u w h = h
  sending_next Backup gone l u w h = tt
  sending_next Backup returned l u w h = h
  sending_next Off (on_wire y) l u w h = idle_at (SendingAt x.memory (cond (is_clock (on_wire y)) (x ∷ c) c)) s.phase w
  sending_next Off (beat t') l u w h = h
  sending_next Off lost l u w h = h
  sending_next Off gone l u w h = h
  sending_next Off returned l u w h = h

-- what every event keeps: the record stands, and so does the byte under way
record Here (s : State) (m : List ℕ) (h : History) : Type 0 where
  pub proving : Proving
  pub stands : Stands proving s h
  pub sending : At (SendingAt m (clocks_in h)) s.phase

here_next : (s : State) (m : List ℕ) (e : ℕ) (h : History) → Here s m h
    → Here (event_of s m e).state (event_of s m e).memory (moment s m e ∷ h)
unfolding clocks_in
here_next s m e h g =
    record {
      proving = step_of g.proving s e (answered_by (event_of s m e));
      stands = stands_next g.proving s m e h g.stands;
      sending =
          sending_next (moment s m e) (clocks_in h) s.power (happening e) refl refl g.stands.follows.awake g.sending;
    }

-- a history whose moments follow each other, up to now, with that kept at each
abbrev Whole : State → List ℕ → History → Type 0
Whole s m [] = Unit {0}
Whole s m (x ∷ h) = (m ≡ (left x).memory) × (Here x.state x.memory h × Whole x.state x.memory h)

abbrev Kept : State → List ℕ → History → Type 0
Kept s m h = Here s m h × Whole s m h

kept_next : (s : State) (m : List ℕ) (e : ℕ) (h : History) → Kept s m h
    → Kept (event_of s m e).state (event_of s m e).memory (moment s m e ∷ h)
kept_next s m e h g = (here_next s m e h g.0, (refl, (g.0, g.1)))

-- an event that is no write to an address leaves its byte
changed_keeps : (s : State) (m : List ℕ) (e a : ℕ) (m' : List ℕ) → Change s m (happening e) m'
    → not (writes_to a (moment s m e)) ≡ true → get_or m' a 0 ≡ get_or m a 0
changed_keeps s m e a m' (same q) h = ap (λ (l : List ℕ). get_or l a 0) q
changed_keeps s m e a m' (eighth b d on p y f q) h =
    ap (λ (l : List ℕ). get_or l a 0) q
    ∙ get_or-set_other m s.address a (pushed b d) 0
    (λ n. let z : not true ≡ true = rw (y, p, eq-eqb s.address a (sym n)) at h in no z)

event_keeps : (x : Moment) (a : ℕ) → not (writes_to a x) ≡ true → get_or (left x).memory a 0 ≡ get_or x.memory a 0
event_keeps x a h = changed_keeps x.state x.memory x.event a (left x).memory (only_eighth_clocks x.state x.memory x.event) h

-- the byte now is the one before the moment at a cut
record Since (a : ℕ) (m : List ℕ) (x : Moment) (h : History) : Type 0 where
  pub here : Here x.state x.memory h
  pub byte : get_or m a 0 ≡ get_or (left x).memory a 0

since_keeps : (a : ℕ) (s : State) (m : List ℕ) (since : History) (x : Moment) (h : History) → Whole s m (since ++ (x ∷ h))
    → no_writes a since ≡ true → Since a m x h
since_keeps a s m [] x h w n = record { here = w.1.0; byte = ap (λ (l : List ℕ). get_or l a 0) w.0 }
since_keeps a s m (y ∷ since) x h w n =
    let both = and_split (not (writes_to a y)) (no_writes a since) n in
    let older = since_keeps a y.state y.memory since x h w.1.1 both.1 in
    record {
      here = older.here;
      byte = ap (λ (l : List ℕ). get_or l a 0) w.0 ∙ (event_keeps y a both.0 ∙ older.byte);
    }

-- the ninth clock of a read stores nothing
read_stores_nothing : (x : Moment) (a k b : ℕ) → x.state.phase ≡ Read Memory k b → not (writes_to a x) ≡ true
read_stores_nothing x a k b p = rw (p, and-false (is_clock (happened x)))

pub holds_one : HoldsOne
holds_one at s m es i r high unwritten small =
    let now = (run_of s m es).memory in
    let c = clocks_in r.before in
    let start : Kept s m [] = (record { proving = begun; stands = stands_begun s i; sending = rw i tt }, tt) in
    let all = (along Kept kept_next s m es [] start).1 in
    let w = subst (Whole (run_of s m es).state now) r.cut all in
    let z = since_keeps at (run_of s m es).state now r.since r.ninth r.before w unwritten in
    let n = ninth_of_lem (SendingAt r.ninth.memory c) r.ninth r.before at 1 r.gave z.here.sending in
    let same = z.byte ∙ event_keeps r.ninth at (read_stores_nothing r.ninth at 8 n.byte n.phase) in
    let held : get_or now at 0 ≡ n.byte = same ∙ (ap (λ (a : ℕ). get_or r.ninth.memory a 0) (sym n.address) ∙ sym n.here.0) in
    let few : n.byte < 256 = subst (λ (b : ℕ). b < 256) held small in
    held ∙ (sym (pushed_sent n.byte few) ∙ (sym (n.here.1 high) ∙ n.value))
