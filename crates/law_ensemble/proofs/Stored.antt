-- SPDX-License-Identifier: Apache-2.0
-- Each device of a set does as alone, and alone it is a part: so the laws of `law_parts` are those of each device. On the shared line: of
-- the devices only the one that writes is in a transfer, and without a Start the others stay idle, so the line is its.
use Prim.Native.Nat.{ℕ, ◌+◌, ◌<◌}
use mathlib.Core.Path.{◌≡◌, refl, sym, ap, subst, ◌∙◌}
use mathlib.Core.Bool.{Bool, true, false, false≢true}
use mathlib.Core.List.{List, [], ◌∷◌, ◌++◌}
use native.Mathlib.Omega.{arith}
use lib.Dec.{eqb, ltb}
use lib.ListN.{length, get_or}
use borrow.Author.Tests.{ne_eqb, eqb-true, ltb-true}
use Rattle.bits.proofs.Cases.{by_cond}
use Rattle.wire.proofs.Tests.{and_split}
use Rattle.wire.specs.Machine.{start, stop, clock, lined, clocked}
use Rattle.wire.specs.declared.Phase.{Phase}
use Rattle.wire.specs.declared.Phase.TheVariants.{Idle, Slave, AddressHigh, AddressLow, Pointer, Write, Read}
use Rattle.fm31_counters.specs.declared.Counters.{Counters}
use Rattle.bus.specs.Select.{slave_names_for}
use Rattle.bus.specs.Happening.{Happening, on_wire, beat, lost, gone, returned, happening, edges}
use Rattle.bus.specs.Event.{event_on}
use Rattle.bus.specs.declared.Bus.{Bus}
use Rattle.bus.specs.declared.Power.{Power}
use Rattle.bus.specs.declared.Power.TheVariants.{On, Backup, Off}
use Rattle.fm31.specs.Chip.{companion31}
use Rattle.fm31.proofs.Entry.{limits_of}
use Rattle.law_merging.specs.Merge.{keep_if}
use Rattle.law_parts.specs.Events.{clock_event}
use Rattle.law_parts.specs.Events as parts
use Rattle.law_parts.specs.Stored.{AtData, StoredAt}
use Rattle.law_parts.proofs.Events.{edge_heard}
use Rattle.law_parts.proofs.Stored as stored
use Rattle.law_parts.proofs.Protected as kept
use Rattle.law_larger.proofs.Memory.{beaten_guard}
use Rattle.law_wired.proofs.Pulls.{Clear, this_idle, that_idle, both_called}
use Rattle.set_event.specs.Set.{Held, Together, Place, first, second, third, fourth, number_of, at, hears, own_byte, size_in, select_in}
use Rattle.set_event.specs.Set.{done_in, after_own, after_at, line_at, after_event, line_to, after_events}
use Rattle.set_event.specs.Make.{is_lent, is_within}
use Rattle.set_event.specs.Outcome.{SetFit}
use Rattle.set_event.proofs.Facts.{of_four, here_is, place_has}
use Rattle.set_event.proofs.Ears.{heard_here}
use Rattle.law_set.proofs.Heard.{at_after, hears_all}
use Rattle.law_ensemble.specs.Alone.{heard_by, alone, counters_in}
use Rattle.law_ensemble.specs.Transaction.{same_place, Here, Unlike}
use Rattle.law_ensemble.specs.Stand.{bus_in, Stands}
use Rattle.law_ensemble.specs.Stored.{NoStart, SetStores, SetKeeps}
use Rattle.law_ensemble.proofs.Alone.{as_alone}
use Rattle.law_ensemble.proofs.Stand.{calm_of, count_kept, here_before}

-- a device alone is a part
abbrev whole : (h : Held) → parts.Held (size_in h) (slave_names_for (select_in h)) companion31
whole h = record { bus = bus_in h; companion = counters_in h; memory = h.memory }

abbrev as_part : (h : Held) → List ℕ → parts.Held (size_in h) (slave_names_for (select_in h)) companion31
as_part h es = parts.after_events (size_in h) (slave_names_for (select_in h)) companion31 (whole h) es

alone_memory : (h : Held) (es : List ℕ) → (alone h es).memory ≡ (as_part h es).memory
alone_memory h [] = refl
alone_memory h (e ∷ es) = alone_memory (after_own h e) es

alone_counters : (h : Held) (es : List ℕ) → counters_in (alone h es) ≡ (as_part h es).companion
alone_counters h [] = refl
alone_counters h (e ∷ es) = alone_counters (after_own h e) es

alone_line : (h : Held) (es : List ℕ) (e : ℕ)
    → (done_in (alone h es) e).line
    ≡ (parts.event (size_in h) (slave_names_for (select_in h)) companion31 (as_part h es) e).line
alone_line h [] e = refl
alone_line h (x ∷ es) e = alone_line (after_own h x) es e

-- what a device hears of two lists
keep_append : (b : Bool) (e : ℕ) (xs ys : List ℕ) → keep_if b e (xs ++ ys) ≡ keep_if b e xs ++ ys
keep_append true e xs ys = refl
keep_append false e xs ys = refl

heard_append : (n v : ℕ) (xs ys : List ℕ) → heard_by n v (xs ++ ys) ≡ heard_by n v xs ++ heard_by n v ys
heard_append n v [] ys = refl
heard_append n v (e ∷ xs) ys =
    ap (keep_if (hears n v e) (own_byte e)) (heard_append n v xs ys)
    ∙ keep_append (hears n v e) (own_byte e) (heard_by n v xs) (heard_by n v ys)

pub set_keeps : SetKeeps
set_keeps t v es a h =
    let k = at v t in
    let own = heard_by t.set.count (number_of v) es in
    ap (λ (z : Held). get_or z.memory a 0) (as_alone t v es)
    ∙ (ap (λ (m : List ℕ). get_or m a 0) (alone_memory k own)
    ∙ kept.protected_kept (size_in k) (slave_names_for (select_in k)) companion31 (whole k) own a
    (λ done rest e q. rw (← alone_counters k done) (h done rest e q)))

-- an event that is no Start leaves an idle device idle
abbrev is_start : Happening → Bool
is_start (on_wire start) = true
is_start (on_wire stop) = false
is_start (on_wire (clock d)) = false
is_start (beat b) = false
is_start lost = false
is_start gone = false
is_start returned = false

abbrev NotStart : Happening → Type 0
NotStart x = is_start x ≡ false

not_start : (e : ℕ) → (e ≡ 0 → ⊥) → NotStart (happening edges e)
unfolding happening
not_start e n =
    rw (ne_eqb e 0 n)
    (by_cond NotStart (eqb e 1) (λ h. refl)
    (λ h. by_cond NotStart (eqb e 2) (λ h. refl)
    (λ h. by_cond NotStart (eqb e 3) (λ h. refl)
    (λ h. by_cond NotStart (eqb e 4) (λ h. refl)
    (λ h. by_cond NotStart (eqb e 5) (λ h. refl)
    (λ h. by_cond NotStart (eqb e 6) (λ h. refl)
    (λ h. by_cond NotStart (eqb e 7) (λ h. refl)
    (λ h. by_cond NotStart (eqb e 8) (λ h. refl) (λ h. refl)))))))))

module _ (size select a : ℕ) (c : Counters) (m : List ℕ) where
  abbrev idle : Power → Bus
  idle p = record { power = p; phase = Idle; address = a }

  idle_on : (p : Power) (x : Happening) → NotStart x
      → (event_on size (slave_names_for select) companion31 p x (idle p) c m).bus.phase ≡ Idle
  unfolding event_on lined clocked
  idle_on On (on_wire start) e = absurd (false≢true (sym e))
  idle_on On (on_wire stop) e = refl
  idle_on On (on_wire (clock d)) e = refl
  idle_on On (beat b) e = refl
  idle_on On lost e = refl
  idle_on On gone e = refl
  idle_on On returned e = refl
  idle_on Backup (on_wire x) e = refl
  idle_on Backup (beat b) e = refl
  idle_on Backup lost e = refl
  idle_on Backup gone e = refl
  idle_on Backup returned e = refl
  idle_on Off (on_wire x) e = refl
  idle_on Off (beat b) e = refl
  idle_on Off lost e = refl
  idle_on Off gone e = refl
  idle_on Off returned e = refl

  -- and a Clock's line is the master's
  idle_line : (p : Power)
      → (event_on size (slave_names_for select) companion31 p (on_wire (clock true)) (idle p) c m).line ≡ true
  unfolding event_on lined clocked
  idle_line On = refl
  idle_line Backup = refl
  idle_line Off = refl

abbrev IsIdle : Held → Type 0
IsIdle h = (bus_in h).phase ≡ Idle

-- a bus that is idle, by its fields
pub idle_bus : (u : Bus) → u.phase ≡ Idle → u ≡ record { power = u.power; phase = Idle; address = u.address }
idle_bus u e = λ i. record { power = u.power; phase = e i; address = u.address }

idle_own : (h : Held) (e : ℕ) → (e ≡ 0 → ⊥) → IsIdle h → IsIdle (after_own h e)
idle_own h e n q =
    let u = bus_in h in
    ap (λ (z : Bus). (event_on (size_in h) (slave_names_for (select_in h)) companion31 u.power (happening edges e) z (counters_in h)
    h.memory).bus.phase) (idle_bus u q)
    ∙ idle_on (size_in h) (select_in h) u.address (counters_in h) h.memory u.power (happening edges e) (not_start e n)

idle_high : (h : Held) → IsIdle h → (done_in h 3).line ≡ true
unfolding happening
idle_high h q =
    let u = bus_in h in
    ap (λ (z : Bus). (event_on (size_in h) (slave_names_for (select_in h)) companion31 u.power (on_wire (clock true)) z (counters_in h)
    h.memory).line) (idle_bus u q)
    ∙ idle_line (size_in h) (select_in h) u.address (counters_in h) h.memory u.power

own_no_start : (e : ℕ) → (e ≡ 0 → ⊥) → own_byte e ≡ 0 → ⊥
unfolding own_byte
own_no_start e n = by_cond (λ (x : ℕ). x ≡ 0 → ⊥) (ltb e 8) (λ h. n) (λ h q. omega arith)

idle_at : (n v : ℕ) (h : Held) (e : ℕ) → (e ≡ 0 → ⊥) → IsIdle h → IsIdle (after_at n v h e)
idle_at n v h e x q =
    by_cond IsIdle (hears n v e) (λ t. idle_own h (own_byte e) (own_no_start e x) q) (λ t. q)

idle_all : (t : Together) (v : Place) (es : List ℕ) → NoStart es → IsIdle (at v t) → IsIdle (at v (after_events t es))
idle_all t v [] n q = q
idle_all t v (e ∷ es) n q =
    idle_all (after_event t e) v es n.1
    (subst IsIdle (sym (at_after t v e)) (idle_at t.set.count (number_of v) (at v t) e n.0 q))

-- beside a device that writes each other is idle
abbrev is_writing : Phase → Bool
is_writing Idle = false
is_writing (Slave k b) = false
is_writing (AddressHigh k b) = false
is_writing (AddressLow h k b) = false
is_writing (Pointer k b) = false
is_writing (Write s k b) = true
is_writing (Read s k b) = false

beside_writing : {p q : Phase} → Clear p q → is_writing p ≡ true → q ≡ Idle
beside_writing this_idle e = absurd (false≢true e)
beside_writing that_idle e = refl
beside_writing (both_called k b h) e = absurd (false≢true e)

-- one of four lines is low where all of them together are, and the others high
pulled : (x all : Bool) → (x ≡ true → all ≡ true) → all ≡ false → x ≡ false
pulled true all f e = absurd (false≢true (sym e ∙ f refl))
pulled false all f e = refl

module _ (t : Together) (v : Place) (byte : List ℕ) (unlike : Unlike t) (stands : Stands t) (here : Here t v)
    (begins : AtData (bus_in (at v t))) (quiet : NoStart byte)
  where
    abbrev u : Together
    u = after_events t byte

    abbrev n : ℕ
    n = u.set.count

    -- every other device leaves the line of a Clock to the master
    other_high : (i : Place) → same_place v i ≡ false → line_at n (number_of i) (at i u) 3 ≡ true
    unfolding own_byte
    other_high i apart =
        by_cond (λ (x : Bool). x ≡ true) (hears n (number_of i) 3)
        (λ h.
        let there = here_before t byte i (heard_here n (number_of i) 3 h) in
        let clear = (calm_of t unlike stands v i here there apart).clear in
        let rests = beside_writing clear (ap is_writing begins.phase) in
        idle_high (at i u) (idle_all t i byte quiet rests))
        (λ h. refl)

    there_too : Here u v
    there_too = subst (λ (k : ℕ). ltb (number_of v) k ≡ true) (sym (count_kept t byte)) here

    own_line : line_at n (number_of v) (at v u) 3 ≡ (done_in (at v u) 3).line
    unfolding own_byte
    own_line = rw (hears_all n (number_of v) 3 (ltb-true (number_of v) n there_too) (omega arith)) refl

-- so the line is that of the device which writes
line_is_its : (t : Together) (v : Place) (byte : List ℕ) → Unlike t → Stands t → Here t v → AtData (bus_in (at v t)) → NoStart byte
    → line_to (after_events t byte) 3 ≡ false → (done_in (at v (after_events t byte)) 3).line ≡ false
line_is_its t v byte un st he da qu low = sym (own_line t v byte un st he da qu) ∙ by_place v he da
  where
    l : Place → Bool
    l i = line_at (after_events t byte).set.count (number_of i) (at i (after_events t byte)) 3

    by_place : (v : Place) → Here t v → AtData (bus_in (at v t)) → l v ≡ false
    by_place first h d =
        let o = other_high t first byte un st h d qu in
        pulled (l first) _ (λ x. of_four (l first) (l second) (l third) (l fourth) x (o second refl) (o third refl) (o fourth refl)) low
    by_place second h d =
        let o = other_high t second byte un st h d qu in
        pulled (l second) _ (λ x. of_four (l first) (l second) (l third) (l fourth) (o first refl) x (o third refl) (o fourth refl)) low
    by_place third h d =
        let o = other_high t third byte un st h d qu in
        pulled (l third) _ (λ x. of_four (l first) (l second) (l third) (l fourth) (o first refl) (o second refl) x (o fourth refl)) low
    by_place fourth h d =
        let o = other_high t fourth byte un st h d qu in
        pulled (l fourth) _ (λ x. of_four (l first) (l second) (l third) (l fourth) (o first refl) (o second refl) (o third refl) x) low

-- the ninth clock, as the device hears it
ninth_heard : (n v : ℕ) (d : Bool) → v < n → heard_by n v (clock_event d ∷ []) ≡ clock_event d ∷ []
unfolding own_byte
ninth_heard n v true l = rw (hears_all n v 3 l (omega arith)) refl
ninth_heard n v false l = rw (hears_all n v 2 l (omega arith)) refl

-- its address lies inside its memory
inside : (t : Together) (v : Place) → SetFit t → Here t v → (bus_in (at v t)).address < length (at v t).memory
unfolding is_lent is_within
inside t v f h =
    let k = at v t in
    let a = here_is t.set.count (number_of v) (is_lent k) (place_has is_lent t f.lent v) h in
    let b = here_is t.set.count (number_of v) (is_within k) (place_has is_within t f.within v) h in
    let e = eqb-true (length k.memory) (size_in k) a in
    rw e (limits_of (size_in k) (select_in k) k.member.state (and_split (ltb (select_in k) 4) _ b).1).bus.address

pub set_stores : SetStores
set_stores t v byte w d un st fit he da qu r low =
    let k = at v t in
    let n = t.set.count in
    let own = heard_by n (number_of v) byte in
    let pulls =
    sym (alone_line k own 3)
    ∙ (ap (λ (z : Held). (done_in z 3).line) (sym (as_alone t v byte)) ∙ line_is_its t v byte un st he da qu low) in
    let left : (at v (after_events t (byte ++ (clock_event d ∷ [])))).memory ≡ (as_part k (own ++ (clock_event d ∷ []))).memory =
    ap (λ (z : Held). z.memory) (as_alone t v (byte ++ (clock_event d ∷ [])))
    ∙ (ap (λ (es : List ℕ). (alone k es).memory)
    (heard_append n (number_of v) byte (clock_event d ∷ [])
    ∙ ap (λ (x : List ℕ). own ++ x) (ninth_heard n (number_of v) d (ltb-true (number_of v) n he)))
    ∙ alone_memory k (own ++ (clock_event d ∷ []))) in
    subst (StoredAt k.memory (bus_in k).address w) (sym left)
    (stored.acknowledged_stored (size_in k) (slave_names_for (select_in k)) companion31 beaten_guard edge_heard (whole k) [] own w d
    (inside t v fit he) da r pulls)
