-- SPDX-License-Identifier: Apache-2.0
-- Slave bytes and address bytes: a byte's nine clocks, by what takes it. Which bytes name a device is a table of four times 256,
-- computed.
use Prim.Native.Nat.{ℕ, zero, suc, ◌+◌, ◌*◌, ◌≤◌, ◌<◌}
use mathlib.Core.Path.{◌≡◌, refl, sym, ap, subst, ◌∙◌}
use mathlib.Core.Bool.{Bool, true, false, cond, ◌&&◌, not}
use mathlib.Core.List.{List, [], ◌∷◌, ◌++◌}
use native.Mathlib.Omega.{arith}
use lib.Dec.{leb, eqb}
use borrow.Author.Tests.{eqb-true, eqb-false, le-leb}
use Rattle.bits.proofs.Cases.{Below, none, ◌then◌, below}
use Rattle.wire.specs.Bits.{place_at}
use Rattle.wire.specs.HighFirst.{sent_bits}
use Rattle.wire.specs.Slave.{slave_names, answers, opened}
use Rattle.wire.specs.Clock.{kept, received_at}
use Rattle.wire.specs.Memory.{lent}
use Rattle.wire.specs.Machine.{Parts, clocked, lined}
use Rattle.wire.specs.Whole.{nine_bits, clocks_on}
use Rattle.wire.specs.declared.Side.TheVariants.{Companion}
use Rattle.wire.specs.declared.Phase.{Phase}
use Rattle.wire.specs.declared.Phase.TheVariants.{Idle, Slave, Pointer, Write, Read}
use Rattle.wire.proofs.Tests.{by_test, and_split, and_join}
use Rattle.wire.proofs.Whole.{made_of, made, in_phase}
use Rattle.bus.specs.Select.{slave_names_for}
use Rattle.fm31_counters.specs.Change.{with_address}
use Rattle.fm31_counters.specs.Limits.{is_register}
use Rattle.fm31_counters.specs.Part.{aim_of}
use Rattle.fm31_counters.specs.declared.Counters.{Counters}
use Rattle.fm31.specs.Step.{state_of, answer_byte}
use Rattle.fm31.specs.Chip.{event_of}
use Rattle.fm31.specs.Run.{run_of}
use Rattle.fm31.specs.declared.State.{State}
use Rattle.wire_clocks.specs.Clocks.{nine_clocks, lines_of, last_line}
use Rattle.law_family.specs.Seen.{count_list, register_list}
use Rattle.law_family.specs.Named.{is_of, SlaveNamed, Addressed, OfAddresses, TakenAt, AddressTaken, RefusedAt, AddressRefused}
use Rattle.law_family.specs.Named.{open_write, open_read, Opened, OfOpenings, OpensWrite, OpensRead, AnswersLines}
use Rattle.law_family.proofs.Runs.{on_bus, on_bus_lem, part, Leads, leads_then, led, start_leads}
use Rattle.law_family.proofs.Written.{last_of}

-- a test that holds of each number below another
abbrev every_below : (ℕ → Bool) → ℕ → Bool
every_below f zero = true
every_below f (suc n) = f n && every_below f n

at_each : (f : ℕ → Bool) (n : ℕ) → every_below f n ≡ true → (k : ℕ) → k < n → f k ≡ true
at_each f zero e k h = absurd (omega arith)
at_each f (suc n) e k h =
    let b = and_split (f n) (every_below f n) e in
    by_test (eqb k n) (λ t. subst (λ (z : ℕ). f z ≡ true) (sym (eqb-true k n t)) b.0)
    (λ t. let d = eqb-false k n t in at_each f n b.1 k (omega arith))

-- two tests alike
abbrev alike : Bool → Bool → Bool
alike true t = t
alike false t = not t

are_alike : (s t : Bool) → alike s t ≡ true → s ≡ t
are_alike true t e = sym e
are_alike false true e = e
are_alike false false e = refl

-- whom the bytes name, by the table
named : (select b : ℕ) → select ≤ 3 → b < 256 → answers (slave_names_for select b) ≡ is_of select b
unfolding slave_names_for slave_names answers
named select b l h =
    are_alike _ _ (at_each (λ b. alike (answers (slave_names_for select b)) (is_of select b)) 256 (all select (omega arith)) b h)
  where
    each : Below (λ k. every_below (λ b. alike (answers (slave_names_for k b)) (is_of k b)) 256 ≡ true) 4
    each = none then refl then refl then refl then refl

    all : (k : ℕ) → k < 4 → every_below (λ b. alike (answers (slave_names_for k b)) (is_of k b)) 256 ≡ true
    all k h = below (λ k. every_below (λ b. alike (answers (slave_names_for k b)) (is_of k b)) 256 ≡ true) each k h

-- a byte's nine clocks, whether somebody takes it or not
module _ (P : Parts) (m : P.Cells) (c : P.Desk) (b : ℕ) (d : Bool) where
  slave_byte_lem : let n = P.names (made_of b) in
      clocks_on P (in_phase P m c (Slave 0 0)) (nine_bits b d)
      ≡ record { state = in_phase P m c (cond (answers n) (opened n) Idle); lines = nine_bits b (cond (answers n) false d) }
  unfolding lined clocked received_at place_at kept
  slave_byte_lem = by_test (answers (P.names (made_of b))) (λ e. rw e) (λ e. rw e)

  address_byte : let t = P.aim c (made_of b) in
      clocks_on P (in_phase P m c (Pointer 0 0)) (nine_bits b d)
      ≡ record {
        state = record { phase = cond t.good (Write Companion 0 0) Idle; memory = m; companion = t.next };
        lines = nine_bits b (cond t.good false d);
      }
  unfolding lined clocked received_at place_at kept
  address_byte = by_test (P.aim c (made_of b)).good (λ e. rw e) (λ e. rw e)

module _ (size select a : ℕ) (m : List ℕ) (c : Counters) where
  slave_leads : (b : ℕ) (d : Bool) → b < 256
      → let n = slave_names_for select b in
      Leads size select (on_bus (Slave 0 0) a c) m (nine_clocks b d) (on_bus (cond (answers n) (opened n) Idle) a c) m
      (nine_bits b (cond (answers n) false d))
  slave_leads b d h =
      rw (made b h) at (led size select _ _ (nine_bits b d) _ (slave_byte_lem (part size select) (lent m a) c b d))

  slave_named : (b : ℕ) (d : Bool) → select ≤ 3 → b < 256
      → last_line (lines_of (run_of size select (on_bus (Slave 0 0) a c) m (nine_clocks b d)).answers)
      ≡ cond (is_of select b) false d
  slave_named b d l h =
      ap last_line (slave_leads b d h).lines
      ∙ (last_of (sent_bits b) _ ∙ ap (λ (t : Bool). cond t false d) (named select b l h))

  -- an address byte that is taken, and one that is not
  taken_leads : (b : ℕ) (d : Bool) → b < 256 → is_register b ≡ true
      → Leads size select (on_bus (Pointer 0 0) a c) m (nine_clocks b d) (on_bus (Write Companion 0 0) a (with_address c b)) m
      (nine_bits b false)
  unfolding aim_of
  taken_leads b d h e =
      rw (made b h, e) at (led size select _ _ (nine_bits b d) _ (address_byte (part size select) (lent m a) c b d))

  refused_leads : (b : ℕ) (d : Bool) → b < 256 → is_register b ≡ false
      → Leads size select (on_bus (Pointer 0 0) a c) m (nine_clocks b d) (on_bus Idle a c) m (nine_bits b d)
  unfolding aim_of
  refused_leads b d h e =
      rw (made b h, e) at (led size select _ _ (nine_bits b d) _ (address_byte (part size select) (lent m a) c b d))

  -- what a lead says of an address byte
  addressed : {phase : Phase} {line : Bool} {pointer : ℕ} (b : ℕ) (d : Bool)
      → Leads size select (on_bus (Pointer 0 0) a c) m (nine_clocks b d) (on_bus phase a (with_address c pointer)) m (nine_bits b line)
      → Addressed size select (on_bus (Pointer 0 0) a c) m b d phase line pointer
  addressed {line = line} b d l =
      record {
        acknowledge = ap last_line l.lines ∙ last_of (sent_bits b) line;
        then = ap (λ (s : State). s.bus.phase) l.state;
        companion_address = ap (λ (s : State). s.counters.address) l.state;
        registers = ap (λ (s : State). register_list s.counters.registers) l.state;
        snapshot = ap (λ (s : State). count_list s.counters.snapshot) l.state;
      }

pub slave_is_named : SlaveNamed
slave_is_named size select s m b d on e l h =
    subst (λ (z : State). last_line (lines_of (run_of size select z m (nine_clocks b d)).answers) ≡ cond (is_of select b) false d)
    (sym (on_bus_lem s on e)) (slave_named size select s.bus.address m s.counters b d l h)

-- from a state on the bus to every state
of_addresses : (X : ℕ → ℕ → State → List ℕ → ℕ → Bool → Type 0)
    → ((size select a : ℕ) (m : List ℕ) (c : Counters) (b : ℕ) (d : Bool) → b < 256
    → X size select (on_bus (Pointer 0 0) a c) m b d)
    → OfAddresses X
of_addresses X f size select s m b d on e h =
    subst (λ (z : State). X size select z m b d) (sym (on_bus_lem s on e)) (f size select s.bus.address m s.counters b d h)

pub address_taken : AddressTaken
address_taken =
    of_addresses TakenAt
    (λ size select a m c b d h e. addressed size select a m c b d (taken_leads size select a m c b d h e))

pub address_refused : AddressRefused
address_refused =
    of_addresses RefusedAt
    (λ size select a m c b d h e. addressed size select a m c b d (refused_leads size select a m c b d h e))

-- Start, slave byte, address; and again Start, slave byte
module _ (size : ℕ) (a : ℕ) (m : List ℕ) (c : Counters) where
  abbrev SlaveLeads : ℕ → ℕ → Phase → Type 0
  SlaveLeads select b p =
      Leads size select (on_bus (Slave 0 0) a c) m (nine_clocks b true) (on_bus p a c) m (nine_bits b false)

  to_write : (select : ℕ) → select < 4 → SlaveLeads select (0xD0 + 2 * select) (Pointer 0 0)
  unfolding slave_names_for slave_names answers opened
  to_write select l = below (λ k. SlaveLeads k (0xD0 + 2 * k) (Pointer 0 0)) each select l
    where
      each : Below (λ k. SlaveLeads k (0xD0 + 2 * k) (Pointer 0 0)) 4
      each =
          none then slave_leads size 0 a m c 0xD0 true (omega arith) then slave_leads size 1 a m c 0xD2 true (omega arith)
          then slave_leads size 2 a m c 0xD4 true (omega arith) then slave_leads size 3 a m c 0xD6 true (omega arith)

  to_read : (select : ℕ) → select < 4 → SlaveLeads select (0xD1 + 2 * select) (Read Companion 0 0)
  unfolding slave_names_for slave_names answers opened
  to_read select l = below (λ k. SlaveLeads k (0xD1 + 2 * k) (Read Companion 0 0)) each select l
    where
      each : Below (λ k. SlaveLeads k (0xD1 + 2 * k) (Read Companion 0 0)) 4
      each =
          none then slave_leads size 0 a m c 0xD1 true (omega arith) then slave_leads size 1 a m c 0xD3 true (omega arith)
          then slave_leads size 2 a m c 0xD5 true (omega arith) then slave_leads size 3 a m c 0xD7 true (omega arith)

module _ (size select : ℕ) (p : Phase) (a : ℕ) (m : List ℕ) (c : Counters) (b : ℕ) (l : select ≤ 3) (f : 9 ≤ b) (h : b ≤ 24) where
  pub write_opens : Leads size select (on_bus p a c) m (open_write select b) (on_bus (Write Companion 0 0) a (with_address c b)) m
      (true ∷ (nine_bits (0xD0 + 2 * select) false ++ nine_bits b false))
  write_opens =
      leads_then size select (start_leads size select p a c m)
      (leads_then size select (to_write size a m c select (omega arith))
      (taken_leads size select a m c b true (omega arith) (and_join (leb 9 b) (leb b 24) (le-leb 9 b f) (le-leb b 24 h))))

  pub read_opens : Leads size select (on_bus p a c) m (open_read select b) (on_bus (Read Companion 0 0) a (with_address c b)) m
      ((true ∷ (nine_bits (0xD0 + 2 * select) false ++ nine_bits b false)) ++ (true ∷ nine_bits (0xD1 + 2 * select) false))
  read_opens =
      leads_then size select write_opens
      (leads_then size select (start_leads size select (Write Companion 0 0) a (with_address c b) m)
      (to_read size a m (with_address c b) select (omega arith)))

  opened_by_lem : {es : List ℕ} {q : Phase} {ls : List Bool} → Leads size select (on_bus p a c) m es (on_bus q a (with_address c b)) m ls
      → Opened size select (on_bus p a c) m es q b
  opened_by_lem e =
      record {
        power = ap (λ (s : State). s.bus.power) e.state;
        then = ap (λ (s : State). s.bus.phase) e.state;
        address = ap (λ (s : State). s.bus.address) e.state;
        companion_address = ap (λ (s : State). s.counters.address) e.state;
        registers = ap (λ (s : State). register_list s.counters.registers) e.state;
        snapshot = ap (λ (s : State). count_list s.counters.snapshot) e.state;
        memory = e.memory;
      }

-- from a state on the bus to every state
of_openings : (opening : ℕ → ℕ → List ℕ) (q : Phase)
    → ((size select : ℕ) (p : Phase) (a : ℕ) (m : List ℕ) (c : Counters) (b : ℕ) → select ≤ 3 → 9 ≤ b → b ≤ 24
    → Opened size select (on_bus p a c) m (opening select b) q b)
    → OfOpenings opening q
of_openings opening q x size select s m b on l f h =
    subst (λ (z : State). Opened size select z m (opening select b) q b) (sym (on_bus_lem s on refl))
    (x size select s.bus.phase s.bus.address m s.counters b l f h)

pub opens_write : OpensWrite
opens_write =
    of_openings open_write (Write Companion 0 0)
    (λ size select p a m c b l f h. opened_by_lem size select p a m c b l f h (write_opens size select p a m c b l f h))

pub opens_read : OpensRead
opens_read =
    of_openings open_read (Read Companion 0 0)
    (λ size select p a m c b l f h. opened_by_lem size select p a m c b l f h (read_opens size select p a m c b l f h))

-- an answer is the line
at_most : (d : Bool) → answer_byte d ≤ 1
at_most true = omega arith
at_most false = omega arith

pub answers_lines : AnswersLines
unfolding run_of
answers_lines size select s m [] i = omega arith
answers_lines size select s m (e ∷ es) zero = at_most (event_of size select s m e).line
answers_lines size select s m (e ∷ es) (suc i) =
    let d = event_of size select s m e in answers_lines size select (state_of d) d.memory es i
