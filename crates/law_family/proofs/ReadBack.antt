-- SPDX-License-Identifier: Apache-2.0
-- A register written and read back: the two transactions lead from state to state, and the byte that is then sent is the register,
-- which keeps of the byte what the bits are worth.
use Prim.Native.Nat.{ℕ, ◌+◌, ◌-◌, ◌*◌, ◌≤◌, ◌<◌}
use mathlib.Core.Path.{◌≡◌, refl, sym, ap, subst, ◌∙◌}
use mathlib.Core.Bool.{Bool, true, false, cond, ◌&&◌}
use mathlib.Core.List.{List, [], ◌∷◌, ◌++◌}
use native.Mathlib.Omega.{arith}
use lib.Dec.{leb}
use lib.ListN.{get_or, set}
use borrow.Author.Tests.{leb-true}
use Rattle.bits.specs.Weight.{has}
use Rattle.bits.proofs.Cases.{Below, none, ◌then◌, below}
use Rattle.wire.specs.HighFirst.{sent_bits}
use Rattle.wire.specs.Whole.{nine_bits, eight}
use Rattle.wire.specs.declared.Side.TheVariants.{Companion}
use Rattle.wire.specs.declared.Phase.{Phase}
use Rattle.wire.specs.declared.Phase.TheVariants.{Idle, Write, Read}
use Rattle.wire.proofs.Tests.{by_test}
use Rattle.wire.proofs.Whole.{made}
use Rattle.fm31_counters.specs.Map.{SERIAL}
use Rattle.fm31_counters.specs.Change.{with_address}
use Rattle.fm31_counters.specs.Registers.{register_bytes, registers_of}
use Rattle.fm31_counters.specs.Write.{kept_at, is_locked, registers_after, written_of}
use Rattle.fm31_counters.specs.Part.{store_of, load_of}
use Rattle.fm31_counters.specs.declared.Counters.{Counters}
use Rattle.fm31_counters.proofs.Written.{locked_write, open_write_lem}
use Rattle.fm31_counters.specs.declared.Registers.{Registers}
use Rattle.fm31.specs.Run.{run_of}
use Rattle.fm31.specs.declared.State.{State}
use Rattle.wire_clocks.specs.Clocks.{nine_clocks, clocks_of, lines_of}
use Rattle.law_family.specs.Seen.{register_list}
use Rattle.law_family.specs.Named.{open_read}
use Rattle.law_family.specs.Fixed.{is_frozen}
use Rattle.law_family.specs.ReadBack.{serial_kept, kept_list, kept_of, write_one, ReadBack}
use Rattle.law_family.proofs.Runs.{on_bus, on_bus_lem, Leads, leads_then, stop_leads}
use Rattle.law_family.proofs.Bits.{flags_bits_lem, watchdog_bits_lem, control_bits_lem, counting_bits_lem}
use Rattle.law_family.proofs.Written.{eighth, ninth, no_lock}
use Rattle.law_family.proofs.Fixed.{register_run, loaded_open}
use Rattle.law_family.proofs.Named.{write_opens, read_opens}

-- what stands at the address after a write
module _ (r : Registers) (b : ℕ) (small : b < 256) where
  -- after a write at a place, where it is stored
  abbrev put : ℕ → Registers
  put k = registers_of (set (register_bytes r) k (kept_at r (k + 9) b))

  abbrev Keeps : ℕ → Type 0
  Keeps k = get_or (register_list (cond (is_locked r && leb SERIAL (k + 9)) r (put k))) k 0 ≡ get_or (kept_list r b) k 0

  -- 11h to 18h, locked or not
  by_lock : (y : Registers) (f : Registers → ℕ) → f y ≡ b → f (cond (is_locked r && true) r y) ≡ serial_kept r (f r) b
  by_lock y f q = by_test (is_locked r) (λ e. rw e refl) (λ e. rw e q)

  -- below 11h
  unlocked : (y : Registers) (f : Registers → ℕ) (new : ℕ) → f y ≡ new → f (cond (is_locked r && false) r y) ≡ new
  unlocked y f new q = rw (no_lock (is_locked r)) q

  keeps : (k : ℕ) → k < 16 → Keeps k
  keeps k h = below Keeps each k h
    where
      each : Below Keeps 16
      each =
          none
          then unlocked (put 0) (λ x. get_or (register_list x) 0 0) _ (flags_bits_lem b r.flags)
          then unlocked (put 1) (λ x. get_or (register_list x) 1 0) _ (watchdog_bits_lem b small)
          then unlocked (put 2) (λ x. get_or (register_list x) 2 0) _ (control_bits_lem b r.control)
          then unlocked (put 3) (λ x. get_or (register_list x) 3 0) _ (counting_bits_lem b)
          then unlocked (put 4) (λ x. get_or (register_list x) 4 0) _ refl then unlocked (put 5) (λ x. get_or (register_list x) 5 0) _ refl
          then unlocked (put 6) (λ x. get_or (register_list x) 6 0) _ refl then unlocked (put 7) (λ x. get_or (register_list x) 7 0) _ refl
          then by_lock (put 8) (λ x. get_or (register_list x) 8 0) refl then by_lock (put 9) (λ x. get_or (register_list x) 9 0) refl
          then by_lock (put 10) (λ x. get_or (register_list x) 10 0) refl then by_lock (put 11) (λ x. get_or (register_list x) 11 0) refl
          then by_lock (put 12) (λ x. get_or (register_list x) 12 0) refl then by_lock (put 13) (λ x. get_or (register_list x) 13 0) refl
          then by_lock (put 14) (λ x. get_or (register_list x) 14 0) refl then by_lock (put 15) (λ x. get_or (register_list x) 15 0) refl

  kept_at_lem : (a : ℕ) → 9 ≤ a → a ≤ 24 → get_or (register_list (registers_after r a b)) (a - 9) 0 ≡ kept_of r a b
  kept_at_lem a l h =
      let e : a - 9 + 9 ≡ a = omega arith in
      subst
      (λ (z : ℕ).
      get_or (register_list (cond (is_locked r && leb SERIAL z) r (registers_of (set (register_bytes r) (a - 9) (kept_at r z b))))) (a - 9) 0
      ≡ get_or (kept_list r b) (a - 9) 0)
      e (keeps (a - 9) (omega arith))

  -- 0Ch stays where a place past it is written
  past_counting : (x k : ℕ) → k < 16 → 4 ≤ k → (registers_of (set (register_bytes r) k x)).counting ≡ r.counting
  past_counting x k h = below Past each k h
    where
      Past : ℕ → Type 0
      Past k = 4 ≤ k → (registers_of (set (register_bytes r) k x)).counting ≡ r.counting

      each : Below Past 16
      each =
          none then (λ l. absurd (omega arith)) then (λ l. absurd (omega arith)) then (λ l. absurd (omega arith))
          then (λ l. absurd (omega arith)) then (λ l. refl) then (λ l. refl) then (λ l. refl) then (λ l. refl)
          then (λ l. refl) then (λ l. refl) then (λ l. refl) then (λ l. refl)
          then (λ l. refl) then (λ l. refl) then (λ l. refl) then (λ l. refl)

  counting_stays : (a : ℕ) → 13 ≤ a → a ≤ 24 → (registers_after r a b).counting ≡ r.counting
  counting_stays a l h =
      by_test (is_locked r && leb SERIAL a) (λ e. ap (λ (x : Registers). x.counting) (locked_write r a b e))
      (λ e. ap (λ (x : Registers). x.counting) (open_write_lem r a b e) ∙ past_counting (kept_at r a b) (a - 9) (omega arith) (omega arith))

-- the companion once the byte was written and the address is the register's again
abbrev written_at : Counters → ℕ → ℕ → Counters
written_at c a b = with_address (store_of (with_address c a) b).companion a

module _ (c : Counters) (a b : ℕ) (l : 9 ≤ a) (h : a ≤ 24) (small : b < 256) (rc : has c.registers.counting 8 ≡ false) where
  not_frozen : is_frozen (written_at c a b) ≡ false
  unfolding store_of written_of
  not_frozen =
      by_test (leb 13 a)
      (λ t.
      let e = counting_stays c.registers b small a (leb-true 13 a t) h in
      ap (λ (x : ℕ). has x 8 && (leb 13 a && leb a 16)) e ∙ rw rc refl)
      (λ f. rw f (no_lock (has (registers_after c.registers a b).counting 8)))

  sent_back : load_of (written_at c a b) ≡ kept_of c.registers a b
  unfolding store_of written_of
  sent_back = loaded_open (written_at c a b) not_frozen l h ∙ kept_at_lem c.registers b small a l h

-- the two transactions
module _ (size select : ℕ) (p : Phase) (k : ℕ) (m : List ℕ) (c : Counters) (a b : ℕ) (s : select ≤ 3) (l : 9 ≤ a) (h : a ≤ 24)
    (small : b < 256) where
  abbrev stored : Counters
  stored = (store_of (with_address c a) b).companion

  byte_goes : Leads size select (on_bus (Write Companion 0 0) k (with_address c a)) m (nine_clocks b true)
      (on_bus (Write Companion 0 0) k stored) m (nine_bits b false)
  byte_goes =
      leads_then size select
      (rw (made b small) at (eighth size select k m (with_address c a) [] [] [] [] [] [] [] [] b))
      (ninth size select k m stored b true)

  abbrev opening : List Bool
  opening = true ∷ (nine_bits (0xD0 + 2 * select) false ++ nine_bits a false)

  back : Leads size select (on_bus p k c) m (write_one select a b ++ open_read select a)
      (on_bus (Read Companion 0 0) k (with_address stored a)) m
      ((opening ++ (nine_bits b false ++ (true ∷ []))) ++ (opening ++ (true ∷ nine_bits (0xD1 + 2 * select) false)))
  back =
      leads_then size select
      (leads_then size select (write_opens size select p k m c a s l h)
      (leads_then size select byte_goes (stop_leads size select (Write Companion 0 0) k stored m)))
      (read_opens size select Idle k m stored a s l h)

pub read_back : ReadBack
read_back size select s m a b on sel l h small rc =
    let c = s.counters in
    let k = s.bus.address in
    let ds = eight true true true true true true true true in
    let e = back size select s.bus.phase k m c a b sel l h small in
    let start = on_bus_lem s on refl in
    let reads = register_run size select k m (written_at c a b) 0 [] [] [] [] [] [] [] [] true true true true true true true true in
    subst
    (λ (z : State). let opened = run_of size select z m (write_one select a b ++ open_read select a) in
    lines_of (run_of size select opened.state opened.memory (clocks_of ds)).answers ≡ sent_bits (kept_of c.registers a b))
    (sym start)
    (rw (e.state, e.memory) (reads.lines ∙ ap sent_bits (sent_back c a b l h small rc)))
