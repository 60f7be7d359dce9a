-- SPDX-License-Identifier: Apache-2.0
-- A read with ticks and edges between its clocks. The byte is in the phase from the first clock on, and ticks and edges leave the
-- phase; at the eighth the end of the read meets the companion that all of them made.
use Prim.Native.Nat.{ℕ, ◌+◌, ◌-◌, ◌%◌, ◌≤◌, ◌<◌}
use mathlib.Core.Path.{◌≡◌, refl, sym, ap, subst, ◌∙◌}
use mathlib.Core.Bool.{Bool, true, false, ◌&&◌, false≢true}
use mathlib.Core.List.{List}
use native.Mathlib.Omega.{arith}
use lib.Dec.{leb, eqb}
use lib.ListN.{get_or, set}
use borrow.Author.Tests.{leb-true}
use Rattle.bits.specs.Weight.{has}
use Rattle.bits.proofs.Cases.{by_cond, Below, none, ◌then◌, below}
use Rattle.wire.specs.Bits.{place_at}
use Rattle.wire.specs.HighFirst.{sent_bits}
use Rattle.wire.specs.Clock.{sent_at}
use Rattle.wire.specs.Machine.{clocked}
use Rattle.wire.specs.Whole.{eight, lower}
use Rattle.wire.specs.declared.Side.{Side}
use Rattle.wire.specs.declared.Side.TheVariants.{Memory, Companion}
use Rattle.wire.specs.declared.Phase.{Phase}
use Rattle.wire.specs.declared.Phase.TheVariants.{Read}
use Rattle.wire.proofs.Tests.{by_test, and_split}
use Rattle.bus.specs.declared.Beat.{Beat}
use Rattle.fm31_counters.specs.Change.{with_counts}
use Rattle.fm31_counters.specs.Registers.{register_bytes}
use Rattle.fm31_counters.specs.Part.{stepped_of, load_of, loaded_of}
use Rattle.fm31_counters.specs.declared.Counts.{Counts}
use Rattle.fm31_counters.specs.declared.Counters.{Counters}
use Rattle.fm31_counters.specs.declared.Registers.{Registers}
use Rattle.fm31.specs.declared.State.{State}
use Rattle.wire_clocks.specs.Clocks.{clock_event}
use Rattle.law_family.specs.Seen.{count_list, register_list}
use Rattle.law_family.specs.Beats.{among, joined, eight_rows}
use Rattle.law_family.specs.Written.{after}
use Rattle.law_family.specs.Fixed.{read_events, at_rest, once_read, is_frozen, SendsByte, Leaves, OfReads}
use Rattle.law_family.specs.Fixed.{RegisterAt, RegisterFixed, FrozenAt, FrozenFixed, MemoryRead, MemoryFixed}
use Rattle.law_family.proofs.Runs.{on_bus, on_bus_lem, Leads, clock_leads}
use Rattle.law_family.proofs.Beats.{beaten_by, all_count}
use Rattle.law_family.proofs.Pace.{beats_address, beaten_rows, rows_joined, stays, paced, after_beats_lem, rows_alone}
use Rattle.law_family.proofs.Written.{step_after}
use Rattle.law_family.proofs.Bits.{released_bits}

-- the eight clocks
module _ (size select a : ℕ) (m : List ℕ) (c : Counters) (b : ℕ) (b₀ b₁ b₂ b₃ b₄ b₅ b₆ b₇ : List Beat)
    (d₀ d₁ d₂ d₃ d₄ d₅ d₆ d₇ : Bool) where
  abbrev rows : List (List Beat)
  rows = eight_rows b₀ b₁ b₂ b₃ b₄ b₅ b₆ b₇

  abbrev lines : List Bool
  lines = eight d₀ d₁ d₂ d₃ d₄ d₅ d₆ d₇

  pub register_run : Leads size select (on_bus (Read Companion 0 b) a c) m (read_events rows lines)
      (on_bus (Read Companion 8 (load_of (beaten_by b₀ c))) a (loaded_of (beaten_rows rows c) (load_of (beaten_by b₀ c)))) m
      (among at_rest rows (lower lines (sent_bits (load_of (beaten_by b₀ c)))))
  unfolding clocked sent_at place_at
  register_run =
      let c₀ = beaten_by b₀ c in
      let x = load_of c₀ in
      let c₁ = beaten_by b₁ c₀ in
      let c₂ = beaten_by b₂ c₁ in
      let c₃ = beaten_by b₃ c₂ in
      let c₄ = beaten_by b₄ c₃ in
      let c₅ = beaten_by b₅ c₄ in
      let c₆ = beaten_by b₆ c₅ in
      let c₇ = beaten_by b₇ c₆ in
      let p : ℕ → Phase = λ k. Read Companion k x in
      paced size select (Read Companion 0 b) a m b₀ (clock_event d₀) c (clock_leads size select (Read Companion 0 b) a m c₀ d₀)
      (paced size select (p 1) a m b₁ (clock_event d₁) c₀ (clock_leads size select (p 1) a m c₁ d₁)
      (paced size select (p 2) a m b₂ (clock_event d₂) c₁ (clock_leads size select (p 2) a m c₂ d₂)
      (paced size select (p 3) a m b₃ (clock_event d₃) c₂ (clock_leads size select (p 3) a m c₃ d₃)
      (paced size select (p 4) a m b₄ (clock_event d₄) c₃ (clock_leads size select (p 4) a m c₄ d₄)
      (paced size select (p 5) a m b₅ (clock_event d₅) c₄ (clock_leads size select (p 5) a m c₅ d₅)
      (paced size select (p 6) a m b₆ (clock_event d₆) c₅ (clock_leads size select (p 6) a m c₆ d₆)
      (paced size select (p 7) a m b₇ (clock_event d₇) c₆ (clock_leads size select (p 7) a m c₇ d₇) (stays size select _ _))))))))

  memory_run : Leads size select (on_bus (Read Memory 0 b) a c) m (read_events rows lines)
      (on_bus (Read Memory 8 (get_or m a 0)) ((a + 1) % size) (beaten_rows rows c)) m
      (among at_rest rows (lower lines (sent_bits (get_or m a 0))))
  unfolding clocked sent_at place_at
  memory_run =
      let x = get_or m a 0 in
      let c₀ = beaten_by b₀ c in
      let c₁ = beaten_by b₁ c₀ in
      let c₂ = beaten_by b₂ c₁ in
      let c₃ = beaten_by b₃ c₂ in
      let c₄ = beaten_by b₄ c₃ in
      let c₅ = beaten_by b₅ c₄ in
      let c₆ = beaten_by b₆ c₅ in
      let c₇ = beaten_by b₇ c₆ in
      let p : ℕ → Phase = λ k. Read Memory k x in
      paced size select (Read Memory 0 b) a m b₀ (clock_event d₀) c (clock_leads size select (Read Memory 0 b) a m c₀ d₀)
      (paced size select (p 1) a m b₁ (clock_event d₁) c₀ (clock_leads size select (p 1) a m c₁ d₁)
      (paced size select (p 2) a m b₂ (clock_event d₂) c₁ (clock_leads size select (p 2) a m c₂ d₂)
      (paced size select (p 3) a m b₃ (clock_event d₃) c₂ (clock_leads size select (p 3) a m c₃ d₃)
      (paced size select (p 4) a m b₄ (clock_event d₄) c₃ (clock_leads size select (p 4) a m c₄ d₄)
      (paced size select (p 5) a m b₅ (clock_event d₅) c₄ (clock_leads size select (p 5) a m c₅ d₅)
      (paced size select (p 6) a m b₆ (clock_event d₆) c₅ (clock_leads size select (p 6) a m c₆ d₆)
      (paced size select (p 7) a m b₇ (clock_event d₇) c₆ (clock_leads size select (p 7) a m c₇ d₇) (stays size select _ _))))))))

  memory_read_lem : MemoryRead size select (on_bus (Read Memory 0 b) a c) m b₀ rows lines
  memory_read_lem =
      record {
        lines = memory_run.lines;
        address = ap (λ (s : State). s.bus.address) memory_run.state;
        memory = memory_run.memory;
        companion =
            ap (λ (s : State). s.counters) memory_run.state
            ∙ rows_alone size select (Read Memory 0 b) a m c rows;
      }

-- outside 0Dh to 10h the snapshot does not show; there it does
module _ (r : Registers) (n : Counts) where
  abbrev Outside : ℕ → Type 0
  Outside k =
      (leb 13 (k + 9) && leb (k + 9) 16) ≡ false
      → get_or (register_bytes (with_counts r n)) k 0 ≡ get_or (register_list r) k 0

  inside : true ≡ false → {X : Type 0} → X
  inside e = absurd (false≢true (sym e))

  outside : (k : ℕ) → k < 16 → Outside k
  outside k h = below Outside each k h
    where
      each : Below Outside 16
      each =
          none then (λ e. refl) then (λ e. refl) then (λ e. refl) then (λ e. refl)
          then (λ e. inside e) then (λ e. inside e) then (λ e. inside e) then (λ e. inside e)
          then (λ e. refl) then (λ e. refl) then (λ e. refl) then (λ e. refl)
          then (λ e. refl) then (λ e. refl) then (λ e. refl) then (λ e. refl)

  shows : (k : ℕ) → k < 4 → get_or (register_bytes (with_counts r n)) (k + 4) 0 ≡ get_or (count_list n) k 0
  shows k h = below (λ k. get_or (register_bytes (with_counts r n)) (k + 4) 0 ≡ get_or (count_list n) k 0) each k h
    where
      each : Below (λ k. get_or (register_bytes (with_counts r n)) (k + 4) 0 ≡ get_or (count_list n) k 0) 4
      each = none then refl then refl then refl then refl

-- the byte that is sent, frozen or not
pub loaded_open : (c : Counters) → is_frozen c ≡ false → 9 ≤ c.address → c.address ≤ 24
    → load_of c ≡ get_or (register_list c.registers) (c.address - 9) 0
unfolding load_of
loaded_open c f l h =
    let a = c.address in
    let e : a - 9 + 9 ≡ a = omega arith in
    by_test (has c.registers.counting 8)
    (λ t. let g : (leb 13 a && leb a 16) ≡ false = rw t at f in
    rw t (outside c.registers c.snapshot (a - 9) (omega arith) (rw e g)))
    (λ t. rw t refl)

loaded_frozen : (c : Counters) → is_frozen c ≡ true → load_of c ≡ get_or (count_list c.snapshot) (c.address - 13) 0
unfolding load_of
loaded_frozen c f =
    let a = c.address in
    let t = and_split (has c.registers.counting 8) (leb 13 a && leb a 16) f in
    let g = and_split (leb 13 a) (leb a 16) t.1 in
    let l = leb-true 13 a g.0 in
    let h = leb-true a 16 g.1 in
    let e : a - 9 ≡ a - 13 + 4 = omega arith in
    rw (t.0, e) (shows c.registers c.snapshot (a - 13) (omega arith))

-- the end of a read
loaded_registers : (c : Counters) (b : ℕ) → register_list (loaded_of c b).registers ≡ once_read c
unfolding loaded_of
loaded_registers c b =
    by_test (eqb c.address 16)
    (λ e. rw e (ap (λ (x : ℕ). set (register_list c.registers) 3 x) (released_bits c.registers.counting)))
    (λ e. rw e refl)

loaded_snapshot : (c : Counters) (b : ℕ) → (loaded_of c b).snapshot ≡ c.snapshot
unfolding loaded_of
loaded_snapshot c b =
    by_cond (λ (k : Counters). (stepped_of k).snapshot ≡ c.snapshot) (eqb c.address 16) (λ h. refl) (λ h. refl)

loaded_address : (c : Counters) (b : ℕ) → 9 ≤ c.address → c.address ≤ 24 → (loaded_of c b).address ≡ after c.address
unfolding loaded_of
loaded_address c b l h =
    by_cond (λ (k : Counters). (stepped_of k).address ≡ after c.address) (eqb c.address 16)
    (λ e. step_after c.address l h) (λ e. step_after c.address l h)

-- ticks and edges leave the snapshot and whether the reads are frozen
beats_snapshot : (bs : List Beat) (c : Counters) → (beaten_by bs c).snapshot ≡ c.snapshot
beats_snapshot bs c = ap (λ (k : Counters). k.snapshot) (all_count bs c)

beats_frozen : (bs : List Beat) (c : Counters) → is_frozen (beaten_by bs c) ≡ is_frozen c
beats_frozen bs c = ap is_frozen (all_count bs c)

module _ (size select a : ℕ) (m : List ℕ) (c : Counters) (b : ℕ) (b₀ b₁ b₂ b₃ b₄ b₅ b₆ b₇ : List Beat)
    (d₀ d₁ d₂ d₃ d₄ d₅ d₆ d₇ : Bool) where
  abbrev here : State
  here = on_bus (Read Companion 0 b) a c

  abbrev through : List (List Beat)
  through = eight_rows b₀ b₁ b₂ b₃ b₄ b₅ b₆ b₇

  abbrev masters : List Bool
  masters = eight d₀ d₁ d₂ d₃ d₄ d₅ d₆ d₇

  abbrev run : Leads size select here m (read_events through masters)
      (on_bus (Read Companion 8 (load_of (beaten_by b₀ c))) a (loaded_of (beaten_rows through c) (load_of (beaten_by b₀ c)))) m
      (among at_rest through (lower masters (sent_bits (load_of (beaten_by b₀ c)))))
  run = register_run size select a m c b b₀ b₁ b₂ b₃ b₄ b₅ b₆ b₇ d₀ d₁ d₂ d₃ d₄ d₅ d₆ d₇

  leaves : 9 ≤ c.address → c.address ≤ 24 → Leaves size select here m through masters
  leaves l h =
      let k = beaten_rows through c in
      let x = load_of (beaten_by b₀ c) in
      let e = rows_joined through c in
      let g : k.address ≡ c.address = ap (λ (z : Counters). z.address) e ∙ beats_address (joined through) c in
      record {
        registers =
            ap (λ (s : State). register_list s.counters.registers) run.state
            ∙ (loaded_registers k x ∙ ap once_read (rows_alone size select (Read Companion 0 b) a m c through));
        snapshot =
            ap (λ (s : State). count_list s.counters.snapshot) run.state
            ∙ ap count_list
            (loaded_snapshot k x
            ∙ (ap (λ (z : Counters). z.snapshot) e ∙ beats_snapshot (joined through) c));
        companion_address =
            ap (λ (s : State). s.counters.address) run.state
            ∙ (loaded_address k x (rw g l) (rw g h) ∙ ap after g);
        memory = run.memory;
        address = ap (λ (s : State). s.bus.address) run.state;
      }

  sends : (byte : ℕ) → load_of (beaten_by b₀ c) ≡ byte → SendsByte size select here m through masters byte
  sends byte e = run.lines ∙ ap (λ (x : ℕ). among at_rest through (lower masters (sent_bits x))) e

  register_at_lem : RegisterAt size select here m b₀ through masters
  register_at_lem l h f =
      let g = beats_address b₀ c in
      let e = after_beats_lem size select (Read Companion 0 b) a m c b₀ in (
        sends _
            (loaded_open (beaten_by b₀ c) (ap is_frozen (sym e) ∙ f) (rw g l) (rw g h)
            ∙ (ap (λ (x : ℕ). get_or (register_list (beaten_by b₀ c).registers) (x - 9) 0) g
            ∙ ap (λ (z : Counters). get_or (register_list z.registers) (c.address - 9) 0) (sym e))),
        leaves l h,
      )

  frozen_at : FrozenAt size select here m b₀ through masters
  frozen_at f =
      let t = (and_split (has c.registers.counting 8) (leb 13 c.address && leb c.address 16) f).1 in
      let g = and_split (leb 13 c.address) (leb c.address 16) t in
      let l = leb-true 13 c.address g.0 in
      let h = leb-true c.address 16 g.1 in
      let q = beats_address b₀ c in (
        sends _
            (loaded_frozen (beaten_by b₀ c) (beats_frozen b₀ c ∙ f)
            ∙ (λ i. get_or (count_list (beats_snapshot b₀ c i)) (q i - 13) 0)),
        leaves (omega arith) (omega arith),
      )

-- from a state on the bus to every state
of_reads : (side : Side) (X : ℕ → ℕ → State → List ℕ → List Beat → List (List Beat) → List Bool → Type 0)
    → ((size select a : ℕ) (m : List ℕ) (c : Counters) (b : ℕ) (b₀ b₁ b₂ b₃ b₄ b₅ b₆ b₇ : List Beat)
    (d₀ d₁ d₂ d₃ d₄ d₅ d₆ d₇ : Bool)
    → X size select (on_bus (Read side 0 b) a c) m b₀ (eight_rows b₀ b₁ b₂ b₃ b₄ b₅ b₆ b₇) (eight d₀ d₁ d₂ d₃ d₄ d₅ d₆ d₇))
    → OfReads side X
of_reads side X h size select s m b b₀ b₁ b₂ b₃ b₄ b₅ b₆ b₇ d₀ d₁ d₂ d₃ d₄ d₅ d₆ d₇ on e =
    subst
    (λ (z : State). X size select z m b₀ (eight_rows b₀ b₁ b₂ b₃ b₄ b₅ b₆ b₇) (eight d₀ d₁ d₂ d₃ d₄ d₅ d₆ d₇))
    (sym (on_bus_lem s on e))
    (h size select s.bus.address m s.counters b b₀ b₁ b₂ b₃ b₄ b₅ b₆ b₇ d₀ d₁ d₂ d₃ d₄ d₅ d₆ d₇)

pub register_fixed : RegisterFixed
register_fixed = of_reads Companion RegisterAt register_at_lem

pub frozen_fixed : FrozenFixed
frozen_fixed = of_reads Companion FrozenAt frozen_at

pub memory_fixed : MemoryFixed
memory_fixed = of_reads Memory MemoryRead memory_read_lem
