-- SPDX-License-Identifier: Apache-2.0
-- Each register written: the clocks, with ticks and edges before them, lead to what the companion makes of the byte at its eighth;
-- which register that is, its address says, and what it keeps is what the bits are worth.
use Prim.Native.Nat.{ℕ, ◌+◌, ◌-◌, ◌≤◌, ◌<◌}
use mathlib.Core.Path.{◌≡◌, refl, sym, ap, subst, ◌∙◌}
use mathlib.Core.Bool.{Bool, true, false, cond, ◌&&◌}
use mathlib.Core.List.{List, [], ◌∷◌, ◌++◌}
use native.Mathlib.Omega.{arith}
use lib.Dec.{eqb}
use lib.ListN.{set}
use borrow.Author.Tests.{eq-eqb, ne_eqb, le-leb, lt-leb, eqb-true, eqb-false}
use Rattle.bits.specs.Weight.{has}
use Rattle.bits.proofs.Cases.{by_cond, Below, none, ◌then◌, below}
use Rattle.wire.specs.Bits.{place_at, pushed, sent_bit}
use Rattle.wire.specs.HighFirst.{sent_bits}
use Rattle.wire.specs.Clock.{kept, received_at}
use Rattle.wire.specs.Machine.{clocked}
use Rattle.wire.specs.declared.Side.TheVariants.{Companion}
use Rattle.wire.specs.declared.Phase.{Phase}
use Rattle.wire.specs.declared.Phase.TheVariants.{Write}
use Rattle.wire.proofs.Whole.{made_of, made}
use Rattle.bus.specs.declared.Beat.{Beat}
use Rattle.fm31_counters.specs.Registers.{register_bytes, registers_of, put_at}
use Rattle.fm31_counters.specs.Write.{kept_at, is_locked, registers_after, written_of}
use Rattle.fm31_counters.specs.Part.{next_address, store_of}
use Rattle.fm31_counters.specs.declared.Counters.{Counters}
use Rattle.fm31_counters.specs.declared.Counts.{Counts}
use Rattle.fm31_counters.specs.declared.Registers.{Registers}
use Rattle.fm31_counters.proofs.Written.{kept_whole, locked_write, open_write_lem}
use Rattle.fm31.specs.declared.State.{State}
use Rattle.wire_clocks.specs.Clocks.{clock_event, last_line}
use Rattle.law_family.specs.Seen.{count_list, register_list}
use Rattle.law_family.specs.Beats.{among, joined, eight_rows}
use Rattle.law_family.specs.Written.{flags_bits, watchdog_bits, control_bits, counting_bits, after, write_events, acknowledged, untouched, Stores, OfWrites, with_byte, Said}
use Rattle.law_family.specs.Written as written
use Rattle.law_family.specs.Written.{FlagsAt, WatchdogAt, ControlAt, CountingAt, CounterAt, SerialAt, LockedAt}
use Rattle.law_family.specs.Written.{FlagsWritten, WatchdogWritten, ControlWritten, CountingWritten, CounterWritten, SerialWritten, LockedWritten}
use Rattle.law_family.proofs.Runs.{on_bus, on_bus_lem, Leads, leads_then, clock_leads}
use Rattle.law_family.proofs.Pace.{quiet, beats_address, beaten_rows, rows_joined, stays, paced, rows_alone}
use Rattle.law_family.proofs.Beats.{beaten_by}
use Rattle.law_family.proofs.Bits.{flags_bits_lem, watchdog_bits_lem, control_bits_lem, counting_bits_lem}

-- the eight clocks of a byte for the companion, and the ninth
module _ (size select a : ℕ) (m : List ℕ) where
  pub eighth : (c : Counters) (b₀ b₁ b₂ b₃ b₄ b₅ b₆ b₇ : List Beat) (b : ℕ)
      → let rows = eight_rows b₀ b₁ b₂ b₃ b₄ b₅ b₆ b₇ in
      Leads size select (on_bus (Write Companion 0 0) a c) m (write_events rows b)
      (on_bus (Write Companion 8 (made_of b)) a (store_of (beaten_rows rows c) (made_of b)).companion) m
      (among quiet rows (sent_bits b))
  unfolding clocked received_at place_at kept store_of
  eighth c b₀ b₁ b₂ b₃ b₄ b₅ b₆ b₇ b =
      let c₀ = beaten_by b₀ c in
      let c₁ = beaten_by b₁ c₀ in
      let c₂ = beaten_by b₂ c₁ in
      let c₃ = beaten_by b₃ c₂ in
      let c₄ = beaten_by b₄ c₃ in
      let c₅ = beaten_by b₅ c₄ in
      let c₆ = beaten_by b₆ c₅ in
      let c₇ = beaten_by b₇ c₆ in
      let x₁ = pushed 0 (sent_bit 0 b) in
      let x₂ = pushed x₁ (sent_bit 1 b) in
      let x₃ = pushed x₂ (sent_bit 2 b) in
      let x₄ = pushed x₃ (sent_bit 3 b) in
      let x₅ = pushed x₄ (sent_bit 4 b) in
      let x₆ = pushed x₅ (sent_bit 5 b) in
      let x₇ = pushed x₆ (sent_bit 6 b) in
      let p : ℕ → ℕ → Phase = λ k x. Write Companion k x in
      let e : ℕ → ℕ = λ k. clock_event (sent_bit k b) in
      paced size select (p 0 0) a m b₀ (e 0) c (clock_leads size select (p 0 0) a m c₀ (sent_bit 0 b))
      (paced size select (p 1 x₁) a m b₁ (e 1) c₀ (clock_leads size select (p 1 x₁) a m c₁ (sent_bit 1 b))
      (paced size select (p 2 x₂) a m b₂ (e 2) c₁ (clock_leads size select (p 2 x₂) a m c₂ (sent_bit 2 b))
      (paced size select (p 3 x₃) a m b₃ (e 3) c₂ (clock_leads size select (p 3 x₃) a m c₃ (sent_bit 3 b))
      (paced size select (p 4 x₄) a m b₄ (e 4) c₃ (clock_leads size select (p 4 x₄) a m c₄ (sent_bit 4 b))
      (paced size select (p 5 x₅) a m b₅ (e 5) c₄ (clock_leads size select (p 5 x₅) a m c₅ (sent_bit 5 b))
      (paced size select (p 6 x₆) a m b₆ (e 6) c₅ (clock_leads size select (p 6 x₆) a m c₆ (sent_bit 6 b))
      (paced size select (p 7 x₇) a m b₇ (e 7) c₆ (clock_leads size select (p 7 x₇) a m c₇ (sent_bit 7 b)) (stays size select _ _))))))))

  pub ninth : (c : Counters) (x : ℕ) (d : Bool)
      → Leads size select (on_bus (Write Companion 8 x) a c) m (clock_event d ∷ []) (on_bus (Write Companion 0 0) a c) m (false ∷ [])
  unfolding clocked received_at place_at
  ninth c x d = clock_leads size select (Write Companion 8 x) a m c d

-- the last line of lines that end with one
pub last_of : (ls : List Bool) (d : Bool) → last_line (ls ++ (d ∷ [])) ≡ d
last_of [] d = refl
last_of (l ∷ []) d = refl
last_of (l ∷ k ∷ ls) d = last_of (k ∷ ls) d

-- the address steps on
pub step_after : (a : ℕ) → 9 ≤ a → a ≤ 24 → next_address a ≡ after a
step_after a l h =
    by_cond (λ (n : ℕ). n ≡ after a) (eqb a 24)
    (λ e. let q = eqb-true a 24 e in omega arith) (λ e. let q = eqb-false a 24 e in omega arith)

-- the registers as a list, with a byte put
listed_put : (r : Registers) (a b : ℕ) → a ≤ 24 → register_list (put_at r a b) ≡ set (register_list r) (a - 9) b
listed_put r a b h =
    below (λ k. register_list (registers_of (set (register_bytes r) k b)) ≡ set (register_list r) k b) each (a - 9) (omega arith)
  where
    each : Below (λ k. register_list (registers_of (set (register_bytes r) k b)) ≡ set (register_list r) k b) 16
    each =
        none then refl then refl then refl then refl then refl then refl then refl then refl
        then refl then refl then refl then refl then refl then refl then refl then refl

-- a byte that is stored, or left where it is locked
pub no_lock : (t : Bool) → (t && false) ≡ false
no_lock true = refl
no_lock false = refl

below_serial : (r : Registers) (a b : ℕ) → a < 17 → registers_after r a b ≡ put_at r a (kept_at r a b)
below_serial r a b h =
    open_write_lem r a b (ap (λ (t : Bool). is_locked r && t) (lt-leb 17 a h) ∙ no_lock (is_locked r))

module _ (size select a : ℕ) (m : List ℕ) (c : Counters) (b₀ b₁ b₂ b₃ b₄ b₅ b₆ b₇ : List Beat) (b : ℕ) (d : Bool)
    (small : b < 256) where
  abbrev rows : List (List Beat)
  rows = eight_rows b₀ b₁ b₂ b₃ b₄ b₅ b₆ b₇

  abbrev begun : State
  begun = on_bus (Write Companion 0 0) a c

  -- the companion as the ticks and edges alone leave it
  abbrev beaten : Counters
  beaten = untouched size select begun m rows

  stored : Leads size select begun m (write_events rows b) (on_bus (Write Companion 8 b) a (store_of beaten b).companion) m
      (among quiet rows (sent_bits b))
  stored =
      rw (made b small, rows_alone size select (Write Companion 0 0) a m c rows) at
      (eighth size select a m c b₀ b₁ b₂ b₃ b₄ b₅ b₆ b₇ b)

  told : Leads size select begun m (acknowledged rows b d) (on_bus (Write Companion 0 0) a (store_of beaten b).companion) m
      (among quiet rows (sent_bits b) ++ (false ∷ []))
  told = leads_then size select stored (ninth size select a m (store_of beaten b).companion b d)

  beaten_address : beaten.address ≡ c.address
  beaten_address =
      ap (λ (k : Counters). k.address) (sym (rows_alone size select (Write Companion 0 0) a m c rows) ∙ rows_joined rows c)
      ∙ beats_address (joined rows) c

  -- by what is written
  stores_by : (bytes frozen : List ℕ) → 9 ≤ beaten.address → beaten.address ≤ 24
      → register_list (written_of beaten b).registers ≡ bytes → count_list (written_of beaten b).snapshot ≡ frozen
      → Stores size select begun m rows b d bytes frozen
  unfolding store_of written_of
  stores_by bytes frozen l h r f =
      record {
        registers = ap (λ (s : State). register_list s.counters.registers) stored.state ∙ r;
        snapshot = ap (λ (s : State). count_list s.counters.snapshot) stored.state ∙ f;
        companion_address =
            ap (λ (s : State). s.counters.address) stored.state
            ∙ (step_after beaten.address l h ∙ ap after beaten_address);
        line = ap last_line told.lines ∙ last_of (among quiet rows (sent_bits b)) false;
        goes_on = ap (λ (s : State). s.bus.phase) told.state;
        memory = told.memory;
      }

  -- a register below 11h that keeps this of the byte
  keeps : (x : ℕ) → 9 ≤ beaten.address → beaten.address < 17 → kept_at beaten.registers beaten.address b ≡ x
      → register_list (written_of beaten b).registers ≡ with_byte beaten x
  unfolding written_of
  keeps x l h e =
      ap register_list (below_serial beaten.registers beaten.address b h)
      ∙ (listed_put beaten.registers beaten.address _ (omega arith)
      ∙ ap (λ (y : ℕ). set (register_list beaten.registers) (beaten.address - 9) y) e)

  -- the snapshot, but at 0Ch
  frozen_stays : (beaten.address ≡ 12 → ⊥) → count_list (written_of beaten b).snapshot ≡ written.kept beaten
  unfolding written_of
  frozen_stays n = rw (ne_eqb beaten.address 12 n)

  flags_stored : beaten.address ≡ 9
      → Stores size select begun m rows b d (with_byte beaten (flags_bits beaten.registers.flags b)) (written.kept beaten)
  flags_stored e =
      stores_by _ _ (omega arith) (omega arith)
      (keeps _ (omega arith) (omega arith) (rw e (flags_bits_lem b beaten.registers.flags))) (frozen_stays (λ z. omega arith))

  watchdog_stored : beaten.address ≡ 10
      → Stores size select begun m rows b d (with_byte beaten (watchdog_bits b)) (written.kept beaten)
  watchdog_stored e =
      stores_by _ _ (omega arith) (omega arith)
      (keeps _ (omega arith) (omega arith) (rw e (watchdog_bits_lem b small))) (frozen_stays (λ z. omega arith))

  control_stored : beaten.address ≡ 11
      → Stores size select begun m rows b d (with_byte beaten (control_bits beaten.registers.control b)) (written.kept beaten)
  control_stored e =
      stores_by _ _ (omega arith) (omega arith)
      (keeps _ (omega arith) (omega arith) (rw e (control_bits_lem b beaten.registers.control))) (frozen_stays (λ z. omega arith))

  counting_stored : beaten.address ≡ 12
      → Stores size select begun m rows b d (with_byte beaten (counting_bits b))
      (cond (has b 8) (count_list beaten.registers.counts) (written.kept beaten))
  unfolding written_of
  counting_stored e =
      stores_by _ _ (omega arith) (omega arith)
      (keeps _ (omega arith) (omega arith) (rw e (counting_bits_lem b)))
      (rw (eq-eqb beaten.address 12 e)
      (by_cond (λ (n : Counts). count_list n ≡ cond (has b 8) (count_list beaten.registers.counts) (written.kept beaten)) (has b 8)
      (λ t. rw t refl) (λ t. rw t refl)))

  counter_stored : 13 ≤ beaten.address → beaten.address ≤ 16
      → Stores size select begun m rows b d (with_byte beaten b) (written.kept beaten)
  counter_stored l h =
      stores_by _ _ (omega arith) (omega arith)
      (keeps _ (omega arith) (omega arith) (kept_whole beaten.registers beaten.address b l (omega arith)))
      (frozen_stays (λ z. omega arith))

  serial_stored : 17 ≤ beaten.address → beaten.address ≤ 24 → has beaten.registers.control 128 ≡ false
      → Stores size select begun m rows b d (with_byte beaten b) (written.kept beaten)
  unfolding written_of
  serial_stored l h t =
      stores_by _ _ (omega arith) h
      (ap register_list (open_write_lem beaten.registers beaten.address b (rw t))
      ∙ (listed_put beaten.registers beaten.address _ h
      ∙ ap (λ (y : ℕ). set (register_list beaten.registers) (beaten.address - 9) y)
      (kept_whole beaten.registers beaten.address b (omega arith) h)))
      (frozen_stays (λ z. omega arith))

  locked_left : 17 ≤ beaten.address → beaten.address ≤ 24 → has beaten.registers.control 128 ≡ true
      → Stores size select begun m rows b d (register_list beaten.registers) (written.kept beaten)
  unfolding written_of
  locked_left l h t =
      stores_by _ _ (omega arith) h
      (ap register_list (locked_write beaten.registers beaten.address b (rw (t, le-leb 17 beaten.address l))))
      (frozen_stays (λ z. omega arith))

-- from a state on the bus to every state
of_writes : (X : Said)
    → ((size select a : ℕ) (m : List ℕ) (c : Counters) (b₀ b₁ b₂ b₃ b₄ b₅ b₆ b₇ : List Beat) (b : ℕ) (d : Bool) → b < 256
    → let rows = eight_rows b₀ b₁ b₂ b₃ b₄ b₅ b₆ b₇ in
    let s = on_bus (Write Companion 0 0) a c in
    X (untouched size select s m rows) (Stores size select s m rows b d) b)
    → OfWrites X
of_writes X h size select s m b₀ b₁ b₂ b₃ b₄ b₅ b₆ b₇ b d on e l =
    let rows = eight_rows b₀ b₁ b₂ b₃ b₄ b₅ b₆ b₇ in
    subst (λ (z : State). X (untouched size select z m rows) (Stores size select z m rows b d) b) (sym (on_bus_lem s on e))
    (h size select s.bus.address m s.counters b₀ b₁ b₂ b₃ b₄ b₅ b₆ b₇ b d l)

pub flags_written : FlagsWritten
flags_written = of_writes FlagsAt flags_stored

pub watchdog_written : WatchdogWritten
watchdog_written = of_writes WatchdogAt watchdog_stored

pub control_written_lem : ControlWritten
control_written_lem = of_writes ControlAt control_stored

pub counting_written : CountingWritten
counting_written = of_writes CountingAt counting_stored

pub counter_written : CounterWritten
counter_written = of_writes CounterAt counter_stored

pub serial_written : SerialWritten
serial_written = of_writes SerialAt serial_stored

pub locked_written : LockedWritten
locked_written = of_writes LockedAt locked_left
