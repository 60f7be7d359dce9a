-- SPDX-License-Identifier: Apache-2.0
-- The clock read with R. Where R rises 02h to 08h take the core, and while it is 1 ticks leave them; so each of the seven bytes is
-- fixed as it was then.
use Prim.Native.Nat.{ℕ, ◌+◌, ◌*◌, ◌/◌, ◌%◌, ◌≤◌}
use mathlib.Core.Path.{◌≡◌, refl, sym, ap, subst, ◌∙◌}
use mathlib.Core.Bool.{Bool, true, false, cond, ◌&&◌, ◌||◌, or-true}
use mathlib.Core.List.{List, ◌++◌}
use native.Mathlib.Omega.{arith}
use lib.Dec.{lit≤}
use lib.ListN.{get_or}
use Rattle.bits.specs.Weight.{has, only}
use Rattle.bits.proofs.Cases.{by_cond}
use Rattle.wire.specs.Clock.{more}
use Rattle.wire.specs.declared.Side.TheVariants.{Companion}
use Rattle.wire.specs.declared.Phase.TheVariants.{Idle, Read}
use Rattle.calendar.specs.declared.Calendar.{Calendar}
use Rattle.fm3130_registers.specs.Control.{control_after}
use Rattle.fm3130_companion.specs.Change.{with_address}
use Rattle.fm3130_companion.specs.Registers.{register_at, register_bytes}
use Rattle.fm3130_companion.specs.Write.{core_written, control_written}
use Rattle.fm3130_companion.specs.Part.{stepped_of, load_of, loaded_of}
use Rattle.fm3130_companion.specs.declared.Registers.{Registers}
use Rattle.fm3130.specs.declared.State.{State}
use Rattle.fm3130_list.specs.Run.{run_of}
use Rattle.wire_clocks.specs.Clocks.{clock_event, lines_of}
use Rattle.law_transfers.proofs.Runs.{Leads, leads_then}
use Rattle.law_transfers.proofs.Written.{on_bus}
use Rattle.law_registers.specs.Ticks.{total}
use Rattle.law_registers.specs.Snapshot.{counts_in, among, shown_among, seven_bytes, seven_shown, Untorn}
use Rattle.law_registers.proofs.Ticks.{ticked, ticked_all, ticked_all_lem, paced, stays}
use Rattle.law_registers.proofs.Clocking.{Desk, on_bus_lem, register_run, loaded_keeps, loaded_address, loaded_other}
use Rattle.law_registers.proofs.Going.{goes_then, control_goes, control_stored}
use Rattle.law_registers.proofs.Opening.{Frozen, Still, still_ticked, opening}
use Rattle.law_registers.proofs.Later.{ninth_leads}

still_loaded : (t : Calendar) (k x : ℕ) (c : Desk) → 2 ≤ k → k ≤ 8 → Still t k c → Still t (k + 1) (loaded_of c x)
still_loaded t k x c low high s =
    let e = s.address in
    let same = loaded_other c x (λ z. omega arith) in
    record {
      address = loaded_address c x ∙ omega arith;
      frozen =
          record {
            time = loaded_keeps c x (λ (z : Desk). z.registers.time) refl refl ∙ s.frozen.time;
            holds = ap (λ (y : ℕ). has y 0x02 || has y 0x01) same ∙ s.frozen.holds;
          };
    }

module _ (a : ℕ) (m : List ℕ) (t : Calendar) where
  -- a byte of the read, and where it leads
  record Sent (k : ℕ) (c : Desk) (n : ℕ → ℕ) (d : Bool) (byte : ℕ) : Type 0 where
    pub next : Desk
    pub still : Still t (k + 1) next
    pub run : Leads (on_bus (Read Companion 0 0) a c) m (among n d) (on_bus (more d (Read Companion 0 0)) a next) m
        (shown_among n byte d)

  sends : (k : ℕ) (byte : ℕ) → ((r : Registers) → r.time ≡ t → get_or (register_bytes r) k 0 ≡ byte) → 2 ≤ k → k ≤ 8
      → (c : Desk) → Still t k c → (n : ℕ → ℕ) (d : Bool) → Sent k c n d byte
  unfolding load_of
  sends k byte field low high c s n d =
      let first = still_ticked t k (n 0) c s in
      let x = load_of (ticked (n 0) c) in
      let fixed : x ≡ byte =
      ap (λ (y : ℕ). register_at (ticked (n 0) c).registers y) first.address
      ∙ field (ticked (n 0) c).registers first.frozen.time in
      let all : Still t k (ticked_all (counts_in n) c) =
      subst (Still t k) (sym (ticked_all_lem (counts_in n) c)) (still_ticked t k (total (counts_in n)) c s) in
      let left = loaded_of (ticked_all (counts_in n) c) x in
      let eighth = register_run a m c 0 (n 0) (n 1) (n 2) (n 3) (n 4) (n 5) (n 6) (n 7) true true true true true true true true in
      let whole =
      leads_then eighth
      (paced (Read Companion 8 x) a m (n 8) (clock_event d) left (ninth_leads a m (ticked (n 8) left) x d) (stays _ _)) in
      record {
        next = ticked (n 8) left;
        still = still_ticked t (k + 1) (n 8) left (still_loaded t k x (ticked_all (counts_in n) c) low high all);
        run =
            subst (λ (y : ℕ). Leads (on_bus (Read Companion 0 0) a c) m (among n d)
            (on_bus (more d (Read Companion 0 0)) a (ticked (n 8) left)) m (shown_among n y d)) fixed whole;
      }

  -- the lines of what is still to be read
  record Shows (c : Desk) (es : List ℕ) (ls : List Bool) : Type 0 where
    pub lines : lines_of (run_of (on_bus (Read Companion 0 0) a c) m es).answers ≡ ls

  onward : {k byte : ℕ} {c : Desk} {n : ℕ → ℕ} {es : List ℕ} {ls : List Bool} → Sent k c n false byte
      → ((next : Desk) → Still t (k + 1) next → Shows next es ls) → Shows c (among n false ++ es) (shown_among n byte false ++ ls)
  unfolding more
  onward r rest =
      record {
        lines =
            (leads_then r.run (record { state = refl; memory = refl; lines = (rest r.next r.still).lines })).lines;
      }

  seven : (c : Desk) → Still t 2 c → (n : ℕ → ℕ → ℕ) → Shows c (seven_bytes n) (seven_shown n t)
  seven c₂ s₂ n =
      onward (sends 2 t.seconds (λ r e. ap (λ (z : Calendar). z.seconds) e) (lit≤ tt) (lit≤ tt) c₂ s₂ (n 0) false)
      (λ c₃ s₃. onward (sends 3 t.minutes (λ r e. ap (λ (z : Calendar). z.minutes) e) (lit≤ tt) (lit≤ tt) c₃ s₃ (n 1) false)
      (λ c₄ s₄. onward (sends 4 t.hours (λ r e. ap (λ (z : Calendar). z.hours) e) (lit≤ tt) (lit≤ tt) c₄ s₄ (n 2) false)
      (λ c₅ s₅. onward (sends 5 t.day (λ r e. ap (λ (z : Calendar). z.day) e) (lit≤ tt) (lit≤ tt) c₅ s₅ (n 3) false)
      (λ c₆ s₆. onward (sends 6 t.date (λ r e. ap (λ (z : Calendar). z.date) e) (lit≤ tt) (lit≤ tt) c₆ s₆ (n 4) false)
      (λ c₇ s₇. onward (sends 7 t.month (λ r e. ap (λ (z : Calendar). z.month) e) (lit≤ tt) (lit≤ tt) c₇ s₇ (n 5) false)
      (λ c₈ s₈. record { lines = (sends 8 t.year (λ r e. ap (λ (z : Calendar). z.year) e) (lit≤ tt) (lit≤ tt) c₈ s₈ (n 6) true).run.lines }))))))

-- R of 00h after its write is the byte's
control_r : (old b : ℕ) → has (control_after old b) 0x01 ≡ has b 0x01
control_r old b =
    let e : control_after old b / 1 % 2 ≡ b / 1 % 2 = omega (arith, nibble) in rw e
  where
    nibble : control_after old b % 16 ≡ b % 16
    nibble =
        by_cond (λ (x : ℕ). (x + old / 32 % 4 * 32 + only (has old 16 && has b 16) 16 + b % 16) % 16 ≡ b % 16)
        (has old 128 && has b 128)
        (λ h. by_cond (λ (y : ℕ). (128 + old / 32 % 4 * 32 + y + b % 16) % 16 ≡ b % 16) (has old 16 && has b 16)
        (λ h. omega arith) (λ h. omega arith))
        (λ h. by_cond (λ (y : ℕ). (0 + old / 32 % 4 * 32 + y + b % 16) % 16 ≡ b % 16) (has old 16 && has b 16)
        (λ h. omega arith) (λ h. omega arith))

-- where R rises, 02h to 08h are the core
frozen_core : (c : Desk) (b : ℕ) → has c.registers.control 0x01 ≡ false → has b 0x01 ≡ true
    → (control_written c b).registers.time ≡ core_written c b
frozen_core c b o r = rw (o, r) (either (has b 0x02))
  where
    either : (w : Bool) → cond (w || true) (core_written c b) (core_written c b) ≡ core_written c b
    either true = refl
    either false = refl

pub untorn : Untorn
untorn s m up ks n on byte low r good =
    let a = s.address in
    let c = s.companion in
    let c₁ = stepped_of (control_written (with_address c 0) up) in
    let written = control_goes a m s.phase c c₁ up byte (control_stored c up good) in
    let held : (has c₁.registers.control 0x02 || has c₁.registers.control 0x01) ≡ true =
    ap (λ (z : Bool). has c₁.registers.control 0x02 || z) (control_r c.registers.control up ∙ r)
    ∙ or-true (has c₁.registers.control 0x02) in
    let frozen : Frozen c₁.core c₁ = record { time = frozen_core (with_address c 0) up low r; holds = held } in
    let opened = (opening c₁.core a m Idle).walk ks c₁ frozen in
    let go = goes_then written opened.run in
    rw (on_bus_lem s on refl)
    (ap (λ (z : State). lines_of (run_of z m (seven_bytes n)).answers) go.state
    ∙ ((seven a m c₁.core opened.next opened.holds n).lines
    ∙ ap (λ (z : State). seven_shown n z.companion.core) (sym written.state)))
