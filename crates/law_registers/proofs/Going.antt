-- SPDX-License-Identifier: Apache-2.0
-- Lists of events that lead from a state to a state; one of 02h to 08h stored while W is 1, ticks meanwhile, and 00h written: when W falls
-- over 02h to 08h the core takes them, and they show the core or stay.
use Prim.Native.Nat.{ℕ, zero, suc, ◌+◌, ◌*◌, ◌/◌, ◌%◌, ◌≤◌, ◌<◌}
use mathlib.Core.Path.{◌≡◌, refl, ap, subst, ◌∙◌}
use mathlib.Core.Bool.{Bool, true, false, cond, not, ◌&&◌, ◌||◌}
use mathlib.Core.List.{List, [], ◌∷◌, ◌++◌}
use native.Mathlib.Omega.{arith}
use lib.Dec.{eqb}
use borrow.Author.Tests.{ne_eqb, le-leb}
use Rattle.bits.specs.Weight.{has, only}
use Rattle.bits.proofs.Cases.{by_cond}
use Rattle.wire.specs.Whole.{nine_bits}
use Rattle.wire.specs.declared.Side.TheVariants.{Companion}
use Rattle.wire.specs.declared.Phase.{Phase}
use Rattle.wire.specs.declared.Phase.TheVariants.{Idle, Write}
use Rattle.calendar.specs.Next.{is_valid}
use Rattle.fm3130_registers.specs.Control.{control_after}
use Rattle.fm3130_companion.specs.Change.{with_address}
use Rattle.fm3130_companion.specs.Write.{core_written, control_written, byte_stored, written_of}
use Rattle.fm3130_companion.specs.Part.{stepped_of, store_of, tick_of}
use Rattle.fm3130_companion.specs.Part.{Taken}
use Rattle.fm3130.specs.declared.State.{State}
use Rattle.fm3130_list.specs.Run.{Ended, run_of}
use Rattle.fm3130_list.proofs.Pieces.{run_append}
use Rattle.wire_clocks.specs.Clocks.{nine_clocks}
use Rattle.law_transfers.proofs.Runs.{Leads, leads_then, start_leads}
use Rattle.law_transfers.proofs.Written.{on_bus}
use Rattle.law_registers.specs.Ticks.{ticks}
use Rattle.law_registers.specs.Setting.{write_registers}
use Rattle.law_registers.proofs.Clocking.{Desk}
use Rattle.law_registers.proofs.Ticks.{ticked, ticks_lead}
use Rattle.law_registers.proofs.Storing.{slave_write, pointer_byte_lem, byte_stored_lem, stop_leads}
use Rattle.law_registers.proofs.Written.{stored_is, past_control}
use Rattle.law_registers.proofs.Control.{not_refused}
use Rattle.law_registers.proofs.Held.{Leaves, tick_leaves, still_held}

-- a list of events leads to a state, the memory kept
pub record Goes (s : State) (m es : List ℕ) (s' : State) : Type 0 where
  pub state : (run_of s m es).state ≡ s'
  pub memory : (run_of s m es).memory ≡ m

pub of_leads : {s s' : State} {m es : List ℕ} {ls : List Bool} → Leads s m es s' m ls → Goes s m es s'
of_leads l = record { state = l.state; memory = l.memory }

pub goes_then : {s s' s'' : State} {m xs ys : List ℕ} → Goes s m xs s' → Goes s' m ys s'' → Goes s m (xs ++ ys) s''
goes_then {s} {m = m} {xs = xs} {ys = ys} p q =
    let e = run_append s m xs ys in
    record {
      state = ap (λ (z : Ended). z.state) e ∙ rw (p.state, p.memory) q.state;
      memory = ap (λ (z : Ended). z.memory) e ∙ rw (p.state, p.memory) q.memory;
    }

-- W of 00h after its write is the byte's
pub control_low : (old b : ℕ) → has (control_after old b) 0x02 ≡ has b 0x02
control_low old b =
    by_cond (λ (x : ℕ). eqb ((x + old / 32 % 4 * 32 + only (has old 16 && has b 16) 16 + b % 16) / 2 % 2) 1 ≡ has b 0x02)
    (has old 128 && has b 128) (λ h. por 128 (omega arith)) (λ h. por 0 (omega arith))
  where
    por : (x : ℕ) → x % 32 ≡ 0
        → eqb ((x + old / 32 % 4 * 32 + only (has old 16 && has b 16) 16 + b % 16) / 2 % 2) 1 ≡ has b 0x02
    por x z =
        by_cond (λ (y : ℕ). eqb ((x + old / 32 % 4 * 32 + y + b % 16) / 2 % 2) 1 ≡ has b 0x02) (has old 16 && has b 16)
        (λ h. let e : (x + old / 32 % 4 * 32 + 16 + b % 16) / 2 % 2 ≡ b / 2 % 2 = omega arith in rw e)
        (λ h. let e : (x + old / 32 % 4 * 32 + 0 + b % 16) / 2 % 2 ≡ b / 2 % 2 = omega arith in rw e)

-- one of 02h to 08h, with W at 1
pub time_writes : (c : Desk) (b : ℕ) → 2 ≤ c.address → c.address ≤ 8 → has c.registers.control 0x02 ≡ true
    → store_of c b ≡ record { companion = stepped_of (byte_stored c b); acknowledged = true }
time_writes c b l g w =
    let written : written_of c b ≡ byte_stored c b =
    rw (ne_eqb c.address 0 (λ z. omega arith), ne_eqb c.address 1 (λ z. omega arith), le-leb c.address 8 g, w) in
    stored_is c b (past_control c b (omega arith))
    ∙ ap (λ (k : Desk). record { companion = stepped_of k; acknowledged = true }) written

module _ (a : ℕ) (m : List ℕ) where
  -- a data byte that the companion takes so
  pub taken : (c k : Desk) (b : ℕ) → b < 256 → store_of c b ≡ record { companion = k; acknowledged = true }
      → Leads (on_bus (Write Companion 0 0) a c) m (nine_clocks b true) (on_bus (Write Companion 0 0) a k) m (nine_bits b false)
  taken c k b l e =
      subst (λ (t : Taken). Leads (on_bus (Write Companion 0 0) a c) m (nine_clocks b true)
      (on_bus (Write Companion 0 0) a t.companion) m (nine_bits b false)) e
      (byte_stored_lem a m c b true l (ap (λ (t : Taken). t.acknowledged) e))

  -- a transaction that writes 00h alone
  pub control_goes : (p : Phase) (c k : Desk) (b : ℕ) → b < 256
      → store_of (with_address c 0) b ≡ record { companion = k; acknowledged = true }
      → Goes (on_bus p a c) m (write_registers 0 (b ∷ [])) (on_bus Idle a k)
  control_goes p c k b l e =
      of_leads
      (leads_then (start_leads (on_bus p a c) m refl)
      (leads_then (slave_write a m c)
      (leads_then (pointer_byte_lem a m c 0 (omega arith))
      (leads_then (taken (with_address c 0) k b l e) (stop_leads a m k (Write Companion 0 0))))))

  pub ticks_go : (p : Phase) (c : Desk) (n : ℕ) → Goes (on_bus p a c) m (ticks n) (on_bus p a (ticked n c))
  ticks_go p c n = of_leads (ticks_lead p a m n c)

-- any number of ticks while W is 1
pub ticks_leave : (n : ℕ) (c : Desk) → (has c.registers.control 0x02 || has c.registers.control 0x01) ≡ true
    → Leaves c (ticked n c)
ticks_leave zero c h = record { time = refl; low = refl }
ticks_leave (suc n) c h =
    let l = tick_leaves c h in
    let r = ticks_leave n (tick_of c) (still_held c (tick_of c) l h) in
    record { time = r.time ∙ l.time; low = r.low ∙ l.low }

pub w_stays : (c c' : Desk) → Leaves c c' → has c.registers.control 0x02 ≡ true → has c'.registers.control 0x02 ≡ true
w_stays c c' l w =
    let e = l.low in
    let h : c'.registers.control / 2 % 2 ≡ c.registers.control / 2 % 2 = omega arith in
    rw h w

-- a write of 00h that is not refused
pub control_stored : (c : Desk) (b : ℕ)
    → (has c.registers.control 0x02 ≡ true → has b 0x02 ≡ false → is_valid c.registers.time ≡ true)
    → store_of (with_address c 0) b ≡ record { companion = stepped_of (control_written (with_address c 0) b); acknowledged = true }
control_stored c b h =
    stored_is (with_address c 0) b (not_refused (has c.registers.control 0x02) (has b 0x02) (is_valid c.registers.time) h)

-- 02h to 08h where the core has just taken them
shown_core : {A : Type 0} (x : A) (p q : Bool) → cond p (cond q x x) x ≡ x
shown_core x true true = refl
shown_core x true false = refl
shown_core x false q = refl

module _ (c : Desk) (b : ℕ) (w : has c.registers.control 0x02 ≡ true) (f : has b 0x02 ≡ false) where
  pub core_loaded_lem : core_written (with_address c 0) b ≡ c.registers.time
  core_loaded_lem = rw (w, f)

  pub time_shown : (control_written (with_address c 0) b).registers.time ≡ c.registers.time
  time_shown =
      rw core_loaded_lem
      (shown_core c.registers.time (has b 0x02 || has b 0x01) (has b 0x01 && not (has c.registers.control 0x01)))
