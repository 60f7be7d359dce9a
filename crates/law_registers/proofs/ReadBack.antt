-- SPDX-License-Identifier: Apache-2.0
-- Each register written and read back: the write leads to what the companion makes of the byte at the address, the read sends
-- that register, and what the register then has is the law of its kind (proofs/Written.antt, proofs/Control.antt).
use Prim.Native.Nat.{ℕ, zero, suc, ◌≤◌, ◌<◌}
use mathlib.Core.Path.{◌≡◌, refl, sym, ap, ◌∙◌}
use mathlib.Core.Bool.{Bool, true, false}
use mathlib.Core.List.{List, [], ◌∷◌, ◌++◌}
use native.Mathlib.Omega.{arith}
use lib.Dec.{leb}
use lib.ListN.{get_or, set}
use lib.Seq.{get_or-set_same}
use borrow.Author.Tests.{eq-eqb, ne_eqb, leb-true, leb-false}
use Rattle.bits.specs.Weight.{has}
use Rattle.wire.specs.HighFirst.{sent_bits}
use Rattle.wire.specs.Whole.{eight}
use Rattle.wire.specs.declared.Side.TheVariants.{Companion}
use Rattle.wire.specs.declared.Phase.TheVariants.{Idle, Write}
use Rattle.bus.specs.declared.Power.TheVariants.{On}
use Rattle.calendar.specs.Next.{is_valid}
use Rattle.fm3130_companion.specs.Change.{with_address}
use Rattle.fm3130_companion.specs.Registers.{register_bytes}
use Rattle.fm3130_companion.specs.Part.{store_of}
use Rattle.fm3130_companion.specs.Part.{Taken}
use Rattle.fm3130.specs.declared.State.{State}
use Rattle.fm3130_list.specs.Run.{Ended, run_of}
use Rattle.fm3130_list.proofs.Pieces.{run_append}
use Rattle.wire_clocks.specs.Clocks.{clocks_of, lines_of}
use Rattle.law_transfers.proofs.Runs.{leads_then, start_leads}
use Rattle.law_transfers.proofs.Written.{on_bus}
use Rattle.law_registers.specs.Written.{after_byte}
use Rattle.law_registers.specs.ReadOut.{open_read}
use Rattle.law_registers.specs.Setting.{write_registers}
use Rattle.law_registers.specs.ReadBack.{kept_at, ReadBack}
use Rattle.law_registers.proofs.Clocking.{Desk}
use Rattle.law_registers.proofs.Storing.{slave_write, pointer_byte_lem, byte_stored_lem, stop_leads}
use Rattle.law_registers.proofs.Written.{stored_is, past_control, trim_written_lem, time_written_lem, time_left, alarm_written}
use Rattle.law_registers.proofs.Control.{control_written_lem}
use Rattle.law_registers.proofs.Going.{Goes, of_leads, control_stored}
use Rattle.law_registers.proofs.ReadOut.{read_out}

module _ (s : State) (m : List ℕ) (a b : ℕ) (high : a ≤ 14) (byte : b < 256)
    (good : a ≡ 0 → has s.companion.registers.control 0x02 ≡ true → has b 0x02 ≡ false
    → is_valid s.companion.registers.time ≡ true) where
  abbrev aimed : Desk
  aimed = with_address s.companion a

  -- where the data byte begins
  abbrev begun : State
  begun = on_bus (Write Companion 0 0) s.address aimed

  acknowledged : (x : ℕ) → a ≡ x → (store_of aimed b).acknowledged ≡ true
  acknowledged zero e = rw e (ap (λ (t : Taken). t.acknowledged) (control_stored s.companion b (good e)))
  acknowledged (suc x) e = ap (λ (t : Taken). t.acknowledged) (stored_is aimed b (past_control aimed b (omega arith)))

  -- the register after the byte
  abbrev now : ℕ
  now = get_or (register_bytes (after_byte begun m b true).registers) a 0

  set_there : (x : ℕ) → register_bytes (after_byte begun m b true).registers
      ≡ set (register_bytes s.companion.registers) a x → now ≡ x
  set_there x e = ap (λ (l : List ℕ). get_or l a 0) e ∙ get_or-set_same (register_bytes s.companion.registers) a x 0 (omega arith)

  kept_past : (t w : Bool) → 2 ≤ a → leb a 8 ≡ t → has s.companion.registers.control 0x02 ≡ w
      → now ≡ kept_at s.companion.registers a b
  kept_past true true l t w =
      set_there _ (time_written_lem begun m b true refl refl byte l (leb-true a 8 t) w).registers
      ∙ rw (ne_eqb a 0 (λ z. omega arith), ne_eqb a 1 (λ z. omega arith), t, w)
  kept_past true false l t w =
      ap (λ (x : List ℕ). get_or x a 0) (time_left begun m b true refl refl byte l (leb-true a 8 t) w).registers
      ∙ rw (ne_eqb a 0 (λ z. omega arith), ne_eqb a 1 (λ z. omega arith), t, w)
  kept_past false w l t e =
      set_there _ (alarm_written begun m b true refl refl byte (leb-false a 8 t) high).registers
      ∙ rw (ne_eqb a 0 (λ z. omega arith), ne_eqb a 1 (λ z. omega arith), t)

  kept : (x : ℕ) → a ≡ x → now ≡ kept_at s.companion.registers a b
  kept zero e =
      ap (λ (x : ℕ). get_or (register_bytes (after_byte begun m b true).registers) x 0) e
      ∙ ((control_written_lem begun m b true refl refl byte e (good e)).control ∙ rw (eq-eqb a 0 e))
  kept (suc zero) e =
      set_there _ (trim_written_lem begun m b true refl refl byte e).registers
      ∙ rw (ne_eqb a 0 (λ z. omega arith), eq-eqb a 1 e)
  kept (suc (suc x)) e = kept_past (leb a 8) (has s.companion.registers.control 0x02) (omega arith) refl refl

  -- the whole write
  writes : s.power ≡ On → Goes s m (write_registers a (b ∷ [])) (on_bus Idle s.address (store_of aimed b).companion)
  writes on =
      of_leads
      (leads_then (start_leads s m on)
      (leads_then (slave_write s.address m s.companion)
      (leads_then (pointer_byte_lem s.address m s.companion a high)
      (leads_then (byte_stored_lem s.address m aimed b true byte (acknowledged a refl))
      (stop_leads s.address m (store_of aimed b).companion (Write Companion 0 0))))))

pub read_back : ReadBack
read_back s m a b on high byte good =
    let aim = with_address s.companion a in
    let k = (store_of aim b).companion in
    let w = writes s m a b high byte good on in
    let ds = eight true true true true true true true true in
    let e = run_append s m (write_registers a (b ∷ [])) (open_read a) in
    let opened : (run_of s m (write_registers a (b ∷ []) ++ open_read a)).state ≡ (run_of (on_bus Idle s.address k) m (open_read a)).state =
    ap (λ (z : Ended). z.state) e ∙ rw (w.state, w.memory) in
    let stored = byte_stored_lem s.address m aim b true byte (acknowledged s m a b high byte good a refl) in
    let there = ap (λ (z : State). get_or (register_bytes z.companion.registers) a 0) (sym stored.state) in
    ap (λ (z : State). lines_of (run_of z m (clocks_of ds)).answers) opened
    ∙ (read_out (on_bus Idle s.address k) m a refl high ∙ ap sent_bits (there ∙ kept s m a b high byte good a refl))
