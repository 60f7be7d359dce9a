-- SPDX-License-Identifier: Apache-2.0
-- Ticks inside the transaction that sets the clock. Ticks leave the phase, and while W is 1 also 02h to 08h; so the byte is stored at
-- its eighth clock as without them, and the core is what all the ticks make of it, for it follows no register.
use Prim.Native.Nat.{ℕ, ◌≤◌, ◌<◌}
use mathlib.Core.Path.{◌≡◌, refl, sym, ap, subst, ◌∙◌}
use mathlib.Core.Bool.{Bool, true, false, ◌||◌}
use mathlib.Core.List.{List, [], ◌∷◌, ◌++◌}
use native.Mathlib.Omega.{arith}
use lib.Dec.{eqb}
use lib.ListN.{length, drop, get_or, set, replicate}
use lib.Seq.{get_or-set_same, get_or-set_other}
use borrow.Author.Tests.{eqb-true, eqb-false}
use Rattle.bits.specs.Weight.{has}
use Rattle.wire.proofs.Tests.{by_test}
use Rattle.wire.specs.Bits.{place_at, pushed, sent_bit}
use Rattle.wire.specs.Clock.{kept, received_at}
use Rattle.wire.specs.Machine.{clocked}
use Rattle.wire.specs.Whole.{nine_bits}
use Rattle.wire.specs.declared.Side.TheVariants.{Companion}
use Rattle.wire.specs.declared.Phase.{Phase}
use Rattle.wire.specs.declared.Phase.TheVariants.{Write}
use Rattle.wire.proofs.Whole.{made_of, made}
use Rattle.fm3130_companion.specs.Registers.{register_bytes}
use Rattle.fm3130_companion.specs.Write.{byte_stored}
use Rattle.fm3130_companion.specs.Part.{stepped_of, store_of}
use Rattle.fm3130_companion.specs.Part.{Taken}
use Rattle.fm3130_companion.proofs.Bytes.{bytes_of_put}
use Rattle.fm3130_registers.specs.Stored.{stored_at}
use Rattle.fm3130.specs.declared.State.{State}
use Rattle.wire_clocks.specs.Clocks.{clock_event, last_line}
use Rattle.law_transfers.proofs.Runs.{Leads}
use Rattle.law_transfers.proofs.Written.{on_bus}
use Rattle.law_registers.specs.Ticks.{total, spaced, after_ticks}
use Rattle.law_registers.specs.Written.{masked, mask_at}
use Rattle.law_registers.specs.Snapshot.{counts_in}
use Rattle.law_registers.specs.Among.{nine_counts, written_among, StoredAmong, SetAmongTicks}
use Rattle.law_registers.proofs.Ticks.{ticked, ticked_all, ticked_all_lem, ticked_address, after_ticks_lem, paced, stays}
use Rattle.law_registers.proofs.Clocking.{Desk, clock_leads, on_bus_lem}
use Rattle.law_registers.proofs.Masks.{stored_masked}
use Rattle.law_registers.proofs.Held.{Leaves}
use Rattle.law_registers.proofs.Going.{time_writes, ticks_leave, w_stays}
use Rattle.law_registers.proofs.Later.{ticks_rise}
use Rattle.law_registers.proofs.Put.{Beside, time_bytes_lem, beside}
use Rattle.law_registers.proofs.Ways.{store_eighth}

-- the last line of some, whatever lines come before
last_append : (xs : List Bool) (y : Bool) (ys : List Bool) → last_line (xs ++ (y ∷ ys)) ≡ last_line (y ∷ ys)
last_append [] y ys = refl
last_append (x ∷ []) y ys = refl
last_append (x ∷ z ∷ xs) y ys = last_append (z ∷ xs) y ys

-- so of lines each after others
last_spaced : (ns : List ℕ) (n : ℕ) (ys : List Bool) (y : Bool) → length ns ≡ length ys
    → last_line (spaced true (n ∷ ns) (y ∷ ys)) ≡ last_line (y ∷ ys)
last_spaced [] n [] y e = last_append (replicate n true) y []
last_spaced [] n (z ∷ ys) y e = absurd (omega arith)
last_spaced (k ∷ ns) n [] y e = absurd (omega arith)
last_spaced (k ∷ ns) n (z ∷ ys) y e =
    last_append (replicate n true) y (spaced true (k ∷ ns) (z ∷ ys))
    ∙ (last_append (y ∷ replicate k true) z (spaced true ns ys)
    ∙ (sym (last_append (replicate k true) z (spaced true ns ys)) ∙ last_spaced ns k ys z (omega arith)))

-- the nine clocks, each after its ticks
module _ (a : ℕ) (m : List ℕ) (c : Desk) (n : ℕ → ℕ) (b : ℕ) (d : Bool) where
  abbrev there : Desk
  there = ticked_all (counts_in n) c

  nine_run : (store_of there (made_of b)).acknowledged ≡ true
      → Leads (on_bus (Write Companion 0 0) a c) m (written_among n b d)
      (on_bus (Write Companion 0 0) a (ticked (n 8) (store_of there (made_of b)).companion)) m
      (spaced true (nine_counts n) (nine_bits b false))
  unfolding clocked received_at place_at kept
  nine_run e =
      let c₀ = ticked (n 0) c in
      let c₁ = ticked (n 1) c₀ in
      let c₂ = ticked (n 2) c₁ in
      let c₃ = ticked (n 3) c₂ in
      let c₄ = ticked (n 4) c₃ in
      let c₅ = ticked (n 5) c₄ in
      let c₆ = ticked (n 6) c₅ in
      let c₇ = ticked (n 7) c₆ in
      let b₁ = pushed 0 (sent_bit 0 b) in
      let b₂ = pushed b₁ (sent_bit 1 b) in
      let b₃ = pushed b₂ (sent_bit 2 b) in
      let b₄ = pushed b₃ (sent_bit 3 b) in
      let b₅ = pushed b₄ (sent_bit 4 b) in
      let b₆ = pushed b₅ (sent_bit 5 b) in
      let b₇ = pushed b₆ (sent_bit 6 b) in
      let b₈ = pushed b₇ (sent_bit 7 b) in
      let left = (store_of c₇ b₈).companion in
      let p : ℕ → ℕ → Phase = λ k x. Write Companion k x in
      paced (p 0 0) a m (n 0) (clock_event (sent_bit 0 b)) c (clock_leads (p 0 0) a m c₀ (sent_bit 0 b))
      (paced (p 1 b₁) a m (n 1) (clock_event (sent_bit 1 b)) c₀ (clock_leads (p 1 b₁) a m c₁ (sent_bit 1 b))
      (paced (p 2 b₂) a m (n 2) (clock_event (sent_bit 2 b)) c₁ (clock_leads (p 2 b₂) a m c₂ (sent_bit 2 b))
      (paced (p 3 b₃) a m (n 3) (clock_event (sent_bit 3 b)) c₂ (clock_leads (p 3 b₃) a m c₃ (sent_bit 3 b))
      (paced (p 4 b₄) a m (n 4) (clock_event (sent_bit 4 b)) c₃ (clock_leads (p 4 b₄) a m c₄ (sent_bit 4 b))
      (paced (p 5 b₅) a m (n 5) (clock_event (sent_bit 5 b)) c₄ (clock_leads (p 5 b₅) a m c₅ (sent_bit 5 b))
      (paced (p 6 b₆) a m (n 6) (clock_event (sent_bit 6 b)) c₅ (clock_leads (p 6 b₆) a m c₆ (sent_bit 6 b))
      (paced (p 7 b₇) a m (n 7) (clock_event (sent_bit 7 b)) c₆ (store_eighth a m c₇ b₇ b e)
      (paced (p 8 b₈) a m (n 8) (clock_event d) left (clock_leads (p 8 b₈) a m (ticked (n 8) left) d) (stays _ _)))))))))

module _ (a : ℕ) (m : List ℕ) (c : Desk) (n : ℕ → ℕ) (b : ℕ) (d : Bool) (byte : b < 256)
    (low : 2 ≤ c.address) (high : c.address ≤ 8) (w : has c.registers.control 0x02 ≡ true) where
  abbrev here : State
  here = on_bus (Write Companion 0 0) a c

  abbrev before : Desk
  before = ticked_all (counts_in n) c

  abbrev stored : Desk
  stored = byte_stored before b

  abbrev left : Desk
  left = ticked (n 8) (stepped_of stored)

  before_is : before ≡ ticked (total (counts_in n)) c
  before_is = ticked_all_lem (counts_in n) c

  before_leaves : Leaves c before
  before_leaves = subst (Leaves c) (sym before_is) (ticks_leave (total (counts_in n)) c (rw w))

  before_w : has before.registers.control 0x02 ≡ true
  before_w = w_stays c before before_leaves w

  before_address : before.address ≡ c.address
  before_address = ap (λ (z : Desk). z.address) before_is ∙ ticked_address (total (counts_in n)) c

  taken : store_of before b ≡ record { companion = stepped_of stored; acknowledged = true }
  taken = time_writes before b (rw before_address low) (rw before_address high) before_w

  run : Leads here m (written_among n b d) (on_bus (Write Companion 0 0) a left) m (spaced true (nine_counts n) (nine_bits b false))
  run =
      let whole = nine_run a m c n b d (rw (made b byte) (ap (λ (t : Taken). t.acknowledged) taken)) in
      let e : (store_of before (made_of b)).companion ≡ stepped_of stored = rw (made b byte) (ap (λ (t : Taken). t.companion) taken) in
      subst (λ (z : Desk). Leads here m (written_among n b d) (on_bus (Write Companion 0 0) a (ticked (n 8) z)) m
      (spaced true (nine_counts n) (nine_bits b false))) e whole

  put_beside : Beside before.registers stored.registers
  put_beside =
      beside before.registers (stored_at before.address b) before.address (rw before_address low)
      (rw before_address high)

  stored_w : has stored.registers.control 0x02 ≡ true
  stored_w = ap (λ (x : ℕ). has x 0x02) put_beside.control ∙ before_w

  left_leaves : Leaves (stepped_of stored) left
  left_leaves =
      ticks_leave (n 8) (stepped_of stored)
      (ap (λ (z : Bool). z || has stored.registers.control 0x01) stored_w)

  time_left : (k : ℕ) → 2 ≤ k → k ≤ 8 → get_or (register_bytes left.registers) k 0
      ≡ get_or (set (register_bytes c.registers) c.address (masked (mask_at c.address) b)) k 0
  time_left k l h =
      let x = masked (mask_at c.address) b in
      let same = stored_masked b byte c.address low (omega arith) in
      let put : register_bytes stored.registers ≡ set (register_bytes before.registers) c.address x =
      bytes_of_put before.registers before.address (stored_at before.address b) (rw before_address (omega arith))
      ∙ rw (before_address, same) in
      time_bytes_lem left.registers stored.registers left_leaves.time k l h
      ∙ (ap (λ (z : List ℕ). get_or z k 0) put
      ∙ by_test (eqb k c.address)
      (λ t.
      let e = eqb-true k c.address t in
      rw e
      (get_or-set_same (register_bytes before.registers) c.address x 0 (omega arith)
      ∙ sym (get_or-set_same (register_bytes c.registers) c.address x 0 (omega arith))))
      (λ t.
      let e = eqb-false k c.address t in
      get_or-set_other (register_bytes before.registers) c.address k x 0 e
      ∙ (time_bytes_lem before.registers c.registers before_leaves.time k l h
      ∙ sym (get_or-set_other (register_bytes c.registers) c.address k x 0 e))))

  core_left : left.core ≡ (ticked (n 8) before).core
  core_left =
      let k = put_beside in
      sym
      (ticks_rise false false (n 8) (stepped_of stored) before (record {
        trim = sym k.trim;
        alarm = sym k.alarm;
        core = refl;
        af_or = ap (λ (x : ℕ). has x 0x40) k.control;
        cf_or = ap (λ (x : ℕ). has x 0x20) k.control;
      })).core

  stores : StoredAmong here m n b d
  stores =
      let ends = run.state in
      let all : ticked (n 8) before ≡ after_ticks here m (total (nine_counts n)) =
      ticked_all_lem (nine_counts n) c ∙ sym (after_ticks_lem (Write Companion 0 0) a c m (total (nine_counts n))) in
      record {
        time = λ k l h. ap (λ (z : State). get_or (register_bytes z.companion.registers) k 0) ends ∙ time_left k l h;
        core = ap (λ (z : State). z.companion.core) ends ∙ (core_left ∙ ap (λ (z : Desk). z.core) all);
        companion_address =
            ap (λ (z : State). z.companion.address) ends
            ∙ (ticked_address (n 8) (stepped_of stored) ∙ rw before_address (omega arith));
        acknowledged = ap last_line run.lines ∙ last_spaced (drop 1 (nine_counts n)) (n 0) (drop 1 (nine_bits b false)) (sent_bit 0 b) refl;
        held =
            ap (λ (z : State). has z.companion.registers.control 0x02) ends
            ∙ w_stays (stepped_of stored) left left_leaves stored_w;
      }

pub set_among_ticks : SetAmongTicks
set_among_ticks s m n b d on e byte low high w =
    subst (λ (z : State). StoredAmong z m n b d) (sym (on_bus_lem s on e))
    (stores s.address m s.companion n b d byte low high w)
