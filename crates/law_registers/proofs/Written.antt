-- SPDX-License-Identifier: Apache-2.0
-- Each register written: the clocks lead to what the companion makes of the byte, which its address chooses; what is stored is
-- what the masks leave.
use Prim.Native.Nat.{ℕ, ◌+◌, ◌%◌, ◌≤◌, ◌<◌}
use mathlib.Core.Path.{◌≡◌, refl, sym, ap, subst, ◌∙◌}
use mathlib.Core.Bool.{Bool, true, false}
use mathlib.Core.List.{List}
use native.Mathlib.Omega.{arith}
use lib.ListN.{set}
use borrow.Author.Tests.{eq-eqb, ne_eqb, le-leb, lt-leb}
use Rattle.bits.specs.Weight.{has}
use Rattle.wire.specs.declared.Side.TheVariants.{Companion}
use Rattle.wire.specs.declared.Phase.TheVariants.{Write}
use Rattle.fm3130_companion.specs.Registers.{register_bytes}
use Rattle.fm3130_companion.specs.Write.{trim_written, byte_stored, written_of}
use Rattle.fm3130_companion.specs.Part.{stepped_of, loads_bad_date, store_of}
use Rattle.fm3130_companion.specs.Part.{Taken}
use Rattle.fm3130_companion.proofs.Bytes.{bytes_of_put}
use Rattle.fm3130.specs.declared.State.{State}
use Rattle.wire_clocks.specs.Clocks.{last_line}
use Rattle.law_transfers.proofs.Written.{on_bus}
use Rattle.law_registers.specs.Written.{masked, mask_at, trim_bits, with_byte, Stores, OfWrites, TrimWritten, TimeWritten, TimeLeft, AlarmWritten}
use Rattle.law_registers.proofs.Clocking.{Desk, on_bus_lem}
use Rattle.law_registers.proofs.Masks.{stored_masked, trim_masked}
use Rattle.law_registers.proofs.Storing.{byte_stored_lem}

-- a byte that is not refused is written, and the address steps on
pub stored_is : (c : Desk) (b : ℕ) → loads_bad_date c b ≡ false
    → store_of c b ≡ record { companion = stepped_of (written_of c b); acknowledged = true }
unfolding store_of
stored_is c b e = rw e

-- past 00h no byte is refused
pub past_control : (c : Desk) (b : ℕ) → 1 ≤ c.address → loads_bad_date c b ≡ false
past_control c b h = rw (ne_eqb c.address 0 (λ e. omega arith))

-- from a state on the bus to every state
pub of_writes : (X : State → List ℕ → ℕ → Bool → Type 0)
    → ((a : ℕ) (m : List ℕ) (c : Desk) (b : ℕ) (d : Bool) → b < 256 → X (on_bus (Write Companion 0 0) a c) m b d) → OfWrites X
of_writes X h s m b d on e l = subst (λ (z : State). X z m b d) (sym (on_bus_lem s on e)) (h s.address m s.companion b d l)

module _ (a : ℕ) (m : List ℕ) (c : Desk) (b : ℕ) (d : Bool) (l : b < 256) where
  abbrev begun : State
  begun = on_bus (Write Companion 0 0) a c

  -- a register from 01h on, where the address chooses this companion
  stores_by : (k : Desk) (bytes : List ℕ) → 1 ≤ c.address → written_of c b ≡ k → register_bytes k.registers ≡ bytes
      → k.core ≡ c.core → k.address ≡ c.address → Stores begun m b d bytes
  stores_by k bytes h w r q p =
      let e = stored_is c b (past_control c b h) in
      let run = byte_stored_lem a m c b d l (ap (λ (t : Taken). t.acknowledged) e) in
      let left = ap (λ (z : State). z.companion) run.state ∙ (ap (λ (t : Taken). t.companion) e ∙ ap stepped_of w) in
      record {
        registers = ap (λ (z : Desk). register_bytes z.registers) left ∙ r;
        core = ap (λ (z : Desk). z.core) left ∙ q;
        companion_address = ap (λ (z : Desk). z.address) left ∙ ap (λ (z : ℕ). (z + 1) % 15) p;
        acknowledged = ap last_line run.lines;
        memory = run.memory;
      }

  trim_stores : c.address ≡ 1
      → Stores begun m b d (with_byte begun (trim_bits c.registers.control c.registers.trim b))
  trim_stores e =
      stores_by (trim_written c b) _ (omega arith)
      (rw (ne_eqb c.address 0 (λ z. omega arith), eq-eqb c.address 1 e))
      (bytes_of_put c.registers 1 _ (omega arith)
      ∙ rw (e, trim_masked c.registers.control c.registers.trim b l)) refl refl

  -- a register that stores the byte
  put_stores : 1 ≤ c.address → c.address ≤ 14 → 2 ≤ c.address → written_of c b ≡ byte_stored c b
      → Stores begun m b d (with_byte begun (masked (mask_at c.address) b))
  put_stores h g t w =
      stores_by (byte_stored c b) _ h w
      (bytes_of_put c.registers c.address _ (omega arith)
      ∙ ap (λ (x : ℕ). set (register_bytes c.registers) c.address x) (stored_masked b l c.address t g)) refl refl

  time_stores : 2 ≤ c.address → c.address ≤ 8 → has c.registers.control 0x02 ≡ true
      → Stores begun m b d (with_byte begun (masked (mask_at c.address) b))
  time_stores t g w =
      put_stores (omega arith) (omega arith) t
      (rw (
        ne_eqb c.address 0 (λ z. omega arith),
        ne_eqb c.address 1 (λ z. omega arith),
        le-leb c.address 8 g,
        w,
      ))

  time_stays : 2 ≤ c.address → c.address ≤ 8 → has c.registers.control 0x02 ≡ false
      → Stores begun m b d (register_bytes c.registers)
  time_stays t g w =
      stores_by c _ (omega arith)
      (rw (
        ne_eqb c.address 0 (λ z. omega arith),
        ne_eqb c.address 1 (λ z. omega arith),
        le-leb c.address 8 g,
        w,
      ))
      refl refl refl

  alarm_stores : 9 ≤ c.address → c.address ≤ 14
      → Stores begun m b d (with_byte begun (masked (mask_at c.address) b))
  alarm_stores t g =
      put_stores (omega arith) g (omega arith)
      (rw (
        ne_eqb c.address 0 (λ z. omega arith),
        ne_eqb c.address 1 (λ z. omega arith),
        lt-leb c.address 8 (omega arith),
      ))

pub trim_written_lem : TrimWritten
trim_written_lem = of_writes _ trim_stores

pub time_written_lem : TimeWritten
time_written_lem = of_writes _ time_stores

pub time_left : TimeLeft
time_left = of_writes _ time_stays

pub alarm_written : AlarmWritten
alarm_written = of_writes _ alarm_stores
