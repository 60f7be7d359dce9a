-- SPDX-License-Identifier: Apache-2.0
-- A bad date refused at the eighth clock: over any part eight clocks of a refused byte end the transfer; at the FM3130 the byte is
-- refused because 02h to 08h are no date. Where no transfer is, Clocks change nothing.
use Prim.Native.Nat.{ℕ, ◌<◌}
use mathlib.Core.Path.{◌≡◌, sym, ap, subst}
use mathlib.Core.Bool.{Bool, true, false}
use mathlib.Core.List.{List, [], ◌∷◌}
use native.Mathlib.Omega.{arith}
use Rattle.bits.specs.Weight.{has}
use Rattle.wire.specs.Bits.{place_at}
use Rattle.wire.specs.Clock.{kept, received_at}
use Rattle.wire.specs.HighFirst.{sent_bits}
use Rattle.wire.specs.Memory.{lent}
use Rattle.wire.specs.Machine.{Parts, clocked, lined}
use Rattle.wire.specs.Whole.{clocks_on}
use Rattle.wire.specs.declared.Side.TheVariants.{Companion}
use Rattle.wire.specs.declared.Phase.TheVariants.{Idle, Write}
use Rattle.wire.proofs.Whole.{made_of, made, in_phase}
use Rattle.bus.specs.declared.Power.TheVariants.{On}
use Rattle.calendar.specs.Next.{is_valid}
use Rattle.fm3130_companion.specs.Change.{with_address}
use Rattle.fm3130_companion.specs.Part.{store_of, refused_date}
use Rattle.fm3130_companion.specs.Part.{Taken}
use Rattle.fm3130.specs.Chip.{fm3130}
use Rattle.fm3130.specs.declared.State.{State}
use Rattle.wire_clocks.specs.Clocks.{clock_event, clocks_of, eight_clocks}
use Rattle.law_transfers.proofs.Runs.{Leads, leads_then, led, start_leads}
use Rattle.law_transfers.proofs.Written.{on_bus}
use Rattle.law_registers.specs.BadDate.{up_to_eighth, Unheard, NoBadDate}
use Rattle.law_registers.proofs.Clocking.{Desk, clock_leads}
use Rattle.law_registers.proofs.Ticks.{stays}
use Rattle.law_registers.proofs.Storing.{slave_write, pointer_byte_lem}
use Rattle.law_registers.proofs.Going.{Goes, of_leads}

module _ (P : Parts) (m : P.Cells) (c : P.Desk) (b : ℕ) where
  eight_refused : (P.store c (made_of b)).good ≡ false
      → clocks_on P (in_phase P m c (Write Companion 0 0)) (sent_bits b)
      ≡ record {
        state = record { phase = Idle; memory = m; companion = (P.store c (made_of b)).next };
        lines = sent_bits b;
      }
  unfolding lined clocked received_at place_at kept
  eight_refused e = rw e

module _ (a : ℕ) (m : List ℕ) (c : Desk) where
  eight_leads : (b : ℕ) → b < 256 → (store_of c b).acknowledged ≡ false
      → Leads (on_bus (Write Companion 0 0) a c) m (eight_clocks b) (on_bus Idle a (store_of c b).companion) m (sent_bits b)
  eight_leads b h e =
      rw (made b h) at
      (led _ _ (sent_bits b) (sent_bits b) (eight_refused fm3130 (lent m a) c b (rw (made b h) e)))

  -- Clocks where no transfer is
  idle_clock : (d : Bool) → Leads (on_bus Idle a c) m (clock_event d ∷ []) (on_bus Idle a c) m (d ∷ [])
  unfolding clocked
  idle_clock d = clock_leads Idle a m c d

  idle_clocks : (ds : List Bool) → Leads (on_bus Idle a c) m (clocks_of ds) (on_bus Idle a c) m ds
  idle_clocks [] = stays (on_bus Idle a c) m
  idle_clocks (d ∷ ds) = leads_then (idle_clock d) (idle_clocks ds)

module _ (s : State) (m : List ℕ) (b : ℕ) (byte : b < 256) (w : has s.companion.registers.control 0x02 ≡ true)
    (falls : has b 0x02 ≡ false) (bad : is_valid s.companion.registers.time ≡ false) where
  abbrev aimed : Desk
  aimed = with_address s.companion 0

  date_refused : store_of aimed b ≡ refused_date aimed
  unfolding store_of
  date_refused = rw (w, falls, bad)

  refused_run : s.power ≡ On → Goes s m (up_to_eighth b) (on_bus Idle s.address (with_address s.companion 1))
  refused_run on =
      of_leads
      (leads_then (start_leads s m on)
      (leads_then (slave_write s.address m s.companion)
      (leads_then (pointer_byte_lem s.address m s.companion 0 (omega arith))
      (subst (λ (t : Taken). Leads (on_bus (Write Companion 0 0) s.address aimed) m (eight_clocks b)
      (on_bus Idle s.address t.companion) m (sent_bits b)) date_refused
      (eight_leads s.address m aimed b byte (ap (λ (t : Taken). t.acknowledged) date_refused))))))

pub no_bad_date : NoBadDate
no_bad_date s m b on byte w falls bad =
    let run = refused_run s m b byte w falls bad on in
    let c = with_address s.companion 1 in
    record {
      registers = ap (λ (z : State). z.companion.registers) run.state;
      core = ap (λ (z : State). z.companion.core) run.state;
      companion_address = ap (λ (z : State). z.companion.address) run.state;
      address = ap (λ (z : State). z.address) run.state;
      ended = ap (λ (z : State). z.phase) run.state;
      memory = run.memory;
      unheard =
          λ ds. let idle = idle_clocks s.address m c ds in
          subst (λ (z : State). Unheard z m ds) (sym run.state)
          (record { lines = idle.lines; state = idle.state; memory = idle.memory });
    }
