-- SPDX-License-Identifier: Apache-2.0
-- A register read over the wire: the opening leads to a read at the register's address, which sends the register.
use Prim.Native.Nat.{ℕ, ◌≤◌}
use mathlib.Core.Path.{◌≡◌, refl, ap, ◌∙◌}
use mathlib.Core.Bool.{true}
use mathlib.Core.List.{List}
use Rattle.wire.specs.Whole.{eight}
use Rattle.wire.specs.declared.Side.TheVariants.{Companion}
use Rattle.wire.specs.declared.Phase.TheVariants.{Read, Write}
use Rattle.bus.specs.declared.Power.TheVariants.{On}
use Rattle.fm3130_companion.specs.Change.{with_address}
use Rattle.fm3130.specs.declared.State.{State}
use Rattle.fm3130_list.specs.Run.{run_of}
use Rattle.wire_clocks.specs.Clocks.{clocks_of, lines_of}
use Rattle.law_transfers.proofs.Runs.{leads_then, start_leads}
use Rattle.law_transfers.proofs.Sends.{register_sends}
use Rattle.law_transfers.proofs.Written.{on_bus}
use Rattle.law_registers.specs.ReadOut.{open_read, ReadOut}
use Rattle.law_registers.proofs.Storing.{slave_write, slave_read, pointer_byte_lem}
use Rattle.law_registers.proofs.Going.{Goes, of_leads}

-- the opening of a read
pub opens : (s : State) (m : List ℕ) (a : ℕ) → s.power ≡ On → a ≤ 14
    → Goes s m (open_read a) (on_bus (Read Companion 0 0) s.address (with_address s.companion a))
opens s m a on l =
    let c = s.companion in
    let k = with_address c a in
    of_leads
    (leads_then (start_leads s m on)
    (leads_then (slave_write s.address m c)
    (leads_then (pointer_byte_lem s.address m c a l)
    (leads_then (start_leads (on_bus (Write Companion 0 0) s.address k) m refl) (slave_read s.address m k)))))

pub read_out : ReadOut
read_out s m a on l =
    let k = with_address s.companion a in
    let ds = eight true true true true true true true true in
    ap (λ (z : State). lines_of (run_of z m (clocks_of ds)).answers) (opens s m a on l).state
    ∙ (register_sends (on_bus (Read Companion 0 0) s.address k) m 0 true true true true true true true true refl refl).lines
