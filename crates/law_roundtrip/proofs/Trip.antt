-- SPDX-License-Identifier: Apache-2.0
-- What a write and a read tell, and the round trip: the read starts from the state and the memory that the write left.
use Prim.Native.Nat.{zero, suc}
use mathlib.Core.Path.{◌≡◌, sym, ap, subst, ◌∙◌}
use native.Mathlib.Omega.{arith}
use lib.ListN.{length}
use Rattle.fm3130_companion.specs.Part.{guard_of}
use Rattle.fm3130.specs.declared.State.{State}
use Rattle.fm3130_list.specs.Run.{run_of}
use Rattle.wire_clocks.specs.Events.{write_events}
use Rattle.c_master.specs.Told.{flags_of, bytes_of}
use Rattle.law_roundtrip.specs.Stretch.{AllBytes, fetched_from}
use Rattle.law_roundtrip.specs.Trip.{WriteTells, ReadTells, RoundTrip}
use Rattle.law_roundtrip.proofs.Places.{free_stored, free_flags, fetched_length, stored_back}
use Rattle.law_roundtrip.proofs.Transactions.{write_leads, read_leads}
use Rattle.law_roundtrip.proofs.Tells.{write_says, read_says}

pub write_told : WriteTells
write_told s m a bs on l h =
    let r = write_leads s m a bs on l h in
    record {
      flags = ap (flags_of (length bs)) r.lines ∙ write_says (guard_of s.companion) a bs;
      memory = r.memory;
      companion = ap (λ (z : State). z.companion) r.state;
      power = ap (λ (z : State). z.power) r.state;
      phase = ap (λ (z : State). z.phase) r.state;
    }

pub read_told : ReadTells
read_told s m a zero on l some h = absurd (omega arith)
read_told s m a (suc n) on l some h =
    let r = read_leads s m a n on l in
    let says = rw (fetched_length m a (suc n)) at (read_says m a n h) in
    record {
      bytes = ap (bytes_of (suc n)) r.lines ∙ says;
      memory = r.memory;
      companion = ap (λ (z : State). z.companion) r.state;
      power = ap (λ (z : State). z.power) r.state;
      phase = ap (λ (z : State). z.phase) r.state;
    }

pub round_trip : RoundTrip
round_trip s m a bs on w l some few h f =
    let wp = guard_of s.companion in
    let n = length bs in
    let t = write_told s m a bs on l h in
    let after = run_of s m (write_events a bs) in
    let same : fetched_from after.memory a n ≡ bs =
    rw (t.memory, free_stored wp bs m a f) (stored_back bs m a w l (omega arith)) in
    let r = read_told after.state after.memory a n t.power l some (subst AllBytes (sym same) h) in
    record { acknowledged = t.flags ∙ free_flags wp bs a f; back = r.bytes ∙ same }
