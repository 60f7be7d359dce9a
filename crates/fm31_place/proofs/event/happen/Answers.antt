-- SPDX-License-Identifier: Apache-2.0
-- The companion's part and the bus's, put together.
use mathlib.Core.Path.{refl}
use native.Mathlib.Omega.{arith}
use Rattle.fm31_place.proofs.Lying.{long, companion_ready, bus_ready, served_long, bus_written, happened}
use Rattle.fm31_place.proofs.event.happen.Goals as goal

pub bus_at-bus-requires : goal.bus_at-bus-requires
bus_at-bus-requires c = long _ _ _ _ c.requires.accepted

pub bounds-image-2 : goal.bounds-image-2
bounds-image-2 c = omega (arith, long _ _ _ _ c.requires.accepted)

pub serve_at-reply-requires : goal.serve_at-reply-requires
serve_at-reply-requires c = companion_ready _ _ _ _ c.requires.accepted

pub happen-went-requires : goal.happen-went-requires
happen-went-requires c =
    let s = c in
    record { ready = bus_ready _ _ _ _ s.requires.accepted _ c.bus_at-bus.ensures; event_bound = s.requires.event_le_last_event }

pub write_bus-requires : goal.write_bus-requires
write_bus-requires c =
    let v = c in
    let s = v in
    served_long _ _ _ _ s.requires.accepted _ v.bus_at-bus.ensures _ v.deed_of.result _ (λ s e u. v.serve_at-reply.ensures s e)

pub returns : goal.returns
returns c =
    let v = c in
    let b = v in
    let s = b in
    happened _ _ _ _ s.requires.accepted _ b.bus_at-bus.ensures _ _ _ _ _ _ _ _ _ refl v.deed_of.ensures
    (λ s e u. v.serve_at-reply.ensures s e) c.happen-went.ensures (λ s e. bus_written s _ _ _ e c.write_bus.ensures)
    c.answer_byte.ensures
