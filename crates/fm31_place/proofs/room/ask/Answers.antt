-- SPDX-License-Identifier: Apache-2.0
-- What was read is the companion that lies there; what it was asked is done, and written.
use mathlib.Core.Path.{refl}
use Rattle.fm31_place.proofs.Lying.{counters_written, asked}
use Rattle.fm31_place.proofs.room.ask.Goals as goal

pub serve-served-requires : goal.serve-served-requires
serve-served-requires c = let p = c.requires in rw c.counters_at.ensures (p.1, p.2)

pub returns : goal.returns
returns c s e =
    let v = c in
    asked s _ e v.args.deed _ s.bus _ _ refl v.counters_at.ensures v.serve-served.ensures
    (counters_written s _ _ _ e c.write_counters.ensures)
