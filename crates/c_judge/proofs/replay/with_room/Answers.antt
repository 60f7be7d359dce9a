-- SPDX-License-Identifier: Apache-2.0
-- The room is as long as the stretch.
use Prim.Native.Nat.{ℕ}
use mathlib.Core.Path.{refl, sym, ap, ◌∙◌}
use native.Mathlib.Omega.{arith}
use lib.ListN.{length, take, drop}
use Rattle.fm3130_list.specs.Run.{all_known}
use Rattle.c_judge.proofs.Replays.{room_length}
use Rattle.c_judge.proofs.replay.with_room.Goals as goal

pub slice_bounds-stretch-end : goal.slice_bounds-stretch-end
slice_bounds-stretch-end c = let s = c in sym (room_length (length s.args.recorded.now) s.requires.long_in_bounds.1)

pub slice_bounds-stretch-end-2 : goal.slice_bounds-stretch-end-2
slice_bounds-stretch-end-2 c = let s = c in sym (room_length (length s.args.recorded.now) s.requires.long_in_bounds.1)

pub stretch-requires : goal.stretch-requires
stretch-requires c =
    let s = c in
    let p = s.requires.long_in_bounds in
    let z = room_length (length s.args.recorded.now) p.1 in
    record { accepted = s.requires.accepted; asked_in_bounds = (omega (arith, z, p.0), z, refl, omega (arith, z, p.2)); events_known = ap (λ (k : ℕ). all_known (take k (drop s.args.events s.args.file.now))) z ∙ s.requires.events_known }

pub returns : goal.returns
returns c =
    let s = c in
    let z = room_length (length s.args.recorded.now) s.requires.long_in_bounds.1 in
    rw z at c.stretch.ensures
