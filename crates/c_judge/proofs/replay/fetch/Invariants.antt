-- SPDX-License-Identifier: Apache-2.0
-- The bytes passed are those of the file, and the reader's place is the next one's.
use Prim.Native.Nat.{◌+◌}
use mathlib.Core.Path.{◌≡◌}
use lib.ListN.{length, take}
use Rattle.c_judge.proofs.Replays.{section}
use Rattle.c_judge.proofs.replay.fetch.Given as goal

abbrev pub invariant-loop-byte : goal.invariant-loop-byte
invariant-loop-byte l =
    (length l.bytes ≡ length l.initial.bytes) × (l.at ≡ l.place + l.byte-index)
    × (take l.byte-index l.bytes ≡ take l.byte-index (section l.file l.place (length l.initial.bytes)))
