-- SPDX-License-Identifier: Apache-2.0
-- The lock (02, number 5: "Once SNL is 1 no event of any kind changes registers 11h to 18h or SNL, loss of both
-- supplies included").
use Rattle.std.specs.Prelude.{ℕ, List}
use Rattle.fm31_counters.specs.Lock.{Locked, SerialKept}
use Rattle.fm31.specs.Run.{run_of}
use Rattle.fm31.specs.declared.State.{State}

-- At any size and select, from any state, within the limits or not, with any memory, after any list of bytes, events or
-- not.
abbrev pub SerialLocked : Type 0
SerialLocked =
    (size select : ℕ) (s : State) (m es : List ℕ) → Locked s.counters
    → SerialKept s.counters (run_of size select s m es).state.counters
