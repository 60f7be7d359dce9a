-- SPDX-License-Identifier: Apache-2.0
-- 02, number 12: "5)'s statements hold for each device". Each device of a set does exactly what it does alone on
-- the events that it hears, whatever the others are and do; so the lock of its serial number holds in the set.
--   heard_by                       what a device hears of a list, as its own event bytes
--   alone, alone_lines             a device alone on a list of its own event bytes
--   AsAlone, LinesAsAlone         each device does as alone; the line is low if one of them, alone, pulls it low
--   SerialLockedIn                the lock, in a set
use Rattle.std.specs.Prelude.{ℕ, ◌≡◌, Bool, List, [], ◌∷◌}
use Rattle.fm31_counters.specs.Lock.{Locked, SerialKept}
use Rattle.fm31_counters.specs.declared.Counters.{Counters}
use Rattle.law_merging.specs.Merge.{keep_if}
use Rattle.set_event.specs.Set.{Held, Together, Place, number_of, at, hears, own_byte}
use Rattle.set_event.specs.Set.{done_in, after_own, after_events}

abbrev pub heard_by : ℕ → ℕ → List ℕ → List ℕ
heard_by n v [] = []
heard_by n v (e ∷ es) = keep_if (hears n v e) (own_byte e) (heard_by n v es)

abbrev pub alone : Held → List ℕ → Held
alone h [] = h
alone h (e ∷ es) = alone (after_own h e) es

abbrev pub alone_lines : Held → List ℕ → List Bool
alone_lines h [] = []
alone_lines h (e ∷ es) = (done_in h e).line ∷ alone_lines (after_own h e) es

abbrev pub AsAlone : Type 0
AsAlone =
    (t : Together) (v : Place) (es : List ℕ)
    → at v (after_events t es) ≡ alone (at v t) (heard_by t.set.count (number_of v) es)

abbrev pub counters_in : Held → Counters
counters_in h = h.member.state.counters

abbrev pub SerialLockedIn : Type 0
SerialLockedIn =
    (t : Together) (v : Place) (es : List ℕ) → Locked (counters_in (at v t))
    → SerialKept (counters_in (at v t)) (counters_in (at v (after_events t es)))
