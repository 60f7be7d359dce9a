-- SPDX-License-Identifier: Apache-2.0
-- What any number of ticks and edges, in any order, leaves (02, number 5), of every state with a supply whose counters are bytes,
-- whatever transfer is under way: "Edges count while power or backup is present, during a write too (our ruling)". CC is bit 04h
-- of 0Ch.
--   AreBytes                      four numbers below 256
--   counter                       a counter as a number, "low byte first (our ruling)"
--   counted                       all as it was but the four counter bytes
--   CountedApart, CountedAsOne    with CC at 0, and at 1
use Rattle.std.specs.Prelude.{ℕ, ◌+◌, ◌*◌, ◌/◌, ◌%◌, ◌<◌, ◌≡◌, true, false, List, [], ◌∷◌, ◌++◌, length, replicate}
use Rattle.bits.specs.Weight.{has}
use Rattle.bus.specs.declared.Beat.{Beat}
use Rattle.bus.specs.declared.Power.TheVariants.{Off}
use Rattle.fm31_counters.specs.declared.Count.{Count}
use Rattle.fm31_counters.specs.declared.Counts.{Counts}
use Rattle.fm31.specs.Run.{run_of}
use Rattle.fm31.specs.declared.State.{State}
use Rattle.law_family.specs.Seen.{Seen, seen, count_list, serial_list}
use Rattle.law_family.specs.Beats.{beat_events, ones, twos}

pub record AreBytes (n : Counts) : Type 0 where
  pub one_low : n.one.low < 256
  pub one_high : n.one.high < 256
  pub two_low : n.two.low < 256
  pub two_high : n.two.high < 256

abbrev pub counter : Count → ℕ
counter n = n.low + 256 * n.high

-- Auxiliary: 0Dh to 10h are these, and all else is as it was; each answer is 1.
abbrev pub counted : State → List ℕ → List Beat → List ℕ → Seen
counted s m bs bytes =
    let r = s.counters.registers in
    record {
      power = s.bus.power;
      phase = s.bus.phase;
      address = s.bus.address;
      pointer = s.counters.address;
      registers = r.flags ∷ r.watchdog ∷ r.control ∷ r.counting ∷ (bytes ++ serial_list r);
      snapshot = count_list s.counters.snapshot;
      memory = m;
      answers = replicate (length bs) 1;
    }

-- What X says of such a state holds, at any size and select bits.
abbrev pub OfBeats : (ℕ → ℕ → State → List ℕ → List Beat → Type 0) → Type 0
OfBeats X =
    (size select : ℕ) (s : State) (m : List ℕ) (bs : List Beat)
    → (s.bus.power ≡ Off → ⊥) → AreBytes s.counters.registers.counts → X size select s m bs

-- "Each counter is 16 bits .. and rolls from FFFFh to 0000h": counter 1 by the edges on CNT1, counter 2 by those on CNT2.
abbrev pub CountedApart : Type 0
CountedApart =
    OfBeats
    (λ size select s m bs. has s.counters.registers.counting 0x04 ≡ false
    → let v = (counter s.counters.registers.counts.one + ones bs) % 65536 in
    let w = (counter s.counters.registers.counts.two + twos bs) % 65536 in
    seen (run_of size select s m (beat_events bs)) ≡ counted s m bs (v % 256 ∷ v / 256 ∷ w % 256 ∷ w / 256 ∷ []))

-- "With CC set the pair is one 32-bit counter on CNT1, counter 1 the low half, rolling to zero from its top"; 003: "CNT2 is not
-- used in this mode".
abbrev pub CountedAsOne : Type 0
CountedAsOne =
    OfBeats
    (λ size select s m bs. has s.counters.registers.counting 0x04 ≡ true
    → let n = s.counters.registers.counts in
    let v = (counter n.one + 65536 * counter n.two + ones bs) % 4294967296 in
    seen (run_of size select s m (beat_events bs))
    ≡ counted s m bs (v % 256 ∷ v / 256 % 256 ∷ v / 65536 % 256 ∷ v / 16777216 ∷ []))
