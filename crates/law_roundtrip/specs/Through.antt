-- SPDX-License-Identifier: Apache-2.0
-- The round trip as a host program makes it: the master's entries and the list run's entry, call by call, with image, memory
-- and buffers handed on (02, number 1).
--   given                  what an entry wrote: the front of its buffer
--   first_run, second_run    the two calls of the list run
--   Through                the statement
use Rattle.std.specs.Prelude.{ℕ, ◌≤◌, ◌<◌, ◌≡◌, List, length, take, replicate, Some}
use Rattle.bus.specs.declared.Power.TheVariants.{On}
use Rattle.fm3130_companion.specs.Part.{guard_of}
use Rattle.numbers.specs.Numbers.{accepted}
use Rattle.fm3130.specs.Chip.{memory_size}
use Rattle.fm3130.specs.declared.State.{State}
use Rattle.fm3130_image.specs.Image.{decode_of}
use Rattle.fm3130_list.specs.Run as Run
use Rattle.c_master.specs.Numbers.{most}
use Rattle.wire_clocks.specs.Events.{write_count, read_count}
use Rattle.c_master.specs.Outcome.{Outcome, filled, write_events_of, read_events_of, write_told_of, read_told_of}
use Rattle.law_roundtrip.specs.Stretch.{AllBytes, Free}

abbrev pub given : Outcome → List ℕ
given o = take o.count o.buffer

-- The events of a write go to the list run; e is the buffer for the events, x the one for the answers.
abbrev pub first_run : List ℕ → List ℕ → ℕ → List ℕ → List ℕ → List ℕ → Run.Outcome
first_run i m a bs e x = Run.outcome_of i m (given (write_events_of a bs e)) x

-- Then those of a read, on what the first call left.
abbrev pub second_run : Run.Outcome → ℕ → ℕ → List ℕ → List ℕ → Run.Outcome
second_run w a n e y = Run.outcome_of w.image w.memory (given (read_events_of a n e)) y

-- Both calls are accepted; the flags say that all bytes were acknowledged, and the bytes told are those written.
pub record CameBack (bs flags got : List ℕ) (w r : Run.Outcome) : Type 0 where
  pub written : w.number ≡ accepted
  pub acknowledged : write_told_of (length bs) w.answers flags ≡ filled (replicate (length bs) 1) flags
  pub read : r.number ≡ accepted
  pub back : read_told_of (length bs) r.answers got ≡ filled bs got

-- Of every image of a powered device, with room for the events, and buffers for the answers as long as the events.
abbrev pub Through : Type 0
Through =
    (i m : List ℕ) (s : State) (a : ℕ) (bs e f x y flags got : List ℕ)
    → decode_of i ≡ Some s → s.power ≡ On → length m ≡ memory_size → a < memory_size
    → 1 ≤ length bs → length bs ≤ most → AllBytes bs → Free (guard_of s.companion) a (length bs)
    → write_count (length bs) ≤ length e → read_count (length bs) ≤ length f
    → length x ≡ write_count (length bs) → length y ≡ read_count (length bs)
    → length bs ≤ length flags → length bs ≤ length got
    → CameBack bs flags got (first_run i m a bs e x) (second_run (first_run i m a bs e x) a (length bs) f y)
