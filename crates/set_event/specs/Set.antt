-- SPDX-License-Identifier: Apache-2.0
-- A set of one to four devices of the larger family on one line, and one event on it (02, number 12).
--   most                           how many devices one line takes
--   Held, Together, Place, at      a device with its lent memory; a set with its four memories; one of its devices
--   hears                          which events a device hears; as which of its own ten is `own_byte`
--   after_at, line_at                one event on one device of a set
--   after_event, line_to             one event on the set: "the line is low if any pulls it low"
--   after_events, lines_to           a list of events
use Rattle.std.specs.Prelude.{ℕ, Bool, true, cond, ◌&&◌, List, [], ◌∷◌, ltb, ◌+◌, ◌/◌, ◌||◌, eqb}
use Rattle.fm31.specs.Chip.{size_of, Done, event_of}
use Rattle.fm31.specs.Step.{state_of}
use Rattle.set_event.specs.declared.Member.{Member}
use Rattle.set_event.specs.declared.Set.{Set}
unfoldable pub use Rattle.fm31_run.specs.Seat.{own_byte}

-- "Up to four devices .. share one line."
abbrev pub most : ℕ
most = 4

pub record Held : Type 0 where
  pub member : Member
  pub memory : List ℕ

abbrev pub held : Member → List ℕ → Held
held d m = record { member = d; memory = m }

-- A set with the memories that are lent to it.
pub record Together : Type 0 where
  pub set : Set
  pub one : List ℕ
  pub two : List ℕ
  pub three : List ℕ
  pub four : List ℕ

pub data Place : Type 0 where
  first second third fourth : Place

abbrev pub number_of : Place → ℕ
number_of first = 0
number_of second = 1
number_of third = 2
number_of fourth = 3

abbrev pub at : Place → Together → Held
at first t = held t.set.first t.one
at second t = held t.set.second t.two
at third t = held t.set.third t.three
at fourth t = held t.set.fourth t.four

abbrev pub size_in : Held → ℕ
size_in h = size_of h.member.size

abbrev pub select_in : Held → ℕ
select_in h = h.member.select

-- "Ticks and power events reach all four, and a counter edge names its device": of n devices, the one at place v
-- hears event bytes 0 to 7; 8 and 9 are the first device's edges, 10 and 11 the second's, and so on.
unfoldable pub hears : ℕ → ℕ → ℕ → Bool
hears n v e = ltb v n && (ltb e 8 || eqb (e / 2) (v + 4))

-- One event byte of its own on a device.
abbrev pub done_in : (h : Held) → ℕ → Done (size_in h) (select_in h)
done_in h e = event_of (size_in h) (select_in h) h.member.state h.memory e

abbrev pub after_own : Held → ℕ → Held
after_own h e =
    let d = done_in h e in
    held (record { size = h.member.size; select = h.member.select; state = state_of d }) d.memory

-- One event of the set on the device at place v.
abbrev pub after_at : ℕ → ℕ → Held → ℕ → Held
after_at n v h e = cond (hears n v e) (after_own h (own_byte e)) h

abbrev pub line_at : ℕ → ℕ → Held → ℕ → Bool
line_at n v h e = cond (hears n v e) (done_in h (own_byte e)).line true

abbrev pub together : ℕ → Held → Held → Held → Held → Together
together n a b c d =
    record {
      set = record { count = n; first = a.member; second = b.member; third = c.member; fourth = d.member };
      one = a.memory;
      two = b.memory;
      three = c.memory;
      four = d.memory;
    }

-- One event on the set: each device takes it as it would alone.
abbrev pub after_event : Together → ℕ → Together
after_event t e =
    let n = t.set.count in
    together n (after_at n 0 (at first t) e) (after_at n 1 (at second t) e) (after_at n 2 (at third t) e) (after_at n 3
    (at fourth t) e)

abbrev pub line_to : Together → ℕ → Bool
line_to t e =
    let n = t.set.count in
    line_at n 0 (at first t) e && (line_at n 1 (at second t) e && (line_at n 2 (at third t) e && line_at n 3 (at fourth
    t) e))

abbrev pub after_events : Together → List ℕ → Together
after_events t [] = t
after_events t (e ∷ es) = after_events (after_event t e) es

abbrev pub lines_to : Together → List ℕ → List Bool
lines_to t [] = []
lines_to t (e ∷ es) = line_to t e ∷ lines_to (after_event t e) es
