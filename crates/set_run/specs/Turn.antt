-- SPDX-License-Identifier: Apache-2.0
-- One device of a set after the other: what a list of events leaves of the device at a place, and of the answers that those
-- before it gave.
--   seat_of                    its seat
--   ran_at, left_at, joined_by   a list on it; the device, and the answers, of n devices
--   RanMember                 what a function returns and leaves
use Rattle.std.specs.Prelude.{ℕ, ◌≡◌, cond, List, ltb}
use Rattle.fm31.specs.Run.{Ended}
use Rattle.fm31_run.specs.Seat.{joined_over, ran_in}
use Rattle.fm31_run.specs.declared.Seat.{Seat}
use Rattle.set_event.specs.Set.{Held, held, size_in, select_in}
use Rattle.set_event.specs.declared.Member.{Member}

-- "Each with its two select bits .. in its record."
abbrev pub seat_of : ℕ → Held → Seat
seat_of v h = record { size = size_in h; select = select_in h; place = v }

abbrev pub ran_at : ℕ → Held → List ℕ → Ended
ran_at v h es = ran_in (seat_of v h) h.member.state h.memory es

-- Auxiliary: the device with what a list left of it.
abbrev pub held_in : Held → Ended → Held
held_in h r = held (record { size = h.member.size; select = h.member.select; state = r.state }) r.memory

-- Of n devices: one that is not on the line stays as it is, and answers nothing.
abbrev pub left_at : ℕ → ℕ → Held → List ℕ → Held
left_at n v h es = cond (ltb v n) (held_in h (ran_at v h es)) h

abbrev pub joined_by : ℕ → ℕ → Held → List ℕ → List ℕ → List ℕ
joined_by n v h es a = cond (ltb v n) (joined_over v a (ran_at v h es).answers) a

pub record RanMember (n v : ℕ) (h : Held) (es a : List ℕ) (r : Member) (m a' : List ℕ) : Type 0 where
  pub device : held r m ≡ left_at n v h es
  pub answers : a' ≡ joined_by n v h es a
