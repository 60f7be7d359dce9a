-- SPDX-License-Identifier: Apache-2.0
-- 02, number 12: "a whole transaction begun between transfers, its slave bytes all naming one device, leaves the
-- others, once ended, as they were".
--   line_byte, line_bytes      the event bytes of Start, Stop and Clock
--   WholeLines               whole transactions, all of whose complete slave bytes are as asked
--   NamesIt                  a slave byte that names a device, its memory or its companion
--   same_place, Here, Between, Unlike    a set between transfers, with different selects
--   Made                     what a set that is not refused has
--   TransactionLeaves, TransactionLine
use Rattle.std.specs.Prelude.{ℕ, ◌≡◌, Bool, true, false, List, [], ◌∷◌, map, ltb}
use Rattle.wire.specs.Slave.{answers}
use Rattle.wire.specs.Machine.{Line, start, stop, clock}
use Rattle.wire.specs.declared.Phase.TheVariants.{Idle}
use Rattle.bus.specs.Select.{slave_names_for}
use Rattle.law_merging.specs.Merge.{Reader, between, next, MayStand}
use Rattle.set_event.specs.Set.{Held, Together, Place, first, second, third, fourth, number_of, at, select_in}
use Rattle.set_event.specs.Set.{after_events, lines_to}
use Rattle.set_event.specs.Make.{make_number}
use Rattle.law_ensemble.specs.Alone.{alone_lines}

abbrev pub line_byte : Line → ℕ
line_byte start = 0
line_byte stop = 1
line_byte (clock false) = 2
line_byte (clock true) = 3

abbrev pub line_bytes : List Line → List ℕ
line_bytes xs = map line_byte xs

-- From where a reader stands; it ends between transactions.
abbrev pub WholeLines : (ℕ → Type 0) → Reader → List Line → Type 0
WholeLines Own q [] = q ≡ between
WholeLines Own q (x ∷ xs) = MayStand Own q x × WholeLines Own (next q x) xs

abbrev pub NamesIt : Held → ℕ → Type 0
NamesIt h b = answers (slave_names_for (select_in h) b) ≡ true

abbrev pub same_place : Place → Place → Bool
same_place first first = true
same_place first second = false
same_place first third = false
same_place first fourth = false
same_place second first = false
same_place second second = true
same_place second third = false
same_place second fourth = false
same_place third first = false
same_place third second = false
same_place third third = true
same_place third fourth = false
same_place fourth first = false
same_place fourth second = false
same_place fourth third = false
same_place fourth fourth = true

-- The device at this place is on the line.
abbrev pub Here : Together → Place → Type 0
Here t v = ltb (number_of v) t.set.count ≡ true

abbrev pub Between : Together → Type 0
Between t = (v : Place) → Here t v → (at v t).member.state.bus.phase ≡ Idle

abbrev pub Unlike : Together → Type 0
Unlike t = (v w : Place) → Here t v → Here t w → same_place v w ≡ false → select_in (at v t) ≡ select_in (at w t) → ⊥

abbrev pub Made : Type 0
Made = (t : Together) → make_number t ≡ 0 → Between t × Unlike t

abbrev pub TransactionLeaves : Type 0
TransactionLeaves =
    (t : Together) (i v : Place) (xs : List Line) → Between t → Unlike t → Here t i → WholeLines (NamesIt (at i t))
    between xs
    → same_place i v ≡ false → at v (after_events t (line_bytes xs)) ≡ at v t

-- The line is that of the device which is named.
abbrev pub TransactionLine : Type 0
TransactionLine =
    (t : Together) (i : Place) (xs : List Line) → Between t → Unlike t → Here t i → WholeLines (NamesIt (at i t))
    between xs
    → lines_to t (line_bytes xs) ≡ alone_lines (at i t) (line_bytes xs)
