-- SPDX-License-Identifier: Apache-2.0
-- The lines of the next two Clocks as the code finds them, by the bytes of an image.
--   pulled_at, pulls_at        by the machine's Clock in a phase
--   taken_pulls, sent_pulls    by the clocks done of a byte that comes in, of one that goes out
--   is_taken, followed_low     a byte's acknowledge, and the line after it, by the phase's number
use Rattle.std.specs.Prelude.{ℕ, ◌+◌, Bool, true, false, not, cond, eqb, leb, ltb}
use Rattle.wire.specs.Bits.{pushed, sent_bit}
use Rattle.wire.specs.Slave.{slave_names, answers}
use Rattle.wire.specs.Memory.{Cells, is_protected, byte_at}
use Rattle.wire.specs.Machine.{clocked}
use Rattle.wire.specs.declared.Side.{Side}
use Rattle.wire.specs.declared.Side.TheVariants.{Memory, Companion}
use Rattle.wire.specs.declared.Named.{Named}
use Rattle.wire.specs.declared.Named.TheVariants.{Nobody, Reads, Writes}
use Rattle.wire.specs.declared.Phase.{Phase}
use Rattle.fm3130_companion.specs.Part.{loads_bad_date, load_of, guard_of}
use Rattle.fm3130_companion.specs.declared.Companion as C
use Rattle.fm3130.specs.Chip.{memory_size, fm3130}
use Rattle.c_line.specs.Line.{Pulls}

-- Auxiliary: the device pulls the line of a Clock in a phase.
unfoldable pub pulled_at : Phase → Cells → C.Companion → Bool
pulled_at p m c = not (clocked fm3130 p m c true).line

-- Auxiliary: the same of the Clock after a Clock.
abbrev pub pulled_next : Phase → Cells → C.Companion → Bool → Bool
pulled_next p m c d =
    pulled_at (clocked fm3130 p m c d).state.phase (clocked fm3130 p m c d).state.memory
    (clocked fm3130 p m c d).state.companion

abbrev pub pulls_at : Phase → Cells → C.Companion → Pulls
pulls_at p m c = record { next = pulled_at p m c; low = pulled_next p m c false; high = pulled_next p m c true }

abbrev pub pulls_with : Bool → Bool → Bool → Pulls
pulls_with a b c = record { next = a; low = b; high = c }

-- Auxiliary: a byte that comes in, by whether it is acknowledged if its last bit is low, and if it is high, and by
-- whether the device pulls the first line of the byte after it.
unfoldable pub taken_pulls : ℕ → Bool → Bool → Bool → Pulls
taken_pulls k l h f =
    cond (ltb k 7) (pulls_with false false false) (cond (eqb k 7) (pulls_with false l h) (pulls_with true f f))

-- Auxiliary: whether the byte of a phase's number is acknowledged, seven of its bits known and the last one given, by
-- the memory's address and the companion.
unfoldable pub is_taken : ℕ → ℕ → ℕ → C.Companion → Bool → Bool
is_taken n b a c d =
    cond (eqb n 1) (answers (slave_names (pushed b d)))
    (cond (eqb n 4) (leb (pushed b d) 14)
    (cond (eqb n 5) (not (is_protected memory_size (guard_of c) a))
    (cond (eqb n 6) (not (loads_bad_date c (pushed b d))) true)))

-- Auxiliary: the byte that a read of a device sends next.
unfoldable pub fetched_of : Side → Cells → C.Companion → ℕ
fetched_of Memory m c = byte_at m
fetched_of Companion m c = load_of c

-- Auxiliary: the bit that the k-th clock sends is 0.
abbrev pub low_bit : ℕ → ℕ → Bool
low_bit k b = not (sent_bit k b)

-- Auxiliary: the first line after a slave byte's acknowledge.
unfoldable pub opened_low : Named → Cells → C.Companion → Bool
opened_low Nobody m c = false
opened_low (Reads s) m c = low_bit 0 (fetched_of s m c)
opened_low (Writes s) m c = false

-- Auxiliary: whether the device pulls the first line after the byte of a phase's number.
abbrev pub followed_low : ℕ → ℕ → Cells → C.Companion → Bool
followed_low n b m c = cond (eqb n 1) (opened_low (slave_names b) m c) false

-- Auxiliary: a byte b that goes out, where f is the byte at the address.
unfoldable pub sent_pulls : ℕ → ℕ → ℕ → Pulls
sent_pulls k b f =
    cond (ltb 7 k) (pulls_with false (low_bit 0 f) false)
    (cond (eqb k 7) (pulls_with (low_bit k b) false false)
    (cond (eqb k 0) (pulls_with (low_bit k f) (low_bit (k + 1) f) (low_bit (k + 1) f))
    (pulls_with (low_bit k b) (low_bit (k + 1) b) (low_bit (k + 1) b))))
