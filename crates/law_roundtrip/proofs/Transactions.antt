-- SPDX-License-Identifier: Apache-2.0
-- A master's two transactions on a device on main power: where they lead, and their lines, byte by byte.
use Prim.Native.Nat.{ℕ, zero, suc, ◌+◌, ◌/◌, ◌%◌, ◌<◌}
use mathlib.Core.Path.{◌≡◌, refl}
use mathlib.Core.Bool.{Bool, true, false, cond}
use mathlib.Core.List.{List, [], ◌∷◌, ◌++◌}
use native.Mathlib.Omega.{arith}
use lib.ListN.{get_or, set}
use Rattle.wire.specs.Clock.{more}
use Rattle.wire.specs.Memory.{joined, next, is_protected, refused_byte}
use Rattle.wire.specs.Whole.{nine_bits}
use Rattle.wire.specs.declared.Side.TheVariants.{Memory}
use Rattle.wire.specs.declared.Phase.{Phase}
use Rattle.wire.specs.declared.Phase.TheVariants.{Idle, Write, Read}
use Rattle.wire.proofs.Tests.{by_test}
use Rattle.bus.specs.declared.Power.TheVariants.{On}
use Rattle.fm3130_companion.specs.Part.{guard_of}
use Rattle.fm3130_companion.specs.declared.Companion.{Companion}
use Rattle.fm3130.specs.Chip.{memory_size}
use Rattle.fm3130.specs.declared.State.{State}
use Rattle.law_transfers.proofs.Runs.{Leads, leads_then, start_leads}
use Rattle.law_transfers.proofs.Written.{on_bus, data_stored, data_left, write_opens}
use Rattle.wire_clocks.specs.Events.{opening, all_written, asked_on, write_events, read_events}
use Rattle.law_roundtrip.specs.Stretch.{AllBytes, stored_by}
use Rattle.law_roundtrip.proofs.Bytes.{none_leads, slave_read, byte_read, byte_unheard, stop_leads}

-- Start, slave byte, address
abbrev pub open_lines : ℕ → List Bool
open_lines a = true ∷ (nine_bits 0xA0 false ++ (nine_bits (a / 256) false ++ nine_bits (a % 256) false))

pub opens : (s : State) (m : List ℕ) (a : ℕ) → s.power ≡ On → a < memory_size
    → Leads s m (opening a) (on_bus (Write Memory 0 0) a s.companion) m (open_lines a)
opens s m a on l =
    let at : joined memory_size (a / 256) (a % 256) ≡ a = omega arith in
    rw at at (write_opens s m (a / 256) (a % 256) on (omega arith) (omega arith))

-- bytes that nobody takes
abbrev pub unheard_lines : List ℕ → List Bool
unheard_lines [] = []
unheard_lines (b ∷ bs) = nine_bits b true ++ unheard_lines bs

unheard : (c : Companion) (bs m : List ℕ) (a : ℕ)
    → Leads (on_bus Idle a c) m (all_written bs) (on_bus Idle a c) m (unheard_lines bs)
unheard c [] m a = none_leads (on_bus Idle a c) m
unheard c (b ∷ bs) m a = leads_then (byte_unheard c m a b true) (unheard c bs m a)

-- data bytes of a write: the lines, the address and the phase that they lead to
abbrev pub write_lines : ℕ → ℕ → List ℕ → List Bool
write_lines wp a [] = []
write_lines wp a (b ∷ bs) =
    cond (is_protected memory_size wp a) (nine_bits b true ++ unheard_lines bs)
    (nine_bits b false ++ write_lines wp (next memory_size a) bs)

abbrev pub reached_by : ℕ → ℕ → List ℕ → ℕ
reached_by wp a [] = a
reached_by wp a (b ∷ bs) =
    cond (is_protected memory_size wp a) (next memory_size a) (reached_by wp (next memory_size a) bs)

abbrev phase_by : ℕ → ℕ → List ℕ → Phase
phase_by wp a [] = Write Memory 0 0
phase_by wp a (b ∷ bs) = cond (is_protected memory_size wp a) Idle (phase_by wp (next memory_size a) bs)

writes : (c : Companion) (bs m : List ℕ) (a : ℕ) → AllBytes bs
    → Leads (on_bus (Write Memory 0 0) a c) m (all_written bs)
    (on_bus (phase_by (guard_of c) a bs) (reached_by (guard_of c) a bs) c) (stored_by (guard_of c) m a bs)
    (write_lines (guard_of c) a bs)
unfolding refused_byte
writes c [] m a h = none_leads (on_bus (Write Memory 0 0) a c) m
writes c (b ∷ bs) m a h =
    by_test (is_protected memory_size (guard_of c) a)
    (λ e. rw e (leads_then (data_left c m a b true e) (unheard c bs m (next memory_size a))))
    (λ e. rw e (leads_then (data_stored c m a b true h.0 e) (writes c bs (set m a b) (next memory_size a) h.1)))

-- the whole of a write
abbrev pub whole_write : ℕ → ℕ → List ℕ → List Bool
whole_write wp a bs = open_lines a ++ (write_lines wp a bs ++ (true ∷ []))

pub write_leads : (s : State) (m : List ℕ) (a : ℕ) (bs : List ℕ) → s.power ≡ On → a < memory_size → AllBytes bs
    → Leads s m (write_events a bs) (on_bus Idle (reached_by (guard_of s.companion) a bs) s.companion)
    (stored_by (guard_of s.companion) m a bs) (whole_write (guard_of s.companion) a bs)
unfolding write_events
write_leads s m a bs on l h =
    let c = s.companion in
    let wp = guard_of c in
    leads_then (opens s m a on l) (leads_then (writes c bs m a h)
    (stop_leads c (stored_by wp m a bs) (reached_by wp a bs) (phase_by wp a bs)))

-- the address after so many bytes
abbrev pub advanced : ℕ → ℕ → ℕ
advanced a zero = a
advanced a (suc n) = advanced (next memory_size a) n

-- bytes that are read, after each of which the read goes on; and the last one
abbrev pub on_lines : List ℕ → ℕ → ℕ → List Bool
on_lines m a zero = []
on_lines m a (suc n) = nine_bits (get_or m a 0) false ++ on_lines m (next memory_size a) n

abbrev pub read_lines : List ℕ → ℕ → ℕ → List Bool
read_lines m a n = on_lines m a n ++ nine_bits (get_or m (advanced a n) 0) true

goes_on : (c : Companion) (m : List ℕ) (a n : ℕ)
    → Leads (on_bus (Read Memory 0 0) a c) m (asked_on n) (on_bus (Read Memory 0 0) (advanced a n) c) m (on_lines m a n)
goes_on c m a zero = none_leads (on_bus (Read Memory 0 0) a c) m
goes_on c m a (suc n) = leads_then (continues a) (goes_on c m (next memory_size a) n)
  where
    continues : (k : ℕ) → Leads (on_bus (Read Memory 0 0) k c) m (asked_on 1)
        (on_bus (Read Memory 0 0) (next memory_size k) c) m (nine_bits (get_or m k 0) false)
    continues k = unfold more in byte_read c m k false

-- the whole of a read of n + 1 bytes
abbrev pub whole_read : List ℕ → ℕ → ℕ → List Bool
whole_read m a n = open_lines a ++ (true ∷ (nine_bits 0xA1 false ++ (read_lines m a n ++ (true ∷ []))))

pub read_leads : (s : State) (m : List ℕ) (a n : ℕ) → s.power ≡ On → a < memory_size
    → Leads s m (read_events a (suc n)) (on_bus Idle (next memory_size (advanced a n)) s.companion) m (whole_read m a n)
unfolding read_events more
read_leads s m a n on l =
    let c = s.companion in
    let at = on_bus (Write Memory 0 0) a c in
    leads_then (opens s m a on l) (leads_then (start_leads at m refl) (leads_then (slave_read c m a)
    (leads_then (leads_then (goes_on c m a n) (byte_read c m (advanced a n) true))
    (stop_leads c m (next memory_size (advanced a n)) Idle))))
