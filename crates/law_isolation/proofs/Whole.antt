-- SPDX-License-Identifier: Apache-2.0
-- The master's lists as events: after a slave byte that names the memory, Clocks may stand up to the Stop, and a Start with such a
-- slave byte.
use Prim.Native.Nat.{ℕ, zero, suc, ◌/◌, ◌%◌}
use mathlib.Core.Path.{◌≡◌, refl, sym, ◌∙◌, ap}
use mathlib.Core.Bool.{Bool, true, false}
use mathlib.Core.List.{List, [], ◌∷◌, ◌++◌, append_assoc}
use Rattle.wire.specs.Bits.{pushed, sent_bit, place_at}
use Rattle.wire.specs.Slave.{slave_names}
use Rattle.wire.specs.Whole.{nine_bits}
use Rattle.wire.specs.Machine.{start, stop, clock, line}
use Rattle.wire.specs.declared.Side.TheVariants.{Memory}
use Rattle.fm3130.specs.Chip.{fm3130}
use Rattle.law_merging.specs.Merge.{calling, moving}
use Rattle.law_merging.specs.Party.{to, BusEvent, WholeFrom}
use Rattle.law_isolation.specs.Demand3.{bytes_of}
use Rattle.wire_clocks.specs.Clocks.{clocks_of}
use Rattle.wire_clocks.specs.Events.{asked, all_written, asked_on, all_asked, write_events, read_events}
use Rattle.law_isolation.specs.Whole.{OfMemory, MasterWhole}

abbrev Events : Type 0
Events = List (BusEvent fm3130)

-- Clocks before other events: they are their bytes, and past a slave byte they may stand
abbrev clocks : List Bool → Events → Events
clocks [] rest = rest
clocks (d ∷ ds) rest = line (clock d) ∷ clocks ds rest

clocks_are : (ds : List Bool) (rest : Events) {bytes : List ℕ} → bytes_of rest ≡ bytes
    → bytes_of (clocks ds rest) ≡ clocks_of ds ++ bytes
clocks_are [] rest e = e
clocks_are (true ∷ ds) rest e = ap (λ (l : List ℕ). 3 ∷ l) (clocks_are ds rest e)
clocks_are (false ∷ ds) rest e = ap (λ (l : List ℕ). 2 ∷ l) (clocks_are ds rest e)

abbrev Past : Events → Type 0
Past es = WholeFrom fm3130 (to Memory) moving es

clocks_past : (ds : List Bool) (rest : Events) → Past rest → Past (clocks ds rest)
clocks_past [] rest h = h
clocks_past (d ∷ ds) rest h = (tt, clocks_past ds rest h)

-- after a Start, the slave bytes A0h and A1h
abbrev Called : Events → Type 0
Called es = WholeFrom fm3130 (to Memory) (calling 0 0) es

write_called : (rest : Events) → Past rest → Called (clocks (nine_bits 0xA0 true) rest)
unfolding pushed sent_bit place_at slave_names
write_called rest h = (tt, (tt, (tt, (tt, (tt, (tt, (tt, (tt, (tt, h)))))))))

read_called : (rest : Events) → Past rest → Called (clocks (nine_bits 0xA1 true) rest)
unfolding pushed sent_bit place_at slave_names
read_called rest h = (tt, (tt, (tt, (tt, (tt, (tt, (tt, (tt, (tt, h)))))))))

-- bytes that the master sends, and bytes that it asks for
abbrev sends : List ℕ → Events → Events
sends [] rest = rest
sends (b ∷ bs) rest = clocks (nine_bits b true) (sends bs rest)

sends_are : (bs : List ℕ) (rest : Events) {bytes : List ℕ} → bytes_of rest ≡ bytes
    → bytes_of (sends bs rest) ≡ all_written bs ++ bytes
sends_are [] rest e = e
sends_are (b ∷ bs) rest e = clocks_are (nine_bits b true) (sends bs rest) (sends_are bs rest e)

sends_past : (bs : List ℕ) (rest : Events) → Past rest → Past (sends bs rest)
sends_past [] rest h = h
sends_past (b ∷ bs) rest h = clocks_past (nine_bits b true) (sends bs rest) (sends_past bs rest h)

abbrev asks_on : ℕ → Events → Events
asks_on zero rest = rest
asks_on (suc n) rest = clocks (nine_bits 0xFF false) (asks_on n rest)

asks_on_are : (n : ℕ) (rest : Events) {bytes : List ℕ} → bytes_of rest ≡ bytes → bytes_of (asks_on n rest) ≡ asked_on n ++ bytes
asks_on_are zero rest e = e
asks_on_are (suc n) rest e = clocks_are (nine_bits 0xFF false) (asks_on n rest) (asks_on_are n rest e)

asks_on_past : (n : ℕ) (rest : Events) → Past rest → Past (asks_on n rest)
asks_on_past zero rest h = h
asks_on_past (suc n) rest h = clocks_past (nine_bits 0xFF false) (asks_on n rest) (asks_on_past n rest h)

abbrev asks : ℕ → Events → Events
asks zero rest = rest
asks (suc n) rest = asks_on n (clocks (nine_bits 0xFF true) rest)

asks_are : (n : ℕ) (rest : Events) {bytes : List ℕ} → bytes_of rest ≡ bytes → bytes_of (asks n rest) ≡ all_asked n ++ bytes
asks_are zero rest e = e
asks_are (suc n) rest {bytes} e =
    asks_on_are n (clocks (nine_bits 0xFF true) rest) (clocks_are (nine_bits 0xFF true) rest e)
    ∙ sym (append_assoc (asked_on n) (asked true) bytes)

asks_past : (n : ℕ) (rest : Events) → Past rest → Past (asks n rest)
asks_past zero rest h = h
asks_past (suc n) rest h = asks_on_past n (clocks (nine_bits 0xFF true) rest) (clocks_past (nine_bits 0xFF true) rest h)

-- Start, the slave byte of a write, the address
abbrev opens : ℕ → Events → Events
opens a rest = line start ∷ clocks (nine_bits 0xA0 true) (clocks (nine_bits (a / 256) true) (clocks (nine_bits (a % 256) true) rest))

module _ (a : ℕ) (rest : Events) where
  abbrev low : Events
  low = clocks (nine_bits (a % 256) true) rest

  abbrev high : Events
  high = clocks (nine_bits (a / 256) true) low

  opens_are : {bytes : List ℕ} → bytes_of rest ≡ bytes
      → bytes_of (opens a rest)
      ≡ 0 ∷ (clocks_of (nine_bits 0xA0 true) ++ (clocks_of (nine_bits (a / 256) true) ++ (clocks_of (nine_bits (a % 256) true) ++ bytes)))
  opens_are e =
      ap (λ (l : List ℕ). 0 ∷ l)
      (clocks_are (nine_bits 0xA0 true) high
      (clocks_are (nine_bits (a / 256) true) low (clocks_are (nine_bits (a % 256) true) rest e)))

  opens_past : Past rest → Past (opens a rest)
  opens_past h =
      (tt, write_called high (clocks_past (nine_bits (a / 256) true) low (clocks_past (nine_bits (a % 256) true) rest h)))

abbrev ends : Events
ends = line stop ∷ []

ends_past : Past ends
ends_past = (tt, refl)

write_whole : (a : ℕ) (bs : List ℕ) → OfMemory (write_events a bs)
unfolding write_events
write_whole a bs =
    record {
      events = opens a (sends bs ends);
      are = opens_are a (sends bs ends) (sends_are bs ends refl);
      whole = (tt, (opens_past a (sends bs ends) (sends_past bs ends ends_past)).1);
    }

read_whole : (a n : ℕ) → OfMemory (read_events a n)
unfolding read_events
read_whole a n =
    let again = line start ∷ clocks (nine_bits 0xA1 true) (asks n ends) in
    record {
      events = opens a again;
      are =
          opens_are a again
          (ap (λ (l : List ℕ). 0 ∷ l) (clocks_are (nine_bits 0xA1 true) (asks n ends) (asks_are n ends refl)));
      whole = (tt, (opens_past a again (tt, read_called (asks n ends) (asks_past n ends ends_past))).1);
    }

pub master_whole : MasterWhole
master_whole = record { write = write_whole; read = read_whole }
