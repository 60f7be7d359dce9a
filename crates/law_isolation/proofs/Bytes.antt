-- SPDX-License-Identifier: Apache-2.0
-- The lists of demand 3 are all lists of the bytes 0 to 4: each such byte is that of an event.
use Prim.Native.Nat.{ℕ, zero, suc, ◌<◌}
use mathlib.Core.Path.{◌≡◌, refl}
use mathlib.Core.Bool.{true, false}
use mathlib.Core.List.{List, [], ◌∷◌}
use native.Mathlib.Omega.{arith}
use Rattle.wire.specs.Machine.{start, stop, clock, line, tick}
use Rattle.fm3130.specs.Chip.{fm3130}
use Rattle.law_merging.specs.Party.{BusEvent}
use Rattle.law_isolation.specs.Demand3.{byte_of, bytes_of}

-- every byte of the list is below 5: no power event, and none that is unknown
abbrev pub Powerless : List ℕ → Type 0
Powerless [] = Unit {0}
Powerless (n ∷ ns) = (n < 5) × Powerless ns

byte_event : (n : ℕ) → n < 5 → (e : BusEvent fm3130) × (byte_of e ≡ n)
byte_event zero h = (line start, refl)
byte_event (suc zero) h = (line stop, refl)
byte_event (suc (suc zero)) h = (line (clock false), refl)
byte_event (suc (suc (suc zero))) h = (line (clock true), refl)
byte_event (suc (suc (suc (suc zero)))) h = (tick tt, refl)
byte_event (suc (suc (suc (suc (suc n))))) h = absurd (omega arith)

pub bytes_events : (ns : List ℕ) → Powerless ns → (es : List (BusEvent fm3130)) × (bytes_of es ≡ ns)
bytes_events [] h = ([], refl)
bytes_events (n ∷ ns) h =
    let e = byte_event n h.0 in
    let es = bytes_events ns h.1 in
    (e.0 ∷ es.0, λ i. e.1 i ∷ es.1 i)
