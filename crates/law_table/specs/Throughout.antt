-- SPDX-License-Identifier: Apache-2.0
-- A protected address over a whole list of events (demand 2: a protected address is never changed).
--   BeforeEach          something holds of the state before each event of a list
--   ProtectedKept       an address that is protected before each event of a list has after it what it had
--   Protecting          the events that can change the protection
--   OnlyTheseProtect    no other event does
--   ProtectionStays     so in a list without them what is protected stays protected
use Rattle.std.specs.Prelude.{ℕ, ◌≡◌, Bool, true, List, ◌∷◌, ◌++◌, get_or}
use Rattle.wire.specs.Machine.{clock}
use Rattle.wire.specs.declared.Side.TheVariants.{Companion}
use Rattle.wire.specs.declared.Phase.TheVariants.{Write}
use Rattle.fm3130_companion.specs.Part.{guard_of}
use Rattle.fm3130.specs.Event.{Happening, on_wire, gone, happening, event_of}
use Rattle.fm3130.specs.declared.State.{State}
use Rattle.law_table.specs.Stored.{after, memory_after}
use Rattle.law_table.specs.Protected.{Protected}

-- However the list is parted into events that were done, the next event, and the rest.
abbrev pub BeforeEach : (State → ℕ → Type 0) → State → List ℕ → List ℕ → Type 0
BeforeEach X s m es = (done rest : List ℕ) (e : ℕ) → es ≡ done ++ (e ∷ rest) → X (after s m done) e

-- Demand 2: a protected address is never changed.
abbrev pub ProtectedKept : Type 0
ProtectedKept =
    (s : State) (m es : List ℕ) (a : ℕ) → BeforeEach (λ t e. Protected t a ≡ true) s m es
    → get_or (memory_after s m es) a 0 ≡ get_or m a 0

-- The eighth clock of a data byte that is written to the companion; and the loss of both supplies, which clears 0Eh.
pub data Protecting (s : State) : Happening → Type 0 where
  written : (b : ℕ) (d : Bool) → s.phase ≡ Write Companion 7 b → Protecting s (on_wire (clock d))
  dark : Protecting s gone

-- "Protection by WP1 WP0 of 0Eh": every other event leaves the two bits as they are.
abbrev pub OnlyTheseProtect : Type 0
OnlyTheseProtect =
    (s : State) (m : List ℕ) (e : ℕ) → (Protecting s (happening e) → ⊥)
    → guard_of (event_of s m e).state.companion ≡ guard_of s.companion

-- So in a list without such an event what is protected stays protected.
abbrev pub ProtectionStays : Type 0
ProtectionStays =
    (s : State) (m es : List ℕ) (a : ℕ) → Protected s a ≡ true
    → BeforeEach (λ t e. Protecting t (happening e) → ⊥) s m es → BeforeEach (λ t e. Protected t a ≡ true) s m es
