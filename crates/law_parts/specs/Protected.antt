-- SPDX-License-Identifier: Apache-2.0
-- What changes the memory of a part, over any size, names and companion (demand 2: a protected address is never
-- changed).
--   Protected                              the address is protected
--   Change                                 the two ways an event leaves the memory
--   OnlyEighthClocks, ProtectedUnchanged   of one event
--   BeforeEach, ProtectedKept              of a list
use Rattle.std.specs.Prelude.{ℕ, ◌≡◌, Bool, true, false, List, ◌∷◌, ◌++◌, get_or, set}
use Rattle.wire.specs.Bits.{pushed}
use Rattle.wire.specs.Memory.{is_protected}
use Rattle.wire.specs.Machine.{clock}
use Rattle.wire.specs.declared.Side.TheVariants.{Memory}
use Rattle.wire.specs.declared.Phase.TheVariants.{Write}
use Rattle.wire.specs.declared.Named.{Named}
use Rattle.bus.specs.Desk.{Desks}
use Rattle.bus.specs.Happening.{Happening, on_wire, happening}
use Rattle.bus.specs.declared.Power.TheVariants.{On}
use Rattle.law_parts.specs.Events.{Held, event, after_events}

module _ (size : ℕ) (names : ℕ → Named) (D : Desks) where
  -- The address is protected, by WP1 WP0 as they stand.
  abbrev pub Protected : Held size names D → ℕ → Bool
  Protected h a = is_protected size (D.guard h.companion) a

  -- An event leaves the memory as it is; or it is the eighth clock of a data byte of a memory write, main power is
  -- present, the address is not protected, and the byte is stored there.
  pub data Change (h : Held size names D) (x : Happening) (m' : List ℕ) : Type 0 where
    same : m' ≡ h.memory → Change h x m'
    eighth : (b : ℕ) (d : Bool) → h.bus.power ≡ On → h.bus.phase ≡ Write Memory 7 b → x ≡ on_wire (clock d)
        → Protected h h.bus.address ≡ false → m' ≡ set h.memory h.bus.address (pushed b d) → Change h x m'

  -- No event but a data byte's eighth clock of a memory write changes memory at all.
  abbrev pub OnlyEighthClocks : Type 0
  OnlyEighthClocks = (h : Held size names D) (e : ℕ) → Change h (happening D.beyond e)
      (event size names D h e).memory

  -- Demand 2: a protected address is never changed. Here by one event.
  abbrev pub ProtectedUnchanged : Type 0
  ProtectedUnchanged =
      (h : Held size names D) (e a : ℕ) → Protected h a ≡ true → get_or (event size names D h e).memory a 0 ≡ get_or
      h.memory a 0

  -- However the list is parted into events that were done, the next event, and the rest.
  abbrev pub BeforeEach : (Held size names D → ℕ → Type 0) → Held size names D → List ℕ → Type 0
  BeforeEach X h es =
      (done rest : List ℕ) (e : ℕ) → es ≡ done ++ (e ∷ rest) → X (after_events size names D h done) e

  -- One that is protected before each event of a list has after it what it had.
  abbrev pub ProtectedKept : Type 0
  ProtectedKept =
      (h : Held size names D) (es : List ℕ) (a : ℕ) → BeforeEach (λ t e. Protected t a ≡ true) h es
      → get_or (after_events size names D h es).memory a 0 ≡ get_or h.memory a 0
