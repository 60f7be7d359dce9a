-- SPDX-License-Identifier: Apache-2.0
-- Demand 2's two sentences about memory, of lists of events on the larger family, over the size: the laws of `law_parts` at
-- this companion, said of the list run's own definition. They are cited for 8,192 and 32,768 bytes in specs/Entry.
--   AcknowledgedStored                     an acknowledged memory byte is stored at its address
--   Protected, BeforeEach, ProtectedKept   an address that is protected before each event of a list is unchanged
--   OnlyStoresProtect                      nothing but a data byte that the companion stores changes the protection
use Rattle.std.specs.Prelude.{ℕ, ◌≡◌, Bool, true, false, List, [], ◌∷◌, ◌++◌, length, get_or}
use Rattle.wire.specs.Memory.{is_protected}
use Rattle.fm31_counters.specs.Part.{guard_of}
use Rattle.bus.specs.Happening.{happening, edges}
use Rattle.bus_deeds.specs.Serve.{deed_of}
use Rattle.bus_deeds.specs.declared.Deed.TheVariants.{Store}
use Rattle.bus.specs.Select.{lone}
use Rattle.fm31.specs.Chip.{companion31, event_of}
use Rattle.fm31.specs.Limits.{well_formed}
use Rattle.fm31.specs.Run.{run_of}
use Rattle.fm31.specs.declared.State.{State}
use Rattle.law_parts.specs.Events.{clock_event}
use Rattle.law_parts.specs.Stored.{Byte, AtData, StoredAt}

module _ (size : ℕ) where
  -- Demand 2: an acknowledged memory byte is stored at its address. Where a data byte of a memory write begins, its
  -- eight clocks come, with ticks and edges among them, and the device itself pulls the ninth clock's line low.
  abbrev pub AcknowledgedStored : Type 0
  AcknowledgedStored =
      (s : State) (m before byte : List ℕ) (w : ℕ) (d : Bool) → well_formed size lone s ≡ true → length m ≡ size
      → let begun = run_of size lone s m before in
      let read = run_of size lone s m (before ++ byte) in
      AtData begun.state.bus → Byte companion31 w byte → (event_of size lone read.state read.memory 3).line
      ≡ false
      → StoredAt begun.memory begun.state.bus.address w
      (run_of size lone s m (before ++ (byte ++ (clock_event d ∷ [])))).memory

  -- The address is protected, by WP1 WP0 of 0Bh as they stand.
  abbrev pub Protected : State → ℕ → Bool
  Protected s a = is_protected size (guard_of s.counters) a

  -- However the list is parted into events that were done, the next event, and the rest.
  abbrev pub BeforeEach : (State → ℕ → Type 0) → State → List ℕ → List ℕ → Type 0
  BeforeEach X s m es =
      (done rest : List ℕ) (e : ℕ) → es ≡ done ++ (e ∷ rest) → X (run_of size lone s m done).state e

  -- Demand 2: a protected address is never changed.
  abbrev pub ProtectedKept : Type 0
  ProtectedKept =
      (s : State) (m es : List ℕ) (a : ℕ) → BeforeEach (λ t e. Protected t a ≡ true) s m es
      → get_or (run_of size lone s m es).memory a 0 ≡ get_or m a 0

  -- No event changes WP1 WP0 but one that asks the companion to store a byte: neither the loss of both supplies does.
  abbrev pub OnlyStoresProtect : Type 0
  OnlyStoresProtect =
      (s : State) (m : List ℕ) (e : ℕ)
      → ((b : ℕ) → deed_of s.bus.power s.bus.phase (happening edges e) ≡ Store b → ⊥)
      → guard_of (event_of size lone s m e).companion ≡ guard_of s.counters
