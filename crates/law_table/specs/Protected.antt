-- SPDX-License-Identifier: Apache-2.0
-- What changes the memory (demand 2: a protected address is never changed; 01, Transfers).
--   Change                the two ways an event leaves the memory
--   OnlyEighthClocks, ProtectedUnchanged   the statements
use Rattle.std.specs.Prelude.{ℕ, ◌≡◌, Bool, true, List, get_or}
use Rattle.wire.specs.Slave.{slave_names}
use Rattle.wire.specs.Memory.{is_protected}
use Rattle.fm3130_companion.specs.Part.{guard_of}
use Rattle.fm3130.specs.Desk.{companion30}
use Rattle.fm3130.specs.Chip.{memory_size}
use Rattle.fm3130.specs.Event.{Happening, happening, event_of}
use Rattle.fm3130.specs.declared.State.{State}
use Rattle.fm3130_list.specs.Held.{held}
use Rattle.law_parts.specs.Protected as parts
pub use Rattle.law_parts.specs.Protected.{same, eighth}

-- The address is protected, by WP1 WP0 of 0Eh as it stands.
abbrev pub Protected : State → ℕ → Bool
Protected s a = is_protected memory_size (guard_of s.companion) a

-- The two ways an event leaves the memory, as of every part: `same`, or the eighth clock of a data byte, `eighth`.
abbrev pub Change : State → List ℕ → Happening → List ℕ → Type 0
Change s m x m' = parts.Change memory_size slave_names companion30 (held s m) x m'

-- No event but a data byte's eighth clock of a memory write changes memory at all.
abbrev pub OnlyEighthClocks : Type 0
OnlyEighthClocks = (s : State) (m : List ℕ) (e : ℕ) → Change s m (happening e) (event_of s m e).memory

-- Demand 2: a protected address is never changed. Here by one event.
abbrev pub ProtectedUnchanged : Type 0
ProtectedUnchanged =
    (s : State) (m : List ℕ) (e a : ℕ) → Protected s a ≡ true → get_or (event_of s m e).memory a 0 ≡ get_or m a 0
