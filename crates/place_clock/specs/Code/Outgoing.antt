-- SPDX-License-Identifier: Apache-2.0
-- A byte that goes out, by the number of its phase: what is fetched, what the end of it does to a state, and what the
-- master's ninth bit leaves of the image. Auxiliary.
--   fetched_from, finished_by   the byte that is sent; the state once all of it was
--   closed_by                  the image after the ninth clock
use Rattle.std.specs.Prelude.{ℕ, Bool, cond, List, [], ◌∷◌}
use Rattle.std.proofs.lemmas.List.Edits.{sets}
use Rattle.wire.specs.Memory.{lent, next, byte_at}
use Rattle.wire.specs.declared.Side.{Side}
use Rattle.wire.specs.declared.Side.TheVariants.{Memory, Companion}
use Rattle.fm3130_companion.specs.Part.{load_of, loaded_of}
use Rattle.fm3130.specs.Code.Bus.{with_companion}
use Rattle.fm3130.specs.Chip.{memory_size}
use Rattle.fm3130.specs.declared.State.{State}
use Rattle.bus_image.specs.Places.{PHASE_AT, CLOCKS_AT, IDLE}

-- "A read uses the current address."
abbrev pub fetched_from : Side → State → List ℕ → ℕ
fetched_from Memory s m = byte_at (lent m s.address)
fetched_from Companion s m = load_of s.companion

-- "Memory goes from 1FFFh to 0000h."
abbrev pub onward : State → State
onward s =
    record { power = s.power; phase = s.phase; address = next memory_size s.address; companion = s.companion }

-- "The address steps on at the eighth."
abbrev pub finished_by : Side → ℕ → State → State
finished_by Memory b s = onward s
finished_by Companion b s = with_companion s (loaded_of s.companion b)

-- "The master's low ninth bit continues, high ends": no transfer, or the same phase at its beginning.
abbrev pub closed_by : Bool → List ℕ → List ℕ
closed_by high i = cond high (sets i PHASE_AT (IDLE ∷ 0 ∷ 0 ∷ [])) (sets i CLOCKS_AT (0 ∷ 0 ∷ []))
