-- SPDX-License-Identifier: Apache-2.0
-- Ticks between other events (01, Event bytes and answer bytes: "4 one-second tick").
--   ticks, total    so many ticks; so many in all
--   spaced          each of some things after a number of others
--   after_ticks      the companion once so many ticks, and nothing else, have come
use Rattle.std.specs.Prelude.{ℕ, ◌+◌, List, [], ◌∷◌, ◌++◌, replicate}
use Rattle.fm3130_companion.specs.declared.Companion.{Companion}
use Rattle.fm3130.specs.declared.State.{State}
use Rattle.fm3130_list.specs.Run.{run_of}

-- "4 one-second tick."
abbrev pub ticks : ℕ → List ℕ
ticks n = replicate n 4

-- Auxiliary: all of some counts together.
abbrev pub total : List ℕ → ℕ
total [] = 0
total (n ∷ ns) = n + total ns

-- Auxiliary: before each y of a list, so many times x.
abbrev pub spaced : {A : Type 0} → A → List ℕ → List A → List A
spaced x [] ys = ys
spaced x (n ∷ ns) [] = []
spaced x (n ∷ ns) (y ∷ ys) = replicate n x ++ (y ∷ spaced x ns ys)

-- Auxiliary: the companion as so many ticks alone leave it.
abbrev pub after_ticks : State → List ℕ → ℕ → Companion
after_ticks s m n = (run_of s m (ticks n)).state.companion
