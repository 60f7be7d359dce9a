-- SPDX-License-Identifier: Apache-2.0
-- A list run in pieces, with the record handed on, is the list run whole; and nothing but the outcome satisfies the
-- contract.
use Prim.Native.Nat.{ℕ}
use mathlib.Core.Path.{◌≡◌, refl, sym, ◌∙◌}
use mathlib.Core.List.{List, [], ◌∷◌}
use Rattle.fm3130.specs.Event.{event_of}
use Rattle.fm3130_list.specs.Run.{run_of}
use Rattle.lamps.specs.Step.{step_of}
use Rattle.lamps.specs.Statement.{answered_by}
use Rattle.c_lamps.specs.Run.{seen, LampsSettled}
use Rattle.c_lamps.specs.Laws.{InPieces}
use Rattle.c_lamps.specs.declared.Shown.{Shown}

pub proven_append : InPieces
unfolding run_of
proven_append r s m [] ys = refl
proven_append r s m (e ∷ xs) ys =
    proven_append (step_of r s e (answered_by (event_of s m e))) (event_of s m e).state (event_of s m e).memory xs ys

pub lamps_unique : (i m es a b : List ℕ) (r t : Shown) (i' m' a' b' i'' m'' a'' b'' : List ℕ)
    → LampsSettled i m es a b r i' m' a' b' → LampsSettled i m es a b t i'' m'' a'' b''
    → seen r i' m' a' b' ≡ seen t i'' m'' a'' b''
lamps_unique i m es a b r t i' m' a' b' i'' m'' a'' b'' p q = p ∙ sym q
