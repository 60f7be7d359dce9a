-- SPDX-License-Identifier: Apache-2.0
-- Only a written byte can change WP1 WP0: an address byte, a read and an edge leave 0Bh as it is.
use Rattle.std.proofs.Common.{◌≡◌, ℕ, eqb, refl}
use Rattle.bits.proofs.Cases.{by_cond}
use Rattle.fm31_counters.specs.declared.Input.{Input}
use Rattle.fm31_counters.specs.declared.Counters.{Counters}
use Rattle.fm31_counters.specs.Part.{Taken}
use Rattle.fm31_counters.specs.Map.{TOP}
use Rattle.fm31_counters.specs.Limits.{is_register}
use Rattle.fm31_counters.specs.Part.{guard_of, stepped_of, aim_of, loaded_of, edge_of}

pub aim_guard : (c : Counters) (b : ℕ) → guard_of (aim_of c b).companion ≡ guard_of c
unfolding aim_of
aim_guard c b = by_cond (λ (t : Taken). guard_of t.companion ≡ guard_of c) (is_register b) (λ e. refl) (λ e. refl)

pub loaded_guard : (c : Counters) (b : ℕ) → guard_of (loaded_of c b) ≡ guard_of c
unfolding loaded_of
loaded_guard c b =
    by_cond (λ (d : Counters). guard_of (stepped_of d) ≡ guard_of c) (eqb c.address TOP) (λ e. refl) (λ e. refl)

pub edge_guard : (c : Counters) (i : Input) → guard_of (edge_of c i) ≡ guard_of c
unfolding edge_of
edge_guard c i = refl
