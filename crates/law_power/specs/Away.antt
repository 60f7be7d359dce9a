-- SPDX-License-Identifier: Apache-2.0
-- 01, Ticks, alarm, power: the supplies going and coming, on every state, well-formed or not, with any memory. Each law
-- says all that is left, in numbers.
--   PowerAway, PowerAwayAndBack         event 5; then 7
--   SuppliesGone, SuppliesGoneAndBack   event 6; then 7, also after 5
--   PowerBack, OffUnchanged             event 7 under each supply; a tick and losses while both supplies are gone
--   FreshSeen                           the fresh state
use Rattle.std.specs.Prelude.{ℕ, ◌≡◌, List, [], ◌∷◌}
use Rattle.wire.specs.declared.Phase.TheVariants.{Idle}
use Rattle.bus.specs.declared.Power.TheVariants.{On, Backup, Off}
use Rattle.fm3130.specs.Power.{fresh}
use Rattle.fm3130_list.specs.Run.{run_of}
use Rattle.law_power.specs.Seen.{seen}
use Rattle.law_power.specs.Left.{as_it_was, pored, dark, shown_by, shown_pored, Leave}

-- "Power lost: the transfer ends, both addresses become 0"; "event 5 while off .. changes nothing".
pub record PowerAway : Type 0 where
  pub main : Leave On (5 ∷ []) (λ s m. as_it_was s m Backup Idle 0 0 (shown_by s ∷ []))
  pub backup : Leave Backup (5 ∷ [])
      (λ s m. as_it_was s m Backup s.phase s.address s.companion.address (shown_by s ∷ []))

-- Events 5, 7: main power lost and returned, backup present.
pub record PowerAwayAndBack : Type 0 where
  pub main : Leave On (5 ∷ 7 ∷ []) (λ s m. pored s m Idle 0 0 (shown_by s ∷ shown_pored s ∷ []))
  pub backup : Leave Backup (5 ∷ 7 ∷ [])
      (λ s m. pored s m s.phase s.address s.companion.address (shown_by s ∷ shown_pored s ∷ []))

-- "At the moment both supplies are gone"; the pin is released, so the answer is 1. "Event 6 while off with backup takes
-- the backup away."
pub record SuppliesGone : Type 0 where
  pub main : Leave On (6 ∷ []) (λ s m. dark m Off (1 ∷ []))
  pub backup : Leave Backup (6 ∷ []) (λ s m. dark m Off (1 ∷ []))

-- "Event 7 then changes only the power": events 6, 7 and 5, 6, 7. The pin is then a square wave.
pub record SuppliesGoneAndBack : Type 0 where
  pub main : Leave On (6 ∷ 7 ∷ []) (λ s m. dark m On (1 ∷ 5 ∷ []))
  pub backup : Leave Backup (6 ∷ 7 ∷ []) (λ s m. dark m On (1 ∷ 5 ∷ []))
  pub one_by_one : Leave On (5 ∷ 6 ∷ 7 ∷ []) (λ s m. dark m On (shown_by s ∷ 1 ∷ 5 ∷ []))

-- "Event 7 while on changes nothing; after backup it sets POR"; after both supplies were gone it "changes only the
-- power".
pub record PowerBack : Type 0 where
  pub main : Leave On (7 ∷ [])
      (λ s m. as_it_was s m On s.phase s.address s.companion.address (shown_by s ∷ []))
  pub backup : Leave Backup (7 ∷ [])
      (λ s m. pored s m s.phase s.address s.companion.address (shown_pored s ∷ []))
  pub none : Leave Off (7 ∷ [])
      (λ s m. as_it_was s m On s.phase s.address s.companion.address (shown_by s ∷ []))

-- With both supplies gone events 4 to 6 change nothing: "A tick counts if .. power or backup is present"; "event 5 while
-- off, or 6 when both supplies are already gone, changes nothing". The pin stays released.
pub record OffUnchanged : Type 0 where
  pub tick : Leave Off (4 ∷ []) (λ s m. as_it_was s m Off s.phase s.address s.companion.address (1 ∷ []))
  pub lost : Leave Off (5 ∷ []) (λ s m. as_it_was s m Off s.phase s.address s.companion.address (1 ∷ []))
  pub gone : Leave Off (6 ∷ []) (λ s m. as_it_was s m Off s.phase s.address s.companion.address (1 ∷ []))

-- "The fresh state has these registers and core, power on, no transfer, both addresses 0."
abbrev pub FreshSeen : Type 0
FreshSeen = (m : List ℕ) → seen (run_of fresh m []) ≡ dark m On []
