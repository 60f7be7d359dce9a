-- SPDX-License-Identifier: Apache-2.0
-- The supplies going and coming (02, number 5; 01, Ticks, alarm, power), on every state, well-formed or not, at any size and
-- select bits, with any memory. Each law says all that is left, in numbers; every answer is 1, the line at rest.
--   PowerAway, PowerAwayAndBack         event 5; then 7
--   SuppliesGone, SuppliesGoneAndBack   event 6; then 7, also after 5
--   PowerBack, OffUnchanged             event 7 under each supply; a tick, edges and losses while both supplies are gone
--   Unheard                             Start, Stop and Clocks without main power
--   FreshSeen                           the fresh state
use Rattle.std.specs.Prelude.{ℕ, ◌≡◌, List, [], ◌∷◌}
use Rattle.wire.specs.declared.Phase.TheVariants.{Idle}
use Rattle.bus.specs.declared.Power.{Power}
use Rattle.bus.specs.declared.Power.TheVariants.{On, Backup, Off}
use Rattle.fm31.specs.Chip.{fresh}
use Rattle.fm31.specs.Run.{run_of}
use Rattle.law_family.specs.Seen.{seen}
use Rattle.law_family.specs.Left.{as_it_was, pored, dark, Leave}

-- Auxiliary: nothing is another but the supplies.
abbrev pub Stays : Power → List ℕ → Power → List ℕ → Type 0
Stays power es after answers =
    Leave power es (λ s m. as_it_was s m after s.bus.phase s.bus.address s.counters.address answers)

-- 01: "Power lost: the transfer ends", the memory's address becomes 0; 02: "The companion address starts at 09h, also after
-- power loss". "Event 5 while off .. changes nothing."
pub record PowerAway : Type 0 where
  pub main : Leave On (5 ∷ []) (λ s m. as_it_was s m Backup Idle 0 0x09 (1 ∷ []))
  pub backup : Stays Backup (5 ∷ []) Backup (1 ∷ [])

-- Events 5, 7: main power lost and returned, backup present.
pub record PowerAwayAndBack : Type 0 where
  pub main : Leave On (5 ∷ 7 ∷ []) (λ s m. pored s m Idle 0 0x09 (1 ∷ 1 ∷ []))
  pub backup : Leave Backup (5 ∷ 7 ∷ [])
      (λ s m. pored s m s.bus.phase s.bus.address s.counters.address (1 ∷ 1 ∷ []))

-- "That loss": from main power and from backup. "Event 6 while off with backup takes the backup away."
pub record SuppliesGone : Type 0 where
  pub main : Leave On (6 ∷ []) (λ s m. dark s m Off (1 ∷ []))
  pub backup : Leave Backup (6 ∷ []) (λ s m. dark s m Off (1 ∷ []))

-- 01: "Event 7 then changes only the power": events 6, 7 and 5, 6, 7.
pub record SuppliesGoneAndBack : Type 0 where
  pub main : Leave On (6 ∷ 7 ∷ []) (λ s m. dark s m On (1 ∷ 1 ∷ []))
  pub backup : Leave Backup (6 ∷ 7 ∷ []) (λ s m. dark s m On (1 ∷ 1 ∷ []))
  pub one_by_one : Leave On (5 ∷ 6 ∷ 7 ∷ []) (λ s m. dark s m On (1 ∷ 1 ∷ 1 ∷ []))

-- 01: "Event 7 while on changes nothing; after backup it sets POR".
pub record PowerBack : Type 0 where
  pub main : Stays On (7 ∷ []) On (1 ∷ [])
  pub backup : Leave Backup (7 ∷ [])
      (λ s m. pored s m s.bus.phase s.bus.address s.counters.address (1 ∷ []))
  pub none : Stays Off (7 ∷ []) On (1 ∷ [])

-- With both supplies gone a tick, losses and edges change nothing: "Edges count while power or backup is present".
pub record OffUnchanged : Type 0 where
  pub tick : Stays Off (4 ∷ []) Off (1 ∷ [])
  pub lost : Stays Off (5 ∷ []) Off (1 ∷ [])
  pub gone : Stays Off (6 ∷ []) Off (1 ∷ [])
  pub first : Stays Off (8 ∷ []) Off (1 ∷ [])
  pub second : Stays Off (9 ∷ []) Off (1 ∷ [])

-- 01: "While off, bus events do nothing and a Clock's line is the master's": Start, Stop, a Clock with the line low, one with
-- it high.
pub record Unheard : Type 0 where
  pub backup : Stays Backup (0 ∷ 1 ∷ 2 ∷ 3 ∷ []) Backup (1 ∷ 1 ∷ 0 ∷ 1 ∷ [])
  pub none : Stays Off (0 ∷ 1 ∷ 2 ∷ 3 ∷ []) Off (1 ∷ 1 ∷ 0 ∷ 1 ∷ [])

-- "A fresh device has 0 elsewhere."
abbrev pub FreshSeen : Type 0
FreshSeen =
    (size select : ℕ) (m : List ℕ)
    → seen (run_of size select fresh m [])
    ≡ record {
      power = On;
      phase = Idle;
      address = 0;
      pointer = 0x09;
      registers = 0x60 ∷ 0 ∷ 0 ∷ 0 ∷ 0 ∷ 0 ∷ 0 ∷ 0 ∷ 0 ∷ 0 ∷ 0 ∷ 0 ∷ 0 ∷ 0 ∷ 0 ∷ 0 ∷ [];
      snapshot = 0 ∷ 0 ∷ 0 ∷ 0 ∷ [];
      memory = m;
      answers = [];
    }
