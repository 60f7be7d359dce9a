-- SPDX-License-Identifier: Apache-2.0
-- The parties on the bus of one part: those who use its memory, those who use its companion, and, as a third, those
-- whose transactions name neither (01, Transfers: "it is a memory or a companion transaction if every complete slave
-- byte in it names that device"; one with no complete slave byte is of each).
--   Party, MayName, MayTick            the parties, their slave bytes, their ticks
--   is_memory, is_companion, is_foreign   tests
--   BusEvent, PartyEvent, Fair         events of a part, and a merge of the parties' lists
--   WholeFrom, Whole                   a party's list of whole transactions
use Rattle.std.specs.Prelude.{◌≡◌, Bool, true, false, List, [], ◌∷◌}
use Rattle.wire.specs.Machine.{Parts, Event, line, tick}
use Rattle.wire.specs.declared.Side.{Side}
use Rattle.wire.specs.declared.Side.TheVariants.{Memory, Companion}
use Rattle.wire.specs.declared.Named.{Named}
use Rattle.wire.specs.declared.Named.TheVariants.{Nobody, Reads, Writes}
use Rattle.law_merging.specs.Merge.{Reader, between, next, MayStand, Said, Merged}

pub data Party : Type 0 where
  to : Side → Party
  foreign : Party

-- Auxiliary.
abbrev pub Same : Side → Side → Type 0
Same Memory Memory = Unit {0}
Same Memory Companion = ⊥
Same Companion Memory = ⊥
Same Companion Companion = Unit {0}

-- Whom a complete slave byte in a transaction of the party may name.
abbrev pub MayName : Party → Named → Type 0
MayName (to x) Nobody = ⊥
MayName (to x) (Reads s) = Same x s
MayName (to x) (Writes s) = Same x s
MayName foreign Nobody = Unit {0}
MayName foreign (Reads s) = ⊥
MayName foreign (Writes s) = ⊥

-- "And, in demand 3's second list, ticks": ticks are the companion's.
abbrev pub MayTick : Party → Type 0
MayTick (to Memory) = ⊥
MayTick (to Companion) = Unit {0}
MayTick foreign = ⊥

abbrev pub is_memory : Party → Bool
is_memory (to Memory) = true
is_memory (to Companion) = false
is_memory foreign = false

abbrev pub is_companion : Party → Bool
is_companion (to Memory) = false
is_companion (to Companion) = true
is_companion foreign = false

abbrev pub is_foreign : Party → Bool
is_foreign (to x) = false
is_foreign foreign = true

module _ (P : Parts) where
  abbrev pub BusEvent : Type 0
  BusEvent = Event P.Tick

  abbrev pub PartyEvent : Type 0
  PartyEvent = Said Party P.Tick

  -- It is party i's turn, its reader stands at q, and the rest is a merge.
  abbrev pub Fair : Party → Reader → List PartyEvent → Type 0
  Fair = Merged Party P.Tick (λ i b. MayName i (P.names b)) (λ i t. MayTick i)

  -- A party's list from where its reader stands; it ends between transactions.
  abbrev pub WholeFrom : Party → Reader → List BusEvent → Type 0
  WholeFrom i q [] = q ≡ between
  WholeFrom i q (line x ∷ es) = MayStand (λ b. MayName i (P.names b)) q x × WholeFrom i (next q x) es
  WholeFrom i q (tick t ∷ es) = MayTick i × WholeFrom i q es

  abbrev pub Whole : Party → List BusEvent → Type 0
  Whole i es = WholeFrom i between es
