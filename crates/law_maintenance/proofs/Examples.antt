-- SPDX-License-Identifier: Apache-2.0
-- The worked examples, computed.
use Prim.Native.Nat.{ℕ}
use mathlib.Core.Path.{◌≡◌, refl, ap, ◌∙◌}
use mathlib.Core.Bool.{Bool, true, false, ◌&&◌}
use mathlib.Core.List.{List, [], ◌∷◌, ◌++◌}
use lib.Dec.{eqb, ltb}
use lib.ListN.{get_or}
use Rattle.wire.specs.Bits.{pushed, sent_bit, place_at}
use Rattle.wire.specs.Slave.{slave_names, answers, opened}
use Rattle.wire.specs.Clock.{kept, received_at, sent_at, more}
use Rattle.wire.specs.Machine.{clocked, lined}
use Rattle.fm3130_companion.specs.Part.{pin_of, lost_of}
use Rattle.fm3130.specs.Event.{happening, event_on}
use Rattle.fm3130.specs.Power.{fresh}
use Rattle.wire_clocks.specs.Events.{read_events}
use Rattle.lamps.specs.Log.{refused_in, clocks_in}
use Rattle.lamps_eight.specs.Lit.{read_in, lit_from}
use Rattle.lamps_eight.specs.Eight.{lamps_byte}
use Rattle.lamps.specs.Statement.{deserved, logged}
use Rattle.law_maintenance.specs.Examples.{proving_read, unstopped_read, Shown, pulled_read, LineNotMemory}
use Rattle.lamps.proofs.Proven.{proven}

-- the byte that the line shows of a byte in memory, where the master pulls at the clocks where d is false
abbrev through : ℕ → Bool → ℕ
through v d =
    pushed (pushed (pushed (pushed (pushed (pushed (pushed (pushed 0 (sent_bit 0 v)) (sent_bit 1 v)) (sent_bit 2 v)) (sent_bit 3 v))
    (sent_bit 4 v)) (sent_bit 5 v)) (d && sent_bit 6 v)) (sent_bit 7 v)

-- the definition, of a read that gave a byte, with t ticks since its Stop
abbrev alone : ℕ → ℕ → ℕ
alone v t = lamps_byte (eqb v 1 && ltb t 3) false false false false false false false

module _ (m : List ℕ) where
  abbrev v : ℕ
  v = get_or m 0x1000 0

  lit : deserved (logged fresh m proving_read) ≡ alone (through v true) 0
  unfolding happening event_on lined clocked received_at sent_at place_at pushed sent_bit slave_names answers opened kept more pin_of lost_of read_events refused_in clocks_in read_in lit_from
  lit = refl

  two : deserved (logged fresh m (proving_read ++ (4 ∷ 4 ∷ []))) ≡ alone (through v true) 2
  unfolding happening event_on lined clocked received_at sent_at place_at pushed sent_bit slave_names answers opened kept more pin_of lost_of read_events refused_in clocks_in read_in lit_from
  two = refl

  three : deserved (logged fresh m (proving_read ++ (4 ∷ 4 ∷ 4 ∷ []))) ≡ alone (through v true) 3
  unfolding happening event_on lined clocked received_at sent_at place_at pushed sent_bit slave_names answers opened kept more pin_of lost_of read_events refused_in clocks_in read_in lit_from
  three = refl

  hang : deserved (logged fresh m (proving_read ++ (0 ∷ 3 ∷ 4 ∷ 0 ∷ []))) ≡ 0
  unfolding happening event_on lined clocked received_at sent_at place_at pushed sent_bit slave_names answers opened kept more pin_of lost_of read_events refused_in clocks_in read_in lit_from
  hang = refl

  unstopped : deserved (logged fresh m unstopped_read) ≡ 0
  unfolding happening event_on lined clocked received_at sent_at place_at pushed sent_bit slave_names answers opened kept more pin_of lost_of read_events refused_in clocks_in read_in lit_from
  unstopped = refl

  pulled : deserved (logged fresh m pulled_read) ≡ alone (through v false) 0
  unfolding happening event_on lined clocked received_at sent_at place_at pushed sent_bit slave_names answers opened kept more pin_of lost_of read_events refused_in clocks_in read_in lit_from
  pulled = refl

  pub shown : get_or m 0x1000 0 ≡ 1 → Shown m
  unfolding pushed sent_bit
  shown h =
      record {
        lit = proven fresh m proving_read refl ∙ (lit ∙ ap (λ (n : ℕ). alone (through n true) 0) h);
        two = proven fresh m (proving_read ++ (4 ∷ 4 ∷ [])) refl ∙ (two ∙ ap (λ (n : ℕ). alone (through n true) 2) h);
        three = proven fresh m (proving_read ++ (4 ∷ 4 ∷ 4 ∷ [])) refl ∙ (three ∙ ap (λ (n : ℕ). alone (through n true) 3) h);
        hang = proven fresh m (proving_read ++ (0 ∷ 3 ∷ 4 ∷ 0 ∷ [])) refl ∙ hang;
        unstopped = proven fresh m unstopped_read refl ∙ unstopped;
      }

  pub line_not_memory : get_or m 0x1000 0 ≡ 3 → LineNotMemory m
  unfolding pushed sent_bit
  line_not_memory h = proven fresh m pulled_read refl ∙ (pulled ∙ ap (λ (n : ℕ). alone (through n false) 0) h)
