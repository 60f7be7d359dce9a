-- SPDX-License-Identifier: Apache-2.0
-- Whole bytes on the wire, over any part. At a numeral of clocks done the machine computes, for any bits, so each kind of
-- byte is one computation.
use Prim.Native.Nat.{ℕ, ◌<◌}
use mathlib.Core.Path.{◌≡◌, refl}
use mathlib.Core.Bool.{Bool, true, false}
use Rattle.wire.specs.Bits.{place_at}
use Rattle.wire.specs.HighFirst.{pushed_all, sent_bits}
use Rattle.wire.specs.Slave.{answers, opened}
use Rattle.wire.specs.Clock.{kept, received_at, sent_at}
use Rattle.wire.specs.Machine.{Parts, State, clocked, lined}
use Rattle.wire.specs.Whole.{nine_bits, clocks_on, SendsMemory, SendsCompanion}
use Rattle.wire.specs.declared.Side.TheVariants.{Memory}
use Rattle.wire.specs.declared.Phase.{Phase}
use Rattle.wire.specs.declared.Phase.TheVariants.{Idle, Slave, AddressHigh, AddressLow, Write}
use Rattle.wire.proofs.HighFirst.{pushed_sent}

module _ (P : Parts) where
  pub sends_memory : SendsMemory P
  unfolding lined clocked sent_at place_at
  sends_memory m c b d₀ d₁ d₂ d₃ d₄ d₅ d₆ d₇ = record { lines = refl; state = refl }

  pub sends_companion : SendsCompanion P
  unfolding lined clocked sent_at place_at
  sends_companion m c b d₀ d₁ d₂ d₃ d₄ d₅ d₆ d₇ = record { lines = refl; state = refl }

-- the byte that the bits of b make, put together one by one: b itself, where b is a byte
abbrev pub made_of : ℕ → ℕ
made_of b = pushed_all 0 (sent_bits b)

pub made : (b : ℕ) → b < 256 → made_of b ≡ b
made = pushed_sent

module _ (P : Parts) (m : P.Cells) (c : P.Desk) where
  abbrev pub in_phase : Phase → State P
  in_phase p = record { phase = p; memory = m; companion = c }

  -- a slave byte that somebody answers, and one that nobody does
  pub slave_answered : (b : ℕ) (d : Bool) → answers (P.names (made_of b)) ≡ true
      → clocks_on P (in_phase (Slave 0 0)) (nine_bits b d)
      ≡ record { state = in_phase (opened (P.names (made_of b))); lines = nine_bits b false }
  unfolding lined clocked received_at place_at kept
  slave_answered b d e = rw e

  -- the two address bytes of a memory write
  pub high_taken : (b : ℕ) (d : Bool)
      → clocks_on P (in_phase (AddressHigh 0 0)) (nine_bits b d)
      ≡ record { state = in_phase (AddressLow (made_of b) 0 0); lines = nine_bits b false }
  unfolding lined clocked received_at place_at kept
  high_taken b d = refl

  pub low_taken : (h b : ℕ) (d : Bool)
      → clocks_on P (in_phase (AddressLow h 0 0)) (nine_bits b d)
      ≡ record {
        state = record { phase = Write Memory 0 0; memory = P.point m h (made_of b); companion = c };
        lines = nine_bits b false;
      }
  unfolding lined clocked received_at place_at kept
  low_taken h b d = refl

  -- a data byte for the memory: acknowledged, or refused with its ninth line left to the master
  pub data_taken : (b : ℕ) (d : Bool) → (P.put (P.guard c) m (made_of b)).good ≡ true
      → clocks_on P (in_phase (Write Memory 0 0)) (nine_bits b d)
      ≡ record {
        state = record { phase = Write Memory 0 0; memory = (P.put (P.guard c) m (made_of b)).next; companion = c };
        lines = nine_bits b false;
      }
  unfolding lined clocked received_at place_at kept
  data_taken b d e = rw e

  pub data_refused : (b : ℕ) (d : Bool) → (P.put (P.guard c) m (made_of b)).good ≡ false
      → clocks_on P (in_phase (Write Memory 0 0)) (nine_bits b d)
      ≡ record {
        state = record { phase = Idle; memory = (P.put (P.guard c) m (made_of b)).next; companion = c };
        lines = nine_bits b d;
      }
  unfolding lined clocked received_at place_at kept
  data_refused b d e = rw e
