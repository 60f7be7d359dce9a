-- SPDX-License-Identifier: Apache-2.0
-- An event leaves alone what it does not serve, over any part: by cases on the phase, each a computation.
use mathlib.Core.Path.{◌≡◌, refl}
use mathlib.Core.Bool.{Bool, false, true≢false}
use Rattle.wire.specs.Machine.{Parts, clocked, lined}
use Rattle.wire.specs.Framing.{serves_memory, serves_companion, Framed}
use Rattle.wire.specs.declared.Side.TheVariants.{Memory, Companion}
use Rattle.wire.specs.declared.Phase.{Phase}
use Rattle.wire.specs.declared.Phase.TheVariants.{Idle, Slave, AddressHigh, AddressLow, Pointer, Write, Read}

module _ (P : Parts) where
  memory_kept : (p : Phase) (m : P.Cells) (c : P.Desk) (d : Bool) → serves_memory p ≡ false
      → (clocked P p m c d).state.memory ≡ m
  unfolding clocked
  memory_kept Idle m c d h = refl
  memory_kept (Slave k b) m c d h = refl
  memory_kept (AddressHigh k b) m c d h = refl
  memory_kept (AddressLow u k b) m c d h = absurd (true≢false h)
  memory_kept (Pointer k b) m c d h = refl
  memory_kept (Write Memory k b) m c d h = absurd (true≢false h)
  memory_kept (Write Companion k b) m c d h = refl
  memory_kept (Read Memory k b) m c d h = absurd (true≢false h)
  memory_kept (Read Companion k b) m c d h = refl

  companion_kept : (p : Phase) (m : P.Cells) (c : P.Desk) (d : Bool) → serves_companion p ≡ false
      → (clocked P p m c d).state.companion ≡ c
  unfolding clocked
  companion_kept Idle m c d h = refl
  companion_kept (Slave k b) m c d h = refl
  companion_kept (AddressHigh k b) m c d h = refl
  companion_kept (AddressLow u k b) m c d h = refl
  companion_kept (Pointer k b) m c d h = absurd (true≢false h)
  companion_kept (Write Memory k b) m c d h = refl
  companion_kept (Write Companion k b) m c d h = absurd (true≢false h)
  companion_kept (Read Memory k b) m c d h = refl
  companion_kept (Read Companion k b) m c d h = absurd (true≢false h)

  pub framed : Framed P
  unfolding lined
  framed =
      record {
        clock_memory = λ s d h. memory_kept s.phase s.memory s.companion d h;
        clock_companion = λ s d h. companion_kept s.phase s.memory s.companion d h;
        start_memory = λ s. refl;
        start_companion = λ s. refl;
        stop_memory = λ s. refl;
        stop_companion = λ s. refl;
        tick_phase = λ s t. refl;
        tick_memory = λ s t. refl;
      }
