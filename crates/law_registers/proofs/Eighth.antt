-- SPDX-License-Identifier: Apache-2.0
-- A data byte for the companion at its eighth clock: over any part the eight clocks leave what the companion makes of the byte,
-- acknowledged or not; so do the nine.
use Prim.Native.Nat.{ℕ, ◌<◌}
use mathlib.Core.Path.{◌≡◌, refl, sym, ap, ◌∙◌}
use mathlib.Core.Bool.{Bool}
use mathlib.Core.List.{List}
use Rattle.wire.specs.Bits.{place_at}
use Rattle.wire.specs.Clock.{received_at}
use Rattle.wire.specs.HighFirst.{sent_bits}
use Rattle.wire.specs.Memory.{lent}
use Rattle.wire.specs.Machine.{Parts, clocked, lined}
use Rattle.wire.specs.Whole.{clocks_on}
use Rattle.wire.specs.declared.Side.TheVariants.{Companion}
use Rattle.wire.specs.declared.Phase.TheVariants.{Write}
use Rattle.wire.proofs.Tests.{by_test}
use Rattle.wire.proofs.Whole.{made_of, made, in_phase}
use Rattle.fm3130_companion.specs.Part.{store_of}
use Rattle.fm3130.specs.Chip.{fm3130}
use Rattle.fm3130.specs.declared.State.{State}
use Rattle.fm3130_list.specs.Run.{run_of}
use Rattle.wire_clocks.specs.Clocks.{eight_clocks}
use Rattle.law_transfers.proofs.Runs.{clocks_lead}
use Rattle.law_transfers.proofs.Written.{on_bus}
use Rattle.law_registers.specs.Written.{after_byte}
use Rattle.law_registers.specs.Eighth.{StoredAtEighth}
use Rattle.law_registers.proofs.Clocking.{Desk}
use Rattle.law_registers.proofs.Storing.{byte_stored_lem, byte_left}
use Rattle.law_registers.proofs.Written.{of_writes}

eight_made : (P : Parts) (m : P.Cells) (c : P.Desk) (b : ℕ)
    → (clocks_on P (in_phase P m c (Write Companion 0 0)) (sent_bits b)).state.companion ≡ (P.store c (made_of b)).next
unfolding lined clocked received_at place_at
eight_made P m c b = refl

module _ (a : ℕ) (m : List ℕ) (c : Desk) (b : ℕ) (d : Bool) (byte : b < 256) where
  abbrev begun : State
  begun = on_bus (Write Companion 0 0) a c

  eight_leave : (run_of begun m (eight_clocks b)).state.companion ≡ (store_of c b).companion
  eight_leave =
      let run = clocks_lead (in_phase fm3130 (lent m a) c (Write Companion 0 0)) (sent_bits b) in
      ap (λ (s : State). s.companion) run.state
      ∙ (eight_made fm3130 (lent m a) c b ∙ ap (λ (x : ℕ). (store_of c x).companion) (made b byte))

  nine_leave : after_byte begun m b d ≡ (store_of c b).companion
  nine_leave =
      by_test (store_of c b).acknowledged
      (λ t. ap (λ (s : State). s.companion) (byte_stored_lem a m c b d byte t).state)
      (λ t. ap (λ (s : State). s.companion) (byte_left a m c b d byte t).state)

  at_eighth_lem : (run_of begun m (eight_clocks b)).state.companion ≡ after_byte begun m b d
  at_eighth_lem = eight_leave ∙ sym nine_leave

pub stored_at_eighth : StoredAtEighth
stored_at_eighth = of_writes _ at_eighth_lem
