-- SPDX-License-Identifier: Apache-2.0
-- Clocks that come in rows, over any part: inside a byte that comes in or goes out, and outside a transfer. Each leaves the same
-- bus but for the clocks done and the bits.
use Prim.Native.Nat.{ℕ, ◌+◌, ◌/◌, ◌%◌, ◌<◌}
use mathlib.Core.Path.{◌≡◌, refl, ap, ◌∙◌}
use mathlib.Core.Bool.{Bool, true, cond, ◌&&◌, false≢true}
use mathlib.Core.List.{List}
use native.Mathlib.Omega.{arith}
use lib.Dec.{eqb}
use borrow.Author.Tests.{eqb-true, eqb-false}
use Rattle.wire.specs.Bits.{pushed, sent_bit}
use Rattle.wire.specs.Clock.{Half}
use Rattle.wire.specs.Kinds.{slave_byte, high_byte, low_byte, memory_byte, memory_read, pointer_byte, companion_byte, companion_read}
use Rattle.wire.specs.Machine.{Parts, clock, out, neither, beside, beyond, clocked, lined}
use Rattle.wire.specs.Memory.{lent}
use Rattle.wire.specs.declared.Named.{Named}
use Rattle.wire.specs.declared.Side.TheVariants.{Memory, Companion}
use Rattle.wire.specs.declared.Phase.{Phase}
use Rattle.wire.specs.declared.Phase.TheVariants.{Idle, Slave, AddressHigh, AddressLow, Pointer, Write, Read}
use Rattle.wire.proofs.Clock.{received_inside, sent_within}
use Rattle.wire.proofs.Tests.{by_test}
use Rattle.bus_limits.specs.Limits.{is_idle, power_within}
use Rattle.bus.specs.Desk.{Desks, part_of}
use Rattle.bus.specs.Event.{done, done_of, event_on, event_of}
use Rattle.bus.specs.Happening.{Happening, on_wire, happening}
use Rattle.bus.specs.Code.Outcome.{with_phase}
use Rattle.bus.specs.declared.Bus.{Bus}
use Rattle.bus.specs.declared.Power.{Power}
use Rattle.bus.specs.declared.Power.TheVariants.{On, Backup, Off}
use Rattle.bus_image.specs.Layout.{transfer, transfer_of}
use Rattle.bus_rows.specs.Row.{high}

-- The same byte of the same transfer, with so many clocks done and these bits.
unfoldable pub with_bits : Phase → ℕ → ℕ → Phase
with_bits Idle k b = Idle
with_bits (Slave j a) k b = Slave k b
with_bits (AddressHigh j a) k b = AddressHigh k b
with_bits (AddressLow h j a) k b = AddressLow h k b
with_bits (Pointer j a) k b = Pointer k b
with_bits (Write s j a) k b = Write s k b
with_bits (Read s j a) k b = Read s k b

pub own_bits : (p : Phase) → with_bits p (transfer_of p).clocks (transfer_of p).byte ≡ p
unfolding with_bits
own_bits Idle = refl
own_bits (Slave k b) = refl
own_bits (AddressHigh k b) = refl
own_bits (AddressLow h k b) = refl
own_bits (Pointer k b) = refl
own_bits (Write Memory k b) = refl
own_bits (Write Companion k b) = refl
own_bits (Read Memory k b) = refl
own_bits (Read Companion k b) = refl

pub bits_transfer : (p : Phase) (k b : ℕ) → 0 < (transfer_of p).phase
    → transfer_of (with_bits p k b) ≡ transfer (transfer_of p).phase k b (transfer_of p).first
unfolding with_bits
bits_transfer Idle k b h = absurd (omega arith)
bits_transfer (Slave j a) k b h = refl
bits_transfer (AddressHigh j a) k b h = refl
bits_transfer (AddressLow f j a) k b h = refl
bits_transfer (Pointer j a) k b h = refl
bits_transfer (Write Memory j a) k b h = refl
bits_transfer (Write Companion j a) k b h = refl
bits_transfer (Read Memory j a) k b h = refl
bits_transfer (Read Companion j a) k b h = refl

-- a transfer goes on only while main power is present
idle_number : (p : Phase) → is_idle p ≡ true → (transfer_of p).phase ≡ 0
idle_number Idle h = refl
idle_number (Slave k b) h = absurd (false≢true h)
idle_number (AddressHigh k b) h = absurd (false≢true h)
idle_number (AddressLow f k b) h = absurd (false≢true h)
idle_number (Pointer k b) h = absurd (false≢true h)
idle_number (Write s k b) h = absurd (false≢true h)
idle_number (Read s k b) h = absurd (false≢true h)

pub on_by : (q : Power) (p : Phase) → power_within q p ≡ true → 0 < (transfer_of p).phase → q ≡ On
unfolding power_within
on_by On p w h = refl
on_by Backup p w h = let z = idle_number p w in absurd (omega arith)
on_by Off p w h = let z = idle_number p w in absurd (omega arith)

pub no_transfer : (p : Phase) → (transfer_of p).phase ≡ 0 → p ≡ Idle
no_transfer Idle h = refl
no_transfer (Slave k b) h = absurd (omega arith)
no_transfer (AddressHigh k b) h = absurd (omega arith)
no_transfer (AddressLow f k b) h = absurd (omega arith)
no_transfer (Pointer k b) h = absurd (omega arith)
no_transfer (Write Memory k b) h = absurd (omega arith)
no_transfer (Write Companion k b) h = absurd (omega arith)
no_transfer (Read Memory k b) h = absurd (omega arith)
no_transfer (Read Companion k b) h = absurd (omega arith)

-- a Clock inside a byte that comes in, and inside one that goes out
module _ (P : Parts) (m : P.Cells) (c : P.Desk) (k b : ℕ) (d : Bool) where
  incoming_clocked : (p : Phase) → 0 < (transfer_of p).phase → (transfer_of p).phase < 7 → k < 7
      → clocked P (with_bits p k b) m c d ≡ out P (with_bits p (k + 1) (pushed b d)) m c d
  unfolding clocked with_bits
  incoming_clocked Idle h g l = absurd (omega arith)
  incoming_clocked (Slave j a) h g l =
      ap (λ (x : Half (Unit {0})). neither P m c x) (received_inside (slave_byte P.names) tt k b d l)
  incoming_clocked (AddressHigh j a) h g l =
      ap (λ (x : Half (Unit {0})). neither P m c x) (received_inside high_byte tt k b d l)
  incoming_clocked (AddressLow f j a) h g l =
      ap (λ (x : Half P.Cells). beside P c x) (received_inside (low_byte P.point f) m k b d l)
  incoming_clocked (Pointer j a) h g l =
      ap (λ (x : Half P.Desk). beyond P m x) (received_inside (pointer_byte P.aim) c k b d l)
  incoming_clocked (Write Memory j a) h g l =
      ap (λ (x : Half P.Cells). beside P c x) (received_inside (memory_byte (P.put (P.guard c))) m k b d l)
  incoming_clocked (Write Companion j a) h g l =
      ap (λ (x : Half P.Desk). beyond P m x) (received_inside (companion_byte P.store) c k b d l)
  incoming_clocked (Read Memory j a) h g l = absurd (omega arith)
  incoming_clocked (Read Companion j a) h g l = absurd (omega arith)

  outgoing_clocked : (p : Phase) → 6 < (transfer_of p).phase → 0 < k → k < 7
      → clocked P (with_bits p k b) m c d ≡ out P (with_bits p (k + 1) b) m c (d && sent_bit k b)
  unfolding clocked with_bits
  outgoing_clocked Idle h z l = absurd (omega arith)
  outgoing_clocked (Slave j a) h z l = absurd (omega arith)
  outgoing_clocked (AddressHigh j a) h z l = absurd (omega arith)
  outgoing_clocked (AddressLow f j a) h z l = absurd (omega arith)
  outgoing_clocked (Pointer j a) h z l = absurd (omega arith)
  outgoing_clocked (Write Memory j a) h z l = absurd (omega arith)
  outgoing_clocked (Write Companion j a) h z l = absurd (omega arith)
  outgoing_clocked (Read Memory j a) h z l =
      ap (λ (x : Half P.Cells). beside P c x)
      (sent_within (memory_read P.fetch P.step_on) m k b d (λ e. omega arith) l)
  outgoing_clocked (Read Companion j a) h z l =
      ap (λ (x : Half P.Desk). beyond P m x)
      (sent_within (companion_read P.load P.loaded) c k b d (λ e. omega arith) l)

-- an event byte that is a Clock, by its last bit
clock_byte : (beyond : ℕ → Happening) (e : ℕ) → e / 2 ≡ 1 → happening beyond e ≡ on_wire (clock (high e))
unfolding happening
clock_byte beyond e h =
    by_test (eqb e 3) (λ t. rw (eqb-true e 3 t) refl)
    (λ t. let n = eqb-false e 3 t in let two : e ≡ 2 = omega arith in rw two refl)

pub high_worth : (e : ℕ) → e % 2 ≡ cond (high e) 1 0
high_worth e =
    by_test (eqb (e % 2) 1) (λ t. rw t (eqb-true (e % 2) 1 t))
    (λ t. let n = eqb-false (e % 2) 1 t in let z : e % 2 ≡ 0 = omega arith in rw z refl)

module _ (size : ℕ) (names : ℕ → Named) (D : Desks) (u : Bus) (c : D.Desk) (m : List ℕ) (e : ℕ) (h : e / 2 ≡ 1) where
  clock_on_lem : u.power ≡ On
      → event_of size names D u c m e
      ≡ done_of size names D (clocked (part_of size names D) u.phase (lent m u.address) c (high e))
  unfolding event_on lined
  clock_on_lem o = rw (o, clock_byte D.beyond e h)

  module _ (o : u.power ≡ On) (p : Phase) (k b : ℕ) where
    pub incoming_event : 0 < (transfer_of p).phase → (transfer_of p).phase < 7 → k < 7 → u.phase ≡ with_bits p k b
        → event_of size names D u c m e
        ≡ done size names D (with_phase u (with_bits p (k + 1) (pushed b (high e)))) c m (high e)
    incoming_event g f l q =
        clock_on_lem o
        ∙ rw (q, o)
        (ap (done_of size names D) (incoming_clocked (part_of size names D) (lent m u.address) c k b (high e) p g f l))

    pub outgoing_event : 6 < (transfer_of p).phase → 0 < k → k < 7 → u.phase ≡ with_bits p k b
        → event_of size names D u c m e
        ≡ done size names D (with_phase u (with_bits p (k + 1) b)) c m (high e && sent_bit k b)
    outgoing_event g z l q =
        clock_on_lem o
        ∙ rw (q, o)
        (ap (done_of size names D) (outgoing_clocked (part_of size names D) (lent m u.address) c k b (high e) p g z l))

  idle_by : (q : Power) → u.power ≡ q → u.phase ≡ Idle
      → event_on size names D q (happening D.beyond e) u c m ≡ done size names D u c m (high e)
  unfolding event_on lined clocked
  idle_by On o z = rw (clock_byte D.beyond e h, o, z) refl
  idle_by Backup o z = rw (clock_byte D.beyond e h) refl
  idle_by Off o z = rw (clock_byte D.beyond e h) refl

  pub idle_event : u.phase ≡ Idle → event_of size names D u c m e ≡ done size names D u c m (high e)
  idle_event z = idle_by u.power refl z
