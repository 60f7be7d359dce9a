-- SPDX-License-Identifier: Apache-2.0
-- Events that come in rows: a Clock inside a byte that comes in or goes out, a Clock outside a transfer, a tick that moves
-- the core. Each is the same state but for a few bytes of its image.
use Prim.Native.Nat.{ℕ, ◌+◌, ◌*◌, ◌/◌, ◌%◌, ◌<◌}
use mathlib.Core.Path.{◌≡◌, refl, sym, ap, ◌∙◌}
use mathlib.Core.Bool.{Bool, true, cond, ◌&&◌, false≢true}
use mathlib.Core.List.{List}
use native.Mathlib.Omega.{arith}
use lib.Dec.{eqb}
use lib.ListN.{get_or, set}
use borrow.Author.Tests.{eqb-true, eqb-false}
use Rattle.wire.specs.Bits.{pushed, sent_bit}
use Rattle.wire.specs.Clock.{Half}
use Rattle.wire.specs.Kinds.{slave_byte, high_byte, low_byte, memory_byte, memory_read, pointer_byte, companion_byte, companion_read}
use Rattle.wire.specs.Machine.{clock, out, neither, beside, beyond, clocked, lined}
use Rattle.wire.specs.Memory.{Cells, lent}
use Rattle.wire.specs.declared.Side.TheVariants.{Memory, Companion}
use Rattle.wire.specs.declared.Phase.{Phase}
use Rattle.wire.specs.declared.Phase.TheVariants.{Idle, Slave, AddressHigh, AddressLow, Pointer, Write, Read}
use Rattle.wire.proofs.Clock.{received_inside, sent_first, sent_within}
use Rattle.wire.proofs.Tests.{by_test}
use Rattle.bus_limits.specs.Limits.{is_idle, power_within}
use Rattle.bus.specs.declared.Power.{Power}
use Rattle.bus.specs.declared.Power.TheVariants.{On, Backup, Off}
use Rattle.fm3130_companion.specs.Tick.{counted_of}
use Rattle.fm3130_companion.specs.declared.Companion as desk
use Rattle.fm3130.specs.Answer.{pin_shown}
use Rattle.fm3130.specs.Code.Bus.{with_companion}
use Rattle.fm3130.specs.Chip.{fm3130, Done, done_of}
use Rattle.fm3130.specs.Event.{on_wire, happening, event_on, event_of}
use Rattle.fm3130.specs.Limits.{well_formed}
use Rattle.fm3130.specs.declared.State.{State}
use Rattle.fm3130.proofs.Cases.{still, with_phase, happening_clock, tick_supplied}
use Rattle.fm3130.proofs.Entry.{limits_of}
use Rattle.bus_image.specs.Layout.{transfer, transfer_of}
use Rattle.bus_image.specs.Code.Layout.{side_of}
use Rattle.fm3130_image.specs.Image.{image_of}
use Rattle.place_tick.specs.Code.Tick.{is_ticking}
use Rattle.place_tick.proofs.Ticks.{ticking_parts, ticking_tick}
use Rattle.place_clock.specs.Code.Outgoing.{fetched_from}
use Rattle.fm3130_list.specs.Run.{answer_to}

-- The same byte of the same transfer, with so many clocks done and these bits.
unfoldable pub with_bits : Phase → ℕ → ℕ → Phase
with_bits Idle k b = Idle
with_bits (Slave j a) k b = Slave k b
with_bits (AddressHigh j a) k b = AddressHigh k b
with_bits (AddressLow h j a) k b = AddressLow h k b
with_bits (Pointer j a) k b = Pointer k b
with_bits (Write s j a) k b = Write s k b
with_bits (Read s j a) k b = Read s k b

own_bits : (p : Phase) → with_bits p (transfer_of p).clocks (transfer_of p).byte ≡ p
unfolding with_bits
own_bits Idle = refl
own_bits (Slave k b) = refl
own_bits (AddressHigh k b) = refl
own_bits (AddressLow h k b) = refl
own_bits (Pointer k b) = refl
own_bits (Write Memory k b) = refl
own_bits (Write Companion k b) = refl
own_bits (Read Memory k b) = refl
own_bits (Read Companion k b) = refl

pub bits_transfer : (p : Phase) (k b : ℕ) → 0 < (transfer_of p).phase
    → transfer_of (with_bits p k b) ≡ transfer (transfer_of p).phase k b (transfer_of p).first
unfolding with_bits
bits_transfer Idle k b h = absurd (omega arith)
bits_transfer (Slave j a) k b h = refl
bits_transfer (AddressHigh j a) k b h = refl
bits_transfer (AddressLow f j a) k b h = refl
bits_transfer (Pointer j a) k b h = refl
bits_transfer (Write Memory j a) k b h = refl
bits_transfer (Write Companion j a) k b h = refl
bits_transfer (Read Memory j a) k b h = refl
bits_transfer (Read Companion j a) k b h = refl

-- where a transfer lies in an image
module _ (i : List ℕ) (s : State) (e : i ≡ image_of s) where
  pub number_lies : get_or i 26 0 ≡ (transfer_of s.phase).phase
  unfolding image_of
  number_lies = rw e

  pub clocks_lie : get_or i 27 0 ≡ (transfer_of s.phase).clocks
  unfolding image_of
  clocks_lie = rw e

  byte_lies : get_or i 28 0 ≡ (transfer_of s.phase).byte
  unfolding image_of
  byte_lies = rw e

  pub bits_lie : s ≡ with_phase s (with_bits s.phase (get_or i 27 0) (get_or i 28 0))
  bits_lie = ap (with_phase s) (sym (own_bits s.phase) ∙ rw (clocks_lie, byte_lies) refl)

  pub bits_over : (k b : ℕ) → 0 < (transfer_of s.phase).phase
      → set (set i 27 k) 28 b ≡ image_of (with_phase s (with_bits s.phase k b))
  unfolding image_of
  bits_over k b h = rw (e, bits_transfer s.phase k b h)

-- a transfer goes on only while main power is present
idle_number : (p : Phase) → is_idle p ≡ true → (transfer_of p).phase ≡ 0
idle_number Idle h = refl
idle_number (Slave k b) h = absurd (false≢true h)
idle_number (AddressHigh k b) h = absurd (false≢true h)
idle_number (AddressLow f k b) h = absurd (false≢true h)
idle_number (Pointer k b) h = absurd (false≢true h)
idle_number (Write s k b) h = absurd (false≢true h)
idle_number (Read s k b) h = absurd (false≢true h)

on_by : (q : Power) (p : Phase) → power_within q p ≡ true → 0 < (transfer_of p).phase → q ≡ On
unfolding power_within
on_by On p w h = refl
on_by Backup p w h = let z = idle_number p w in absurd (omega arith)
on_by Off p w h = let z = idle_number p w in absurd (omega arith)

pub on_while : (s : State) → well_formed s ≡ true → 0 < (transfer_of s.phase).phase → s.power ≡ On
on_while s w h = on_by s.power s.phase (limits_of s w).power h

pub no_transfer : (p : Phase) → (transfer_of p).phase ≡ 0 → p ≡ Idle
no_transfer Idle h = refl
no_transfer (Slave k b) h = absurd (omega arith)
no_transfer (AddressHigh k b) h = absurd (omega arith)
no_transfer (AddressLow f k b) h = absurd (omega arith)
no_transfer (Pointer k b) h = absurd (omega arith)
no_transfer (Write Memory k b) h = absurd (omega arith)
no_transfer (Write Companion k b) h = absurd (omega arith)
no_transfer (Read Memory k b) h = absurd (omega arith)
no_transfer (Read Companion k b) h = absurd (omega arith)

-- a Clock inside a byte that comes in, and inside one that goes out
module _ (m : Cells) (c : desk.Companion) (k b : ℕ) (d : Bool) where
  incoming_clocked : (p : Phase) → 0 < (transfer_of p).phase → (transfer_of p).phase < 7 → k < 7
      → clocked fm3130 (with_bits p k b) m c d ≡ out fm3130 (with_bits p (k + 1) (pushed b d)) m c d
  unfolding clocked with_bits
  incoming_clocked Idle h g l = absurd (omega arith)
  incoming_clocked (Slave j a) h g l =
      ap (λ (x : Half (Unit {0})). neither fm3130 m c x) (received_inside (slave_byte fm3130.names) tt k b d l)
  incoming_clocked (AddressHigh j a) h g l =
      ap (λ (x : Half (Unit {0})). neither fm3130 m c x) (received_inside high_byte tt k b d l)
  incoming_clocked (AddressLow f j a) h g l =
      ap (λ (x : Half Cells). beside fm3130 c x) (received_inside (low_byte fm3130.point f) m k b d l)
  incoming_clocked (Pointer j a) h g l =
      ap (λ (x : Half desk.Companion). beyond fm3130 m x) (received_inside (pointer_byte fm3130.aim) c k b d l)
  incoming_clocked (Write Memory j a) h g l =
      ap (λ (x : Half Cells). beside fm3130 c x)
      (received_inside (memory_byte (fm3130.put (fm3130.guard c))) m k b d l)
  incoming_clocked (Write Companion j a) h g l =
      ap (λ (x : Half desk.Companion). beyond fm3130 m x) (received_inside (companion_byte fm3130.store) c k b d l)
  incoming_clocked (Read Memory j a) h g l = absurd (omega arith)
  incoming_clocked (Read Companion j a) h g l = absurd (omega arith)

  outgoing_clocked : (p : Phase) → 6 < (transfer_of p).phase → 0 < k → k < 7
      → clocked fm3130 (with_bits p k b) m c d ≡ out fm3130 (with_bits p (k + 1) b) m c (d && sent_bit k b)
  unfolding clocked with_bits
  outgoing_clocked Idle h z l = absurd (omega arith)
  outgoing_clocked (Slave j a) h z l = absurd (omega arith)
  outgoing_clocked (AddressHigh j a) h z l = absurd (omega arith)
  outgoing_clocked (AddressLow f j a) h z l = absurd (omega arith)
  outgoing_clocked (Pointer j a) h z l = absurd (omega arith)
  outgoing_clocked (Write Memory j a) h z l = absurd (omega arith)
  outgoing_clocked (Write Companion j a) h z l = absurd (omega arith)
  outgoing_clocked (Read Memory j a) h z l =
      ap (λ (x : Half Cells). beside fm3130 c x)
      (sent_within (memory_read fm3130.fetch fm3130.step_on) m k b d (λ e. omega arith) l)
  outgoing_clocked (Read Companion j a) h z l =
      ap (λ (x : Half desk.Companion). beyond fm3130 m x)
      (sent_within (companion_read fm3130.load fm3130.loaded) c k b d (λ e. omega arith) l)

-- the first Clock of a byte that goes out
first_clocked : (s : State) (m : List ℕ) (b : ℕ) (d : Bool) (p : Phase) → 6 < (transfer_of p).phase
    → (f : ℕ) → f ≡ fetched_from (side_of (transfer_of p).phase) s m
    → clocked fm3130 (with_bits p 0 b) (lent m s.address) s.companion d
    ≡ out fm3130 (with_bits p 1 f) (lent m s.address) s.companion (d && sent_bit 0 f)
unfolding clocked with_bits
first_clocked s m b d Idle h f e = absurd (omega arith)
first_clocked s m b d (Slave j a) h f e = absurd (omega arith)
first_clocked s m b d (AddressHigh j a) h f e = absurd (omega arith)
first_clocked s m b d (AddressLow g j a) h f e = absurd (omega arith)
first_clocked s m b d (Pointer j a) h f e = absurd (omega arith)
first_clocked s m b d (Write Memory j a) h f e = absurd (omega arith)
first_clocked s m b d (Write Companion j a) h f e = absurd (omega arith)
first_clocked s m b d (Read Memory j a) h f e =
    rw e
    (ap (λ (x : Half Cells). beside fm3130 s.companion x)
    (sent_first (memory_read fm3130.fetch fm3130.step_on) (lent m s.address) 0 b d refl))
first_clocked s m b d (Read Companion j a) h f e =
    rw e
    (ap (λ (x : Half desk.Companion). beyond fm3130 (lent m s.address) x)
    (sent_first (companion_read fm3130.load fm3130.loaded) s.companion 0 b d refl))

-- the master's line by the event's last bit
abbrev pub high : ℕ → Bool
high e = eqb (e % 2) 1

high_three : (e : ℕ) → e / 2 ≡ 1 → eqb e 3 ≡ high e
high_three e h =
    by_test (eqb e 3) (λ t. rw (eqb-true e 3 t)) (λ t. let n = eqb-false e 3 t in let two : e ≡ 2 = omega arith in rw two)

clock_byte : (e : ℕ) → e / 2 ≡ 1 → happening e ≡ on_wire (clock (high e))
clock_byte e h = happening_clock e h ∙ ap (λ (t : Bool). on_wire (clock t)) (high_three e h)

high_worth : (e : ℕ) → e % 2 ≡ cond (high e) 1 0
high_worth e =
    by_test (eqb (e % 2) 1) (λ t. rw t (eqb-true (e % 2) 1 t))
    (λ t. let n = eqb-false (e % 2) 1 t in let z : e % 2 ≡ 0 = omega arith in rw z)

-- What a Clock leaves that touches the phase alone.
abbrev pub turned : State → Phase → List ℕ → Bool → Done
turned s p m d = record { state = with_phase s p; memory = m; line = d }

module _ (s : State) (m : List ℕ) (e : ℕ) (h : e / 2 ≡ 1) where
  clock_on_lem : s.power ≡ On
      → event_of s m e ≡ done_of (clocked fm3130 s.phase (lent m s.address) s.companion (high e))
  unfolding event_on lined
  clock_on_lem o = rw (o, clock_byte e h)

  module _ (o : s.power ≡ On) (p : Phase) (k b : ℕ) where
    pub incoming_event : 0 < (transfer_of p).phase → (transfer_of p).phase < 7 → k < 7
        → s.phase ≡ with_bits p k b → event_of s m e ≡ turned s (with_bits p (k + 1) (pushed b (high e))) m (high e)
    incoming_event g f l q =
        clock_on_lem o
        ∙ rw (q, o) (ap done_of (incoming_clocked (lent m s.address) s.companion k b (high e) p g f l))

    pub outgoing_event : 6 < (transfer_of p).phase → 0 < k → k < 7 → s.phase ≡ with_bits p k b
        → event_of s m e ≡ turned s (with_bits p (k + 1) b) m (high e && sent_bit k b)
    outgoing_event g z l q =
        clock_on_lem o
        ∙ rw (q, o) (ap done_of (outgoing_clocked (lent m s.address) s.companion k b (high e) p g z l))

  pub first_event : s.power ≡ On → (p : Phase) (b : ℕ) → 6 < (transfer_of p).phase → s.phase ≡ with_bits p 0 b
      → (f : ℕ) → f ≡ fetched_from (side_of (transfer_of p).phase) s m
      → event_of s m e ≡ turned s (with_bits p 1 f) m (high e && sent_bit 0 f)
  first_event o p b g q f r =
      let c = first_clocked s m b (high e) p g f r in
      clock_on_lem o ∙ rw (q, o) (ap done_of c)

  idle_by : (q : Power) → s.power ≡ q → s.phase ≡ Idle
      → event_on q (happening e) s m ≡ turned s s.phase m (high e)
  unfolding event_on lined clocked
  idle_by On o z = rw (clock_byte e h, o, z) refl
  idle_by Backup o z = rw (clock_byte e h) refl
  idle_by Off o z = rw (clock_byte e h) refl

  pub idle_event : s.phase ≡ Idle → event_of s m e ≡ turned s s.phase m (high e)
  idle_event z = idle_by s.power refl z

-- the answers
pub high_answer : (s : State) (p : Phase) (m : List ℕ) (e v : ℕ) → v ≡ 2 * pin_shown s.power s.companion
    → v + e % 2 ≡ answer_to (turned s p m (high e))
high_answer s p m e v q = λ i. q i + high_worth e i

pub line_answer : (s : State) (p : Phase) (m : List ℕ) (v w : ℕ) (d : Bool) → v ≡ 2 * pin_shown s.power s.companion
    → w ≡ v + cond d 1 0 → w ≡ answer_to (turned s p m d)
line_answer s p m v w d q r = r ∙ ap (λ (x : ℕ). x + cond d 1 0) q

-- a tick that moves the core
pub tick_event : (s : State) (m : List ℕ) (e : ℕ) → is_ticking s ≡ true → e ≡ 4
    → event_of s m e ≡ still (with_companion s (counted_of s.companion)) m
unfolding happening
tick_event s m e h q =
    rw q
    (tick_supplied s m (ticking_parts s h).0
    ∙ ap (λ (c : desk.Companion). still (with_companion s c) m) (ticking_tick s h))

pub still_answer : (s : State) (m : List ℕ) (v : ℕ) → v ≡ 2 * pin_shown s.power s.companion
    → v + 1 ≡ answer_to (still s m)
still_answer s m v q = ap (λ (x : ℕ). x + 1) q
