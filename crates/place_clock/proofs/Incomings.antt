-- SPDX-License-Identifier: Apache-2.0
-- A Clock of the machine in a byte that comes in, as what lies in the image: inside the byte, at its eighth clock, and at
-- its acknowledge. Each law goes by the phase once; the functions' proofs know the number alone.
use Prim.Native.Nat.{ℕ, ◌+◌, ◌*◌, ◌/◌, ◌%◌, ◌≤◌, ◌<◌}
use mathlib.Core.Path.{◌≡◌, refl, sym, ap, ◌∙◌}
use mathlib.Core.Bool.{Bool, true, false, not, false≢true}
use mathlib.Core.List.{List, [], ◌∷◌}
use native.Mathlib.Omega.{arith}
use lib.Dec.{eqb}
use lib.ListN.{length, get_or, set}
use lib.Seq.{sets}
use Rattle.wire.specs.Bits.{pushed}
use Rattle.wire.specs.Clock.{kept}
use Rattle.wire.specs.Machine.{clocked}
use Rattle.wire.specs.Memory.{is_protected, put_byte, refused_byte}
use Rattle.wire.specs.Slave.{slave_names, answers, opened}
use Rattle.wire.specs.declared.Named.{Named}
use Rattle.wire.specs.declared.Named.TheVariants.{Nobody, Reads, Writes}
use Rattle.wire.specs.declared.Side.TheVariants.{Memory, Companion}
use Rattle.wire.specs.declared.Phase.{Phase}
use Rattle.wire.specs.declared.Phase.TheVariants.{Idle, Slave, AddressHigh, AddressLow, Pointer, Write, Read}
use Rattle.wire.proofs.Clock.{received_inside, received_last, received_ack}
use Rattle.fm3130_companion.specs.Part.{guard_of}
use Rattle.fm3130.specs.Code.Bus.{clocked_with}
use Rattle.fm3130.proofs.Cases.{with_phase}
use Rattle.fm3130.specs.Chip.{memory_size, Done}
use Rattle.fm3130.specs.declared.State.{State}
use Rattle.bus_image.specs.Layout.{transfer_of}
use Rattle.bus_image.proofs.Back.{address_of_bytes}
use Rattle.fm3130_image.specs.Image.{image_size, image_of, candidate}
use Rattle.fm3130_image.proofs.Accepts.{image_written, image_long}
use Rattle.fm3130_image.proofs.Lies.{image_places}
use Rattle.place_clock.specs.Code.Incoming.{Whole, whole_by, Wholly, opened_by, followed_by, first_by}
use Rattle.place_clock.specs.Code.Clocking.{Accepted, Left}

-- a slave byte is acknowledged where it opens a phase, and the phase begins
answers_number : (n : Named) → answers n ≡ not (eqb (transfer_of (opened n)).phase 0)
unfolding answers opened
answers_number Nobody = refl
answers_number (Reads Memory) = refl
answers_number (Reads Companion) = refl
answers_number (Writes Memory) = refl
answers_number (Writes Companion) = refl

pub answers_by : (b : ℕ) → answers (slave_names b) ≡ not (eqb (opened_by b) 0)
unfolding opened_by
answers_by b = answers_number (slave_names b)

opened_over : (s : State) (p : Phase) (n : Named)
    → sets (image_of (with_phase s p)) 26 ((transfer_of (opened n)).phase ∷ 0 ∷ 0 ∷ 0 ∷ []) ≡ image_of (with_phase s (opened n))
unfolding image_of opened
opened_over s p Nobody = refl
opened_over s p (Reads Memory) = refl
opened_over s p (Reads Companion) = refl
opened_over s p (Writes Memory) = refl
opened_over s p (Writes Companion) = refl

pub opened_none : (b : ℕ) → slave_names b ≡ Nobody → 0 ≡ opened_by b
unfolding opened_by opened
opened_none b e = sym (ap (λ n. (transfer_of (opened n)).phase) e)

-- an outcome is what it leaves
left_so : {d : Done} → Left d d.line (image_of d.state) d.memory
left_so = record { line = refl; image = refl; memory = refl }

-- a phase of a byte that comes in
abbrev Coming : Phase → Type 0
Coming p = (0 < (transfer_of p).phase) × ((transfer_of p).phase < 7)

module _ (s : State) (m : List ℕ) (high : Bool) where
  abbrev after : Phase → Done
  after p = clocked_with (with_phase s p) m p high

  abbrev whole : Phase → Whole
  whole p = whole_by (transfer_of p).phase (with_phase s p) m (pushed (transfer_of p).byte high)

  inside : (p : Phase) → Coming p → (transfer_of p).clocks < 7
      → Left (after p) high
      (set (set (image_of (with_phase s p)) 27 ((transfer_of p).clocks + 1)) 28 (pushed (transfer_of p).byte high)) m
  unfolding clocked image_of
  inside Idle g h = let z = g.0 in absurd (omega arith)
  inside (Slave k b) g h = rw (received_inside _ _ k b high h) left_so
  inside (AddressHigh k b) g h = rw (received_inside _ _ k b high h) left_so
  inside (AddressLow f k b) g h = rw (received_inside _ _ k b high h) left_so
  inside (Pointer k b) g h = rw (received_inside _ _ k b high h) left_so
  inside (Write Memory k b) g h = rw (received_inside _ _ k b high h) left_so
  inside (Write Companion k b) g h = rw (received_inside _ _ k b high h) left_so
  inside (Read Memory k b) g h = let z = g.1 in absurd (omega arith)
  inside (Read Companion k b) g h = let z = g.1 in absurd (omega arith)

  -- the eighth clock of a byte that is taken, and of one that is refused
  taken : (p : Phase) → Coming p → (transfer_of p).clocks ≡ 7 → (whole p).good ≡ true
      → Left (after p) high (set (set (image_of (whole p).state) 27 8) 28 (pushed (transfer_of p).byte high)) (whole p).memory
  unfolding clocked image_of whole_by kept
  taken Idle g h t = let z = g.0 in absurd (omega arith)
  taken (Slave k b) g h t = rw (received_last _ _ k b high h, t) left_so
  taken (AddressHigh k b) g h t = rw (received_last _ _ k b high h) left_so
  taken (AddressLow f k b) g h t = rw (received_last _ _ k b high h) left_so
  taken (Pointer k b) g h t = rw (received_last _ _ k b high h, t) left_so
  taken (Write Memory k b) g h t = rw (received_last _ _ k b high h, t) left_so
  taken (Write Companion k b) g h t = rw (received_last _ _ k b high h, t) left_so
  taken (Read Memory k b) g h t = let z = g.1 in absurd (omega arith)
  taken (Read Companion k b) g h t = let z = g.1 in absurd (omega arith)

  refused : (p : Phase) → Coming p → (transfer_of p).clocks ≡ 7 → (whole p).good ≡ false
      → Left (after p) high (sets (image_of (whole p).state) 26 (0 ∷ 0 ∷ 0 ∷ 0 ∷ [])) (whole p).memory
  unfolding clocked image_of whole_by kept
  refused Idle g h t = let z = g.0 in absurd (omega arith)
  refused (Slave k b) g h t = rw (received_last _ _ k b high h, t) left_so
  refused (AddressHigh k b) g h t = absurd (false≢true (sym t))
  refused (AddressLow f k b) g h t = absurd (false≢true (sym t))
  refused (Pointer k b) g h t = rw (received_last _ _ k b high h, t) left_so
  refused (Write Memory k b) g h t = rw (received_last _ _ k b high h, t) left_so
  refused (Write Companion k b) g h t = rw (received_last _ _ k b high h, t) left_so
  refused (Read Memory k b) g h t = let z = g.1 in absurd (omega arith)
  refused (Read Companion k b) g h t = let z = g.1 in absurd (omega arith)

  acknowledged : (p : Phase) → Coming p → 7 ≤ (transfer_of p).clocks → ((transfer_of p).clocks ≡ 7 → ⊥)
      → Left (after p) false
      (sets (image_of (with_phase s p)) 26
      (followed_by (transfer_of p).phase (transfer_of p).byte ∷ 0 ∷ 0 ∷ first_by (transfer_of p).phase (transfer_of p).byte ∷ []))
      m
  unfolding clocked image_of followed_by first_by opened_by
  acknowledged Idle g h n = let z = g.0 in absurd (omega arith)
  acknowledged (Slave k b) g h n =
      rw (received_ack _ _ k b high h n)
      (record { line = refl; image = opened_over s (Slave k b) (slave_names b); memory = refl })
  acknowledged (AddressHigh k b) g h n = rw (received_ack _ _ k b high h n) left_so
  acknowledged (AddressLow f k b) g h n = rw (received_ack _ _ k b high h n) left_so
  acknowledged (Pointer k b) g h n = rw (received_ack _ _ k b high h n) left_so
  acknowledged (Write Memory k b) g h n = rw (received_ack _ _ k b high h n) left_so
  acknowledged (Write Companion k b) g h n = rw (received_ack _ _ k b high h n) left_so
  acknowledged (Read Memory k b) g h n = let z = g.1 in absurd (omega arith)
  acknowledged (Read Companion k b) g h n = let z = g.1 in absurd (omega arith)

-- the same of an image in which a state lies, as the code finds and leaves it
module _ (s : State) (i m : List ℕ) (high : Bool) (e : i ≡ image_of s) (n : ℕ) (en : n ≡ get_or i 26 0) (l : 0 < n) (u : n < 7)
  where
    number_lies : n ≡ (transfer_of s.phase).phase
    unfolding image_of
    number_lies = rw e at en

    coming : Coming s.phase
    coming = (rw number_lies at l, rw number_lies at u)

    clocks_lie : get_or i 27 0 ≡ (transfer_of s.phase).clocks
    unfolding image_of
    clocks_lie = rw e

    byte_lies : get_or i 28 0 ≡ (transfer_of s.phase).byte
    unfolding image_of
    byte_lies = rw e

    pub inside_left : (b : ℕ) → b ≡ pushed (get_or i 28 0) high → get_or i 27 0 < 7
        → Left (clocked_with s m s.phase high) high (set (set i 27 (get_or i 27 0 + 1)) 28 b) m
    inside_left b eb h = rw (eb, clocks_lie, byte_lies, e)
        (inside s m high s.phase coming (rw clocks_lie at h))

    pub acknowledged_left : (f g : ℕ) (i' : List ℕ) → f ≡ followed_by n (get_or i 28 0) → g ≡ first_by n (get_or i 28 0)
        → i' ≡ sets i 26 (f ∷ 0 ∷ 0 ∷ g ∷ []) → 7 ≤ get_or i 27 0 → (get_or i 27 0 ≡ 7 → ⊥)
        → Left (clocked_with s m s.phase high) false i' m
    acknowledged_left f g i' ef eg ei h d = rw (ei, ef, eg, number_lies, byte_lies, e)
        (acknowledged s m high s.phase coming (rw clocks_lie at h) (rw clocks_lie at d))

    -- with what taking the byte left
    module _ (b : ℕ) (r : Bool) (i' m' : List ℕ) (eb : b ≡ pushed (get_or i 28 0) high) (h : get_or i 27 0 ≡ 7)
        (w : Wholly (whole_by n s m b) r i' m')
      where
        whole_lies : b ≡ pushed (transfer_of s.phase).byte high
        whole_lies = rw byte_lies at eb

        pub taken_left : r ≡ true → Left (clocked_with s m s.phase high) high (set (set i' 27 8) 28 b) m'
        taken_left t =
            rw (w.image, w.memory, number_lies, whole_lies)
            (taken s m high s.phase coming (sym clocks_lie ∙ h)
            (rw (number_lies, whole_lies) at (sym w.acknowledged ∙ t)))

        pub refused_left : (i'' : List ℕ) → i'' ≡ sets i' 26 (0 ∷ 0 ∷ 0 ∷ 0 ∷ []) → r ≡ false
            → Left (clocked_with s m s.phase high) high i'' m'
        refused_left i'' q t =
            rw (q, w.image, w.memory, number_lies, whole_lies)
            (refused s m high s.phase coming (sym clocks_lie ∙ h)
            (rw (number_lies, whole_lies) at (sym w.acknowledged ∙ t)))

-- what an accepted image is to the code
module _ {i m : List ℕ} (a : Accepted i m) where
  pub accepted_long : length i ≡ image_size
  accepted_long = image_long i a.image

  pub accepted_places : (get_or i 22 0 ≤ 14) × (get_or i 23 0 * 256 + get_or i 24 0 < memory_size)
  accepted_places = image_places i m a.memory a.image

  pub accepted_lies : i ≡ image_of (candidate i)
  accepted_lies = sym (image_written i a.image)

-- what a whole byte does, where it lies
wholly_so : {w : Whole} → Wholly w w.good (image_of w.state) w.memory
wholly_so = record { acknowledged = refl; image = refl; memory = refl }

module _ (s : State) (i m : List ℕ) (b : ℕ) (e : i ≡ image_of s) where
  address_lies : get_or i 23 0 * 256 + get_or i 24 0 ≡ s.address
  unfolding image_of
  address_lies = rw e (address_of_bytes s.address)

  pub slave_whole : (r : Bool) → r ≡ not (eqb (opened_by b) 0) → Wholly (whole_by 1 s m b) r i m
  unfolding whole_by
  slave_whole r q = record { acknowledged = q ∙ sym (answers_by b); image = e; memory = refl }

  pub low_whole : (a : ℕ) (i' : List ℕ) → a ≡ get_or i 29 0 * 256 + b
      → i' ≡ sets i 23 (a % memory_size / 256 ∷ a % memory_size % 256 ∷ [])
      → Wholly (whole_by 3 s m b) true i' m
  unfolding whole_by image_of
  low_whole a i' p q = rw (q, p, e) wholly_so

  module _ (a : ℕ) (t : Bool) (i' : List ℕ) (p : a ≡ get_or i 23 0 * 256 + get_or i 24 0)
      (g : t ≡ is_protected memory_size (get_or i 14 0 / 8 % 4) a)
      (q : i' ≡ sets i 23 ((a + 1) % memory_size / 256 ∷ (a + 1) % memory_size % 256 ∷ []))
    where
      protected_lies : t ≡ is_protected memory_size (guard_of s.companion) s.address
      unfolding image_of
      protected_lies = rw (p ∙ address_lies, e) at g

      pub refused_whole : t ≡ true → Wholly (whole_by 5 s m b) false i' m
      unfolding whole_by put_byte refused_byte image_of
      refused_whole h =
          rw (sym protected_lies ∙ h, q, p ∙ address_lies, e) wholly_so

      pub stored_whole : t ≡ false → Wholly (whole_by 5 s m b) true i' (set m a b)
      unfolding whole_by put_byte image_of
      stored_whole h =
          rw (sym protected_lies ∙ h, q, p ∙ address_lies, e) wholly_so
