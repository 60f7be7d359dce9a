-- SPDX-License-Identifier: Apache-2.0
-- A Clock in a byte that goes out, where the transfer lies: the number of an accepted image names the phase, and at
-- each place of the byte's nine clocks the stores that the code makes write the state that the machine's Clock leaves.
use Prim.Native.Nat.{ℕ, ◌+◌, ◌≤◌, ◌<◌}
use mathlib.Core.Path.{◌≡◌, sym}
use mathlib.Core.Bool.{Bool, true, false, ◌&&◌}
use mathlib.Core.List.{List}
use native.Mathlib.Omega.{arith}
use lib.Dec.{leb}
use lib.ListN.{get_or, set}
use borrow.Author.Tests.{leb-true}
use Rattle.wire.specs.Bits.{place_at, sent_bit}
use Rattle.wire.specs.Clock.{sent_at, more}
use Rattle.wire.specs.Limits.{phase_within}
use Rattle.wire.specs.Machine.{clocked}
use Rattle.wire.specs.declared.Side.{Side}
use Rattle.wire.specs.declared.Side.TheVariants.{Memory, Companion}
use Rattle.wire.specs.declared.Phase.TheVariants.{Idle, Read}
use Rattle.wire.proofs.Clock.{sent_within}
use Rattle.wire.proofs.Tests.{and_split}
use Rattle.fm3130.specs.Code.Bus.{clocked_with}
use Rattle.fm3130.specs.declared.State.{State}
use Rattle.fm3130.proofs.Entry.{limits_of}
use Rattle.bus_image.specs.Layout.{phase_of}
use Rattle.bus_image.specs.Code.Layout.{side_of}
use Rattle.bus_image.proofs.Numbers.{number_below, read_phase}
use Rattle.fm3130_image.specs.Image.{image_of, candidate}
use Rattle.fm3130_image.proofs.Accepts.{image_well, image_written}
use Rattle.place_clock.specs.Code.Outgoing.{fetched_from, finished_by, closed_by}
use Rattle.place_clock.specs.Code.Clocking.{Accepted, Left, clock_on}

image_below : (s : State) → get_or (image_of s) 26 0 ≤ 8
unfolding image_of
image_below s = number_below s.phase

-- the places of a byte
module _ (s : State) (m i : List ℕ) (k b : ℕ) (e : i ≡ image_of s) where
  first_left : (d : Bool) (x : Side) → s.phase ≡ Read x k b → k ≡ 0
      → Left (clocked_with s m s.phase d) (d && sent_bit 0 (fetched_from x s m))
      (set (set i 27 1) 28 (fetched_from x s m)) m
  unfolding image_of clocked sent_at place_at
  first_left d Memory p z = record { line = rw (p, z); image = rw (e, p, z); memory = rw (p, z) }
  first_left d Companion p z = record { line = rw (p, z); image = rw (e, p, z); memory = rw p }

  within_left : (d : Bool) (x : Side) → s.phase ≡ Read x k b → (k ≡ 0 → ⊥) → k < 7
      → Left (clocked_with s m s.phase d) (d && sent_bit k b) (set i 27 (k + 1)) m
  unfolding image_of clocked
  within_left d Memory p z l =
      record {
        line = rw (p, sent_within _ _ _ _ _ z l);
        image = rw (e, p, sent_within _ _ _ _ _ z l);
        memory = rw (p, sent_within _ _ _ _ _ z l);
      }
  within_left d Companion p z l =
      record {
        line = rw (p, sent_within _ _ _ _ _ z l);
        image = rw (e, p, sent_within _ _ _ _ _ z l);
        memory = rw p;
      }

  last_left : (d : Bool) (x : Side) (i' : List ℕ) → s.phase ≡ Read x k b → k ≡ 7
      → i' ≡ image_of (finished_by x b s)
      → Left (clocked_with s m s.phase d) (d && sent_bit 7 b) (set i' 27 8) m
  unfolding image_of clocked sent_at place_at
  last_left d Memory i' p z f = record { line = rw (p, z); image = rw (f, p, z); memory = rw (p, z) }
  last_left d Companion i' p z f = record { line = rw (p, z); image = rw (f, p, z); memory = rw p }

  ack_left : (d : Bool) (x : Side) → s.phase ≡ Read x k b → k ≡ 8
      → Left (clocked_with s m s.phase d) d (closed_by d i) m
  unfolding image_of clocked sent_at place_at more
  ack_left true Memory p z = record { line = rw (p, z); image = rw (e, p, z); memory = rw (p, z) }
  ack_left true Companion p z = record { line = rw (p, z); image = rw (e, p, z); memory = rw p }
  ack_left false Memory p z = record { line = rw (p, z); image = rw (e, p, z); memory = rw (p, z) }
  ack_left false Companion p z = record { line = rw (p, z); image = rw (e, p, z); memory = rw p }

  idle_left : (d : Bool) → s.phase ≡ Idle → Left (clocked_with s m s.phase d) d i m
  unfolding image_of clocked
  idle_left d p = record { line = rw p; image = rw (e, p); memory = rw p }

-- the same of an accepted image
module _ {i m : List ℕ} (a : Accepted i m) where
  written : i ≡ image_of (candidate i)
  written = sym (image_written i a.image)

  phase_idle : get_or i 26 0 ≡ 0 → (candidate i).phase ≡ Idle
  unfolding candidate phase_of
  phase_idle z = rw z

  pub at_idle : (d : Bool) → get_or i 26 0 ≡ 0 → Left (clock_on i m d) d i m
  at_idle d z = idle_left (candidate i) m i 0 0 written d (phase_idle z)

  module _ {n : ℕ} (h : (n ≡ get_or i 26 0) × (6 < n)) where
    phase_read : (candidate i).phase ≡ Read (side_of n) (get_or i 27 0) (get_or i 28 0)
    unfolding candidate
    phase_read =
        let l : get_or i 26 0 ≤ 8 = rw (image_written i a.image) at (image_below (candidate i)) in
        rw (← h.0) (read_phase n (get_or i 27 0) (get_or i 28 0) (get_or i 29 0) h.1 (omega (arith, h.0)))

    pub clocks_below : get_or i 27 0 ≤ 8
    unfolding phase_within
    clocks_below =
        let f = rw phase_read at (limits_of (candidate i) (image_well i a.image)).phase in
        leb-true (get_or i 27 0) 8 (and_split (leb (get_or i 27 0) 8) _ f).0

    module _ (d : Bool) where
      pub at_first : get_or i 27 0 ≡ 0
          → Left (clock_on i m d) (d && sent_bit 0 (fetched_from (side_of n) (candidate i) m))
          (set (set i 27 1) 28 (fetched_from (side_of n) (candidate i) m)) m
      at_first z = first_left (candidate i) m i _ _ written d (side_of n) phase_read z

      pub at_within : (get_or i 27 0 ≡ 0 → ⊥) → get_or i 27 0 < 7
          → Left (clock_on i m d) (d && sent_bit (get_or i 27 0) (get_or i 28 0)) (set i 27 (get_or i 27 0 + 1)) m
      at_within z l = within_left (candidate i) m i _ _ written d (side_of n) phase_read z l

      pub at_last_lem : (i' : List ℕ) → get_or i 27 0 ≡ 7 → i' ≡ image_of (finished_by (side_of n) (get_or i 28 0) (candidate i))
          → Left (clock_on i m d) (d && sent_bit 7 (get_or i 28 0)) (set i' 27 8) m
      at_last_lem i' z f = last_left (candidate i) m i _ _ written d (side_of n) i' phase_read z f

      pub at_ack : get_or i 27 0 ≡ 8 → Left (clock_on i m d) d (closed_by d i) m
      at_ack z = ack_left (candidate i) m i _ _ written d (side_of n) phase_read z
