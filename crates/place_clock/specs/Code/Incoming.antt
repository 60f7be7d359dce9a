-- SPDX-License-Identifier: Apache-2.0
-- A byte that comes in, by the number of its phase: what the whole byte does, and the phase that its acknowledge leads to.
-- Auxiliary to the contracts of the functions below `receive`; the laws say that it is what the machine does.
--   Whole, whole_by       what a whole byte leaves but for the phase, and whether it is acknowledged
--   Wholly               the same, of what a function returns and leaves
--   opened_by, followed_by the number of the phase that a slave byte opens; that any acknowledge leads to
--   first_by              the first address byte that is kept then
use Rattle.std.specs.Prelude.{ℕ, ◌≡◌, Bool, true, cond, List, eqb}
use Rattle.wire.specs.Clock as Clock
use Rattle.wire.specs.Kinds as Kinds
use Rattle.wire.specs.Memory.{Cells, lent, pointed, put_byte}
use Rattle.wire.specs.Slave.{slave_names, answers, opened}
use Rattle.fm3130_companion.specs.Part.{aim_of, store_of, guard_of}
use Rattle.fm3130_companion.specs.Part.{Taken}
use Rattle.fm3130.specs.Code.Bus.{with_companion}
use Rattle.fm3130.specs.Chip.{memory_size}
use Rattle.fm3130.specs.declared.State.{State}
use Rattle.bus_image.specs.Layout.{transfer_of}
use Rattle.fm3130_image.specs.Image.{image_of}

pub record Whole : Type 0 where
  pub state : State
  pub memory : List ℕ
  pub good : Bool

-- A byte that touches no device; one that serves the memory; one that serves the companion.
abbrev pub heard : State → List ℕ → Bool → Whole
heard s m g = record { state = s; memory = m; good = g }

abbrev pub moved : State → Clock.Taken Cells → Whole
moved s t =
    record {
      state = record { power = s.power; phase = s.phase; address = t.next.address; companion = s.companion };
      memory = t.next.bytes;
      good = t.good;
    }

abbrev pub changed : State → List ℕ → Taken → Whole
changed s m t = record { state = with_companion s t.companion; memory = m; good = t.acknowledged }

-- By the number of the phase, as in an image.
unfoldable pub whole_by : ℕ → State → List ℕ → ℕ → Whole
whole_by n s m b =
    cond (eqb n 1) (heard s m (answers (slave_names b)))
    (cond (eqb n 2) (heard s m true)
    (cond (eqb n 3) (moved s (Kinds.taken (pointed memory_size (lent m s.address) (transfer_of s.phase).first b)))
    (cond (eqb n 4) (changed s m (aim_of s.companion b))
    (cond (eqb n 5) (moved s (put_byte memory_size (guard_of s.companion) (lent m s.address) b))
    (changed s m (store_of s.companion b))))))

pub record Wholly (w : Whole) (r : Bool) (i' m' : List ℕ) : Type 0 where
  pub acknowledged : r ≡ w.good
  pub image : i' ≡ image_of w.state
  pub memory : m' ≡ w.memory

unfoldable pub opened_by : ℕ → ℕ
opened_by b = (transfer_of (opened (slave_names b))).phase

unfoldable pub followed_by : ℕ → ℕ → ℕ
followed_by n b = cond (eqb n 1) (opened_by b) (cond (eqb n 2) 3 (cond (eqb n 3) 5 (cond (eqb n 4) 6 n)))

unfoldable pub first_by : ℕ → ℕ → ℕ
first_by n b = cond (eqb n 2) b 0
