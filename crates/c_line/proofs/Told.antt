-- SPDX-License-Identifier: Apache-2.0
-- What the line's number tells: its three bits are those of the list run's answers.
use Prim.Native.Nat.{ℕ, ◌+◌, ◌-◌, ◌*◌, ◌%◌}
use mathlib.Core.Path.{◌≡◌}
use mathlib.Core.Bool.{cond}
use mathlib.Core.List.{List, [], ◌∷◌}
use native.Mathlib.Omega.{arith}
use lib.Dec.{eqb}
use lib.ListN.{length}
use borrow.Author.Tests.{eqb-true, eqb-false, eq-eqb, ne_eqb}
use Rattle.std.specs.Prelude.{Some, None}
use Rattle.wire.proofs.Tests.{by_test}
use Rattle.fm3130.specs.Event.{event_of}
use Rattle.fm3130.specs.declared.State.{State}
use Rattle.fm3130_image.proofs.Images.{settled_decode}
use Rattle.fm3130_list.specs.Run.{answer_to, run_of}
use Rattle.c_line.specs.Line.{pulls, pulls_of, told_by, line_of}
use Rattle.c_line.specs.Told.{pulled, EveryLineTold}

-- a weight where bit 0 of an answer is 0
weighed : (w x : ℕ) → cond (eqb (x % 2) 0) w 0 ≡ w * (1 - x % 2)
weighed w x =
    by_test (eqb (x % 2) 0)
    (λ t. let z : 1 - x % 2 ≡ 1 = let e = eqb-true (x % 2) 0 t in omega arith in rw (t, z) (omega arith))
    (λ t. let z : 1 - x % 2 ≡ 0 = let e = eqb-false (x % 2) 0 t in omega arith in rw (t, z) (omega arith))

module _ (s : State) (m : List ℕ) where
  -- what a Clock after an event is answered, the master leaving the line high
  abbrev after : ℕ → ℕ
  after e = answer_to (event_of (event_of s m e).state (event_of s m e).memory 3)

  told : told_by (pulls_of s m)
      ≡ 0x100 * pulled (run_of s m (3 ∷ [])).answers 0 + 0x200 * pulled (run_of s m (2 ∷ 3 ∷ [])).answers 1
      + 0x400 * pulled (run_of s m (3 ∷ 3 ∷ [])).answers 1
  unfolding pulls run_of
  told = λ k. weighed 0x100 (answer_to (event_of s m 3)) k + weighed 0x200 (after 2) k + weighed 0x400 (after 3) k

pub every_line_told : EveryLineTold
unfolding line_of
every_line_told i m =
    record {
      memory = λ h. rw (ne_eqb (length m) 8192 h);
      image = λ h n. rw (eq-eqb (length m) 8192 h, settled_decode i None n);
      told = λ h s w. rw (eq-eqb (length m) 8192 h, settled_decode i (Some s) w) (told s m);
    }
