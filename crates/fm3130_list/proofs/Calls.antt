-- SPDX-License-Identifier: Apache-2.0
-- Calls that hand image and memory on are one call with all their events: the laws of every part (crate `bus_list`).
use Prim.Native.Nat.{ℕ, ◌≤◌}
use mathlib.Core.Path.{◌≡◌}
use mathlib.Core.List.{List}
use lib.ListN.{length}
use Rattle.std.specs.Prelude.{Some}
use Rattle.bus_list.proofs.Calls as list
use Rattle.fm3130.specs.declared.State.{State}
use Rattle.fm3130_image.specs.Image.{decode_of}
use Rattle.fm3130_list.specs.Run.{Ended, run_of}
use Rattle.fm3130_list.specs.Calls.{Left, Leaves, OneCall, CallsAsOne, OneAsCalls}
use Rattle.fm3130_list.proofs.Runs.{list30, reads30, keeps30}
use Rattle.fm3130_list.proofs.Ends.{Accepted}

-- what a run leaves, as a call leaves it
abbrev pub left_by : Ended → Left
left_by r = list.left_by list30 r

-- what is left by calls: the buffers pass the tests, and a run says what it is
module _ (i m es : List ℕ) (l : Left) (h : Leaves i m es l) where
  pub leaves_accepted : (a : List ℕ) → length es ≤ length a → Accepted i m es a
  leaves_accepted = list.leaves_accepted list30 reads30 keeps30 i m es l h

  pub leaves_run : (s : State) → decode_of i ≡ Some s → l ≡ left_by (run_of s m es)
  unfolding run_of
  leaves_run = list.leaves_run list30 reads30 keeps30 i m es l h

  pub leaves_state : (s : State) → decode_of i ≡ Some s → (t : State) → decode_of l.image ≡ Some t
      → t ≡ (run_of s m es).state
  unfolding run_of
  leaves_state = list.leaves_state list30 reads30 keeps30 i m es l h

pub one_call : OneCall
one_call = list.one_call list30 reads30 keeps30

pub calls_as_one : CallsAsOne
calls_as_one = list.calls_as_one list30 reads30 keeps30

pub one_as_calls : OneAsCalls
one_as_calls = list.one_as_calls list30 reads30 keeps30
