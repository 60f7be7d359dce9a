-- SPDX-License-Identifier: Apache-2.0
-- The entries on the byte of a holder and the number of a master read the same holder and master again; then each way
-- through their tests is an act.
use Prim.Native.Nat.{ℕ, ◌≤◌}
use mathlib.Core.Path.{◌≡◌, refl, ap, ◌∙◌}
use mathlib.Core.Bool.{Bool, true, false, cond}
use mathlib.Core.List.{List, [], ◌∷◌}
use lib.ListN.{length}
use Rattle.std.specs.Prelude.{Some, None}
use Rattle.wire.proofs.Tests.{by_test}
use Rattle.fm3130.specs.Chip.{memory_size}
use Rattle.fm3130.specs.Limits.{well_formed}
use Rattle.fm3130_image.specs.Image.{image_of, decode_of}
use Rattle.fm3130_list.specs.Run.{Outcome, all_known}
use Rattle.fm3130_image.proofs.Images.{decode_image}
use Rattle.fm3130_list.proofs.Runs.{outcome_written}
use Rattle.masters_hold.specs.Bus.{Holder, may_ask, may_call, frees, master_number, holder_number, standing_of}
use Rattle.c_masters.specs.Outcome.{AskOutcome, CallOutcome}
use Rattle.masters_hold.specs.declared.Master.{Master}
use Rattle.masters_hold.specs.declared.Master.TheVariants.{Rig, Handheld}
use Rattle.c_masters.proofs.Ways.{ask_refused, ask_answered, call_unknown_event, call_not_held, call_ran}
use Rattle.law_assurance.specs.Session.{World, asks, after_act}
use Rattle.law_assurance.specs.Entries.{bus_byte, AskAs, CallAs, AsTheEntries}

-- a holder's byte and a master's number name them again
stands : (g : Holder) (x : Master) → standing_of (holder_number g ∷ []) (master_number x) ≡ Some (record { holder = g; master = x })
unfolding standing_of
stands None Rig = refl
stands None Handheld = refl
stands (Some Rig) Rig = refl
stands (Some Rig) Handheld = refl
stands (Some Handheld) Rig = refl
stands (Some Handheld) Handheld = refl

ask_as : (w : World) (x : Master) → AskAs w x
ask_as w x = go w.holder x refl
  where
    answers : (g : Holder) (x : Master) → w.holder ≡ g → may_ask g x ≡ true
        → master_number x ∷ [] ≡ bus_byte (after_act w (asks x)) → AskAs w x
    answers g x e may bus =
        let h : standing_of (bus_byte w) (master_number x) ≡ Some (record { holder = g; master = x }) = rw e (stands g x) in
        let o = ask_answered (bus_byte w) (master_number x) g x h may in
        record {
          number = ap (λ (z : AskOutcome). z.number) o ∙ rw (e, may) refl;
          bus = ap (λ (z : AskOutcome). z.bus) o ∙ bus;
        }

    refuses : (g : Holder) (x : Master) → w.holder ≡ g → may_ask g x ≡ false
        → bus_byte w ≡ bus_byte (after_act w (asks x)) → AskAs w x
    refuses g x e may bus =
        let h : standing_of (bus_byte w) (master_number x) ≡ Some (record { holder = g; master = x }) = rw e (stands g x) in
        let o = ask_refused (bus_byte w) (master_number x) g x h may in
        record {
          number = ap (λ (z : AskOutcome). z.number) o ∙ rw (e, may) refl;
          bus = ap (λ (z : AskOutcome). z.bus) o ∙ bus;
        }

    go : (g : Holder) (x : Master) → w.holder ≡ g → AskAs w x
    go None x e = answers None x e refl (rw e refl)
    go (Some Rig) Rig e = answers (Some Rig) Rig e refl (rw e refl)
    go (Some Rig) Handheld e = refuses (Some Rig) Handheld e refl (rw e refl)
    go (Some Handheld) Rig e = refuses (Some Handheld) Rig e refl (rw e refl)
    go (Some Handheld) Handheld e = answers (Some Handheld) Handheld e refl (rw e refl)

module _ (w : World) (x : Master) (es a : List ℕ) (ok : well_formed w.state ≡ true)
    (long : length w.memory ≡ memory_size) (room : length es ≤ length a) where
  abbrev i : List ℕ
  i = image_of w.state

  read : decode_of i ≡ Some w.state
  read = decode_image w.state ok

  unknown : all_known es ≡ false → CallAs w x es a
  unknown k =
      let o = call_unknown_event (bus_byte w) (master_number x) i w.memory es a long w.state read w.holder x
      (stands w.holder x) k in
      record {
        number = ap (λ (z : CallOutcome). z.run.number) o ∙ rw k refl;
        bus = ap (λ (z : CallOutcome). z.bus) o ∙ rw k refl;
        image = ap (λ (z : CallOutcome). z.run.image) o ∙ rw k refl;
        memory = ap (λ (z : CallOutcome). z.run.memory) o ∙ rw k refl;
        count = ap (λ (z : CallOutcome). z.run.count) o ∙ rw k refl;
        answers = ap (λ (z : CallOutcome). z.run.answers) o ∙ rw k refl;
      }

  not_held_lem : all_known es ≡ true → may_call w.holder x es ≡ false → CallAs w x es a
  not_held_lem k c =
      let o = call_not_held (bus_byte w) (master_number x) i w.memory es a long w.state read w.holder x
      (stands w.holder x) k c in
      record {
        number = ap (λ (z : CallOutcome). z.run.number) o ∙ rw (k, c) refl;
        bus = ap (λ (z : CallOutcome). z.bus) o ∙ rw (k, c) refl;
        image = ap (λ (z : CallOutcome). z.run.image) o ∙ rw (k, c) refl;
        memory = ap (λ (z : CallOutcome). z.run.memory) o ∙ rw (k, c) refl;
        count = ap (λ (z : CallOutcome). z.run.count) o ∙ rw (k, c) refl;
        answers = ap (λ (z : CallOutcome). z.run.answers) o ∙ rw (k, c) refl;
      }

  freed : (f : Bool) → cond f (0 ∷ []) (bus_byte w) ≡ holder_number (cond f None w.holder) ∷ []
  freed true = refl
  freed false = refl

  done : all_known es ≡ true → may_call w.holder x es ≡ true → CallAs w x es a
  done k c =
      let o = call_ran (bus_byte w) (master_number x) i w.memory es a long w.state read w.holder x
      (stands w.holder x) k c in
      let r = outcome_written i w.memory es a long w.state read k room in
      record {
        number = ap (λ (z : CallOutcome). z.run.number) o ∙ (ap (λ (z : Outcome). z.number) r ∙ rw (k, c) refl);
        bus = ap (λ (z : CallOutcome). z.bus) o ∙ rw (r, k, c) (freed (frees false es));
        image = ap (λ (z : CallOutcome). z.run.image) o ∙ (ap (λ (z : Outcome). z.image) r ∙ rw (k, c) refl);
        memory = ap (λ (z : CallOutcome). z.run.memory) o ∙ (ap (λ (z : Outcome). z.memory) r ∙ rw (k, c) refl);
        count = ap (λ (z : CallOutcome). z.run.count) o ∙ (ap (λ (z : Outcome). z.count) r ∙ rw (k, c) refl);
        answers = ap (λ (z : CallOutcome). z.run.answers) o ∙ (ap (λ (z : Outcome). z.answers) r ∙ rw (k, c) refl);
      }

  call_as : CallAs w x es a
  call_as =
      by_test (all_known es) (λ k. by_test (may_call w.holder x es) (λ c. done k c) (λ c. not_held_lem k c)) unknown

pub as_the_entries : AsTheEntries
as_the_entries = record { ask = ask_as; call = call_as }
