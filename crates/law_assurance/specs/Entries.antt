-- SPDX-License-Identifier: Apache-2.0
-- A session's acts are the two entries: an ask is `ask_of`, and a call is `call_of` on the state's image with room for its
-- answers, each on the byte that says who holds the bus.
--   AskAs, CallAs, AsTheEntries   the statements
use Rattle.std.specs.Prelude.{ℕ, ◌≤◌, ◌≡◌, true, cond, List, [], ◌∷◌, ◌++◌, length, drop}
use Rattle.fm3130.specs.Chip.{memory_size}
use Rattle.fm3130.specs.Limits.{well_formed}
use Rattle.numbers.specs.Numbers.{accepted, not_held}
use Rattle.fm3130_image.specs.Image.{image_of}
use Rattle.masters_hold.specs.Bus.{may_ask, master_number, holder_number}
use Rattle.c_masters.specs.Outcome.{ask_of, call_of}
use Rattle.masters_hold.specs.declared.Master.{Master}
use Rattle.law_assurance.specs.Session.{World, asks, calls, call_number, after_act, answered_in, answers_in}

-- Auxiliary: the byte that says who holds the bus.
abbrev pub bus_byte : World → List ℕ
bus_byte w = holder_number w.holder ∷ []

pub record AskAs (w : World) (x : Master) : Type 0 where
  pub number : (ask_of (bus_byte w) (master_number x)).number ≡ cond (may_ask w.holder x) accepted not_held
  pub bus : (ask_of (bus_byte w) (master_number x)).bus ≡ bus_byte (after_act w (asks x))

pub record CallAs (w : World) (x : Master) (es a : List ℕ) : Type 0 where
  pub number : (call_of (bus_byte w) (master_number x) (image_of w.state) w.memory es a).run.number ≡ call_number w.holder x es
  pub bus : (call_of (bus_byte w) (master_number x) (image_of w.state) w.memory es a).bus ≡ bus_byte (after_act w (calls x es))
  pub image :
      (call_of (bus_byte w) (master_number x) (image_of w.state) w.memory es a).run.image
      ≡ image_of (after_act w (calls x es)).state
  pub memory :
      (call_of (bus_byte w) (master_number x) (image_of w.state) w.memory es a).run.memory
      ≡ (after_act w (calls x es)).memory
  pub count :
      (call_of (bus_byte w) (master_number x) (image_of w.state) w.memory es a).run.count ≡ length (answered_in w (calls x es))
  pub answers :
      (call_of (bus_byte w) (master_number x) (image_of w.state) w.memory es a).run.answers
      ≡ answers_in w (calls x es) ++ drop (length (answered_in w (calls x es))) a

pub record AsTheEntries : Type 0 where
  pub ask : (w : World) (x : Master) → AskAs w x
  pub call : (w : World) (x : Master) (es a : List ℕ) → well_formed w.state ≡ true → length w.memory ≡ memory_size
      → length es ≤ length a → CallAs w x es a
