-- SPDX-License-Identifier: Apache-2.0
-- The clock set. W goes up whatever was there; ticks then leave 02h to 08h and W; seven bytes are stored one after another; when
-- W falls over them the core takes them, and 02h to 08h show the core or stay.
use Prim.Native.Nat.{ℕ, ◌%◌, ◌≤◌, ◌<◌}
use mathlib.Core.Path.{◌≡◌, refl, sym, ap, subst, ◌∙◌}
use mathlib.Core.Bool.{true, false, false≢true}
use mathlib.Core.List.{List}
use native.Mathlib.Omega.{arith}
use lib.Dec.{lit≤}
use Rattle.bits.specs.Weight.{has}
use Rattle.wire.specs.Whole.{nine_bits}
use Rattle.wire.specs.declared.Side.TheVariants.{Companion}
use Rattle.wire.specs.declared.Phase.{Phase}
use Rattle.wire.specs.declared.Phase.TheVariants.{Idle, Write}
use Rattle.calendar.specs.Next.{is_valid}
use Rattle.calendar.specs.declared.Calendar.{Calendar}
use Rattle.calendar.proofs.Tests.{true_test}
use Rattle.calendar.proofs.Valid.{valid_facts}
use Rattle.calendar.proofs.Width.{Within, within_facts, valid_within}
use Rattle.fm3130_companion.specs.Change.{with_address}
use Rattle.fm3130_companion.specs.Write.{control_written, byte_stored}
use Rattle.fm3130_companion.specs.Part.{stepped_of}
use Rattle.fm3130.specs.declared.State.{State}
use Rattle.wire_clocks.specs.Clocks.{nine_clocks}
use Rattle.law_transfers.proofs.Runs.{Leads, leads_then, start_leads}
use Rattle.law_transfers.proofs.Written.{on_bus}
use Rattle.law_registers.specs.Setting.{write_registers, calendar_bytes, setting_events, SetTo, ClockSet}
use Rattle.law_registers.proofs.Clocking.{Desk, on_bus_lem}
use Rattle.law_registers.proofs.Ticks.{ticked}
use Rattle.law_registers.proofs.Storing.{slave_write, pointer_byte_lem, stop_leads}
use Rattle.law_registers.proofs.Going.{Goes, of_leads, goes_then, taken, control_goes, ticks_go, control_low, time_writes, ticks_leave, w_stays, control_stored, core_loaded_lem, time_shown}

-- the companion once 02h to 08h were written one after another
abbrev timed : Desk → Calendar → Desk
timed c t =
    let c₂ = with_address c 2 in
    let c₃ = stepped_of (byte_stored c₂ t.seconds) in
    let c₄ = stepped_of (byte_stored c₃ t.minutes) in
    let c₅ = stepped_of (byte_stored c₄ t.hours) in
    let c₆ = stepped_of (byte_stored c₅ t.day) in
    let c₇ = stepped_of (byte_stored c₆ t.date) in
    let c₈ = stepped_of (byte_stored c₇ t.month) in
    stepped_of (byte_stored c₈ t.year)

module _ (a : ℕ) (m : List ℕ) where
  time_byte : (c : Desk) (b : ℕ) → b < 256 → 2 ≤ c.address → c.address ≤ 8 → has c.registers.control 0x02 ≡ true
      → Leads (on_bus (Write Companion 0 0) a c) m (nine_clocks b true)
      (on_bus (Write Companion 0 0) a (stepped_of (byte_stored c b))) m (nine_bits b false)
  time_byte c b l t g w = taken a m c (stepped_of (byte_stored c b)) b l (time_writes c b t g w)

  time_goes : (p : Phase) (c : Desk) (t : Calendar) → Within t → t.year < 256 → has c.registers.control 0x02 ≡ true
      → Goes (on_bus p a c) m (write_registers 2 (calendar_bytes t)) (on_bus Idle a (timed c t))
  time_goes p c t b y w =
      let c₂ = with_address c 2 in
      let c₃ = stepped_of (byte_stored c₂ t.seconds) in
      let c₄ = stepped_of (byte_stored c₃ t.minutes) in
      let c₅ = stepped_of (byte_stored c₄ t.hours) in
      let c₆ = stepped_of (byte_stored c₅ t.day) in
      let c₇ = stepped_of (byte_stored c₆ t.date) in
      let c₈ = stepped_of (byte_stored c₇ t.month) in
      let seconds = b.seconds in
      let minutes = b.minutes in
      let hours = b.hours in
      let day = b.day in
      let date = b.date in
      let month = b.month in
      of_leads
      (leads_then (start_leads (on_bus p a c) m refl)
      (leads_then (slave_write a m c)
      (leads_then (pointer_byte_lem a m c 2 (lit≤ tt))
      (leads_then (time_byte c₂ t.seconds (omega arith) (lit≤ tt) (lit≤ tt) w)
      (leads_then (time_byte c₃ t.minutes (omega arith) (lit≤ tt) (lit≤ tt) w)
      (leads_then (time_byte c₄ t.hours (omega arith) (lit≤ tt) (lit≤ tt) w)
      (leads_then (time_byte c₅ t.day (omega arith) (lit≤ tt) (lit≤ tt) w)
      (leads_then (time_byte c₆ t.date (omega arith) (lit≤ tt) (lit≤ tt) w)
      (leads_then (time_byte c₇ t.month (omega arith) (lit≤ tt) (lit≤ tt) w)
      (leads_then (time_byte c₈ t.year y (lit≤ tt) (lit≤ tt) w)
      (stop_leads a m (timed c t) (Write Companion 0 0))))))))))))

-- a calendar within the widths is stored as it is
stored_whole : (c : Desk) (t : Calendar) → Within t → (timed c t).registers.time ≡ t
stored_whole c t b =
    let seconds = b.seconds in
    let minutes = b.minutes in
    let hours = b.hours in
    let day = b.day in
    let date = b.date in
    let month = b.month in
    let e₂ : t.seconds % 128 ≡ t.seconds = omega arith in
    let e₃ : t.minutes % 128 ≡ t.minutes = omega arith in
    let e₄ : t.hours % 64 ≡ t.hours = omega arith in
    let e₅ : t.day % 8 ≡ t.day = omega arith in
    let e₆ : t.date % 64 ≡ t.date = omega arith in
    let e₇ : t.month % 32 ≡ t.month = omega arith in
    λ i. record {
      seconds = e₂ i;
      minutes = e₃ i;
      hours = e₄ i;
      day = e₅ i;
      date = e₆ i;
      month = e₇ i;
      year = t.year;
    }

pub clock_set : ClockSet
clock_set s m up down n k t on u d w f v =
    let within = within_facts t (valid_within t (true_test (is_valid t) v)) in
    let year = (valid_facts t (true_test (is_valid t) v)).year.most in
    let c₁ = stepped_of (control_written (with_address s.companion 0) up) in
    let w₁ : has c₁.registers.control 0x02 ≡ true = control_low s.companion.registers.control up ∙ w in
    let c₂ = ticked n c₁ in
    let w₂ = w_stays c₁ c₂ (ticks_leave n c₁ (rw w₁)) w₁ in
    let c₃ = timed c₂ t in
    let c₄ = ticked k c₃ in
    let l₄ = ticks_leave k c₃ (rw w₂) in
    let w₄ = w_stays c₃ c₄ l₄ w₂ in
    let e₄ : c₄.registers.time ≡ t = l₄.time ∙ stored_whole c₂ t within in
    let a = s.address in
    let go =
    goes_then (control_goes a m s.phase s.companion c₁ up u (control_stored s.companion up (λ o z. absurd (false≢true (sym z ∙ w)))))
    (goes_then (ticks_go a m Idle c₁ n)
    (goes_then (time_goes a m Idle c₂ t within (omega arith) w₂)
    (goes_then (ticks_go a m Idle c₃ k)
    (control_goes a m Idle c₄ _ down d (control_stored c₄ down (λ o z. rw e₄ v)))))) in
    let q : SetTo (on_bus s.phase a s.companion) m (setting_events up n t k down) t =
    record {
      core = ap (λ (z : State). z.companion.core) go.state ∙ (core_loaded_lem c₄ down w₄ f ∙ e₄);
      shown = ap (λ (z : State). z.companion.registers.time) go.state ∙ (time_shown c₄ down w₄ f ∙ e₄);
    } in
    subst (λ (z : State). SetTo z m (setting_events up n t k down) t) (sym (on_bus_lem s on refl)) q
