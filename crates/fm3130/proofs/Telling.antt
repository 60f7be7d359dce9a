-- SPDX-License-Identifier: Apache-2.0
-- One event, put together from the companion's part and the bus's: the law `split` of `bus_deeds` at this companion; select
-- bits 00 name as 01's slave bytes do, and 01's eight event bytes say the same. What the companion was asked says the
-- field that the event says (`said`).
use Prim.Native.Nat.{ℕ, ◌≤◌}
use mathlib.Core.Path.{◌≡◌, refl, ap, ◌∙◌}
use mathlib.Core.Bool.{Bool}
use mathlib.Core.List.{List}
use native.Mathlib.Omega.{arith}
use Rattle.bits.proofs.Cases.{none, ◌then◌, below}
use Rattle.wire.specs.Bits.{Place, first, within, last, ack, place_at}
use Rattle.wire.specs.Machine.{Line, start, stop, clock}
use Rattle.wire.specs.declared.Side.TheVariants.{Memory, Companion}
use Rattle.wire.specs.declared.Phase.{Phase}
use Rattle.wire.specs.declared.Phase.TheVariants.{Idle, Slave, AddressHigh, AddressLow, Pointer, Write, Read}
use Rattle.calendar.specs.declared.Rolled.TheVariants.{Nothing}
use Rattle.std.specs.Prelude.{unwrap_or}
use Rattle.calendar.specs.declared.Rolled.{Rolled}
use Rattle.fm3130_companion.specs.Part.{guard_of, rolled_of}
use Rattle.fm3130_companion.specs.declared.Companion as desk
use Rattle.wire.specs.Slave.{slave_names}
use Rattle.bus.specs.Select.{lone, slave_names_for}
use Rattle.bus.specs.Happening as part
use Rattle.bus_deeds.specs.Serve.{at_last, at_ends, clock_deed, line_deed, deed_of, served_of, told_by, saying}
use Rattle.bus_deeds.specs.declared.serve.Served.{Served}
use Rattle.bus.specs.Code.Outcome.{left, went_on, went_of}
use Rattle.bus.specs.Code.Outcome as bus-outcome
use Rattle.bus.specs.declared.Bus.{Bus}
use Rattle.bus_deeds.specs.declared.Deed.{Deed}
use Rattle.bus.specs.declared.Power.{Power}
use Rattle.bus.specs.declared.Power.TheVariants.{On, Backup, Off}
use Rattle.bus.specs.declared.Went.{Went}
use Rattle.bus.proofs.Lone.{lone_is}
use Rattle.bus_deeds.proofs.Split.{split}
use Rattle.fm3130.specs.Chip.{memory_size, bus_of, state_with}
use Rattle.fm3130.specs.Event.{Happening, on_wire, beat, lost, gone, returned, happening, event_on, event_of, rolled_by, rolled_in}
use Rattle.fm3130.specs.Answer.{answer_byte}
use Rattle.fm3130.specs.Desk.{companion30}
use Rattle.fm3130.specs.Code.Serving.{said_by}
use Rattle.fm3130.specs.Step.{Ready, ToldWith}
use Rattle.fm3130.specs.declared.State.{State}

module _ (s : State) where
  said_last : (z : Place) (q : Deed) → said_by q s.companion ≡ Nothing → said_by (at_last z q) s.companion ≡ Nothing
  unfolding at_last
  said_last first q h = refl
  said_last within q h = refl
  said_last last q h = h
  said_last ack q h = refl

  said_ends : (z : Place) (b : ℕ) → said_by (at_ends z b) s.companion ≡ Nothing
  unfolding at_ends
  said_ends first b = refl
  said_ends within b = refl
  said_ends last b = refl
  said_ends ack b = refl

  -- a Clock says nothing
  said_clock : (p : Phase) (d : Bool) → said_by (clock_deed p d) s.companion ≡ Nothing
  unfolding clock_deed
  said_clock Idle d = refl
  said_clock (Slave k b) d = refl
  said_clock (AddressHigh k b) d = refl
  said_clock (AddressLow h k b) d = refl
  said_clock (Pointer k b) d = said_last (place_at k) _ refl
  said_clock (Write Memory k b) d = refl
  said_clock (Write Companion k b) d = said_last (place_at k) _ refl
  said_clock (Read Memory k b) d = refl
  said_clock (Read Companion k b) d = said_ends (place_at k) b

  said_line : (x : Line) → said_by (line_deed s.phase x) s.companion ≡ Nothing
  said_line start = refl
  said_line stop = refl
  said_line (clock d) = said_clock s.phase d

  said_on : (p : Power) (x : Happening) → s.power ≡ p
      → said_by (deed_of p s.phase x) s.companion ≡ rolled_by x s
  unfolding deed_of rolled_by
  said_on On (on_wire x) q = said_line x
  said_on On (beat t) q = rw q refl
  said_on On lost q = refl
  said_on On gone q = refl
  said_on On returned q = refl
  said_on Backup (on_wire x) q = refl
  said_on Backup (beat t) q = rw q refl
  said_on Backup lost q = refl
  said_on Backup gone q = refl
  said_on Backup returned q = refl
  said_on Off (on_wire x) q = refl
  said_on Off (beat t) q = rw q refl
  said_on Off lost q = refl
  said_on Off gone q = refl
  said_on Off returned q = refl

  said : (e : ℕ) → said_by (deed_of s.power s.phase (happening e)) s.companion ≡ rolled_in s e
  said e = said_on s.power (happening e) refl

-- of 01's eight event bytes the FM3130 hears what a part with counter inputs does
eight_alike : (e : ℕ) → e ≤ 7 → part.happening part.edges e ≡ happening e
unfolding happening
eight_alike e h =
    below (λ e. part.happening part.edges e ≡ happening e)
    (none then refl then refl then refl then refl then refl then refl then refl then refl) e (omega arith)

-- what the bus asks before it does an event
pub bus_ready : (s : State) (m : List ℕ) (u : Bus) → u ≡ bus_of s → Ready s m → bus-outcome.Ready memory_size u m
bus_ready s m u h r = rw h (record { memory = r.memory; address = r.address })

-- what the code below an event returns of a companion
abbrev served_by : Deed → desk.Companion → Served desk.Companion Rolled
served_by q c = saying (served_of companion30 q c) (told_by (λ t c. rolled_of c) q c)

pub told : (s : State) (m m' : List ℕ) (e g a : ℕ) (u : Bus) (q : Deed) (v : Served desk.Companion Rolled) (w : Went) (s' : State) → e ≤ 7
    → u ≡ bus_of s → g ≡ guard_of s.companion → q ≡ deed_of u.power u.phase (part.happening part.edges e)
    → v ≡ served_by q s.companion → left w m' ≡ went_of memory_size (slave_names_for lone) g v.reply u m e
    → s' ≡ state_with w.bus v.companion → a ≡ answer_byte s' w.line
    → ToldWith (record { state = s'; answer = a; rolled = unwrap_or v.told Nothing }) m' (event_of s m e) (rolled_in s e)
unfolding event_on
told s m m' e g a u q v w s' h hu hg hq hv hw hs ha =
    let c = s.companion in
    let k = eight_alike e h in
    let q₀ = deed_of s.power s.phase (happening e) in
    let q' : q ≡ q₀ = hq ∙ (λ i. deed_of (hu i).power (hu i).phase (k i)) in
    let v' : v ≡ served_by q₀ c = hv ∙ ap (λ (q : Deed). served_by q c) q' in
    let moved : went_of memory_size (slave_names_for lone) g v.reply u m e
    ≡ went_on memory_size slave_names (guard_of c) (served_by q₀ c).reply s.power (happening e) (bus_of s) m =
    λ i. went_on memory_size (lone_is i) (hg i) (v' i).reply (hu i).power (k i) (hu i) m in
    let w' = hw ∙ moved in
    let s'' = hs ∙ (λ i. state_with (w' i).went.bus (v' i).companion) in
    let a' = ha ∙ (λ i. answer_byte (s'' i) (w' i).went.line) in
    let r' = ap (λ (v : Served desk.Companion Rolled). unwrap_or v.told Nothing) v' ∙ said s e in
    rw (split memory_size slave_names companion30 (bus_of s) c m s.power (happening e))
    (record {
      result = λ i. record { state = s'' i; answer = a' i; rolled = r' i };
      memory = λ i. (w' i).memory;
    })
