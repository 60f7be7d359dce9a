-- SPDX-License-Identifier: Apache-2.0
-- Two devices that are clear of each other, of which one without main power is idle (`Calm`), are so after every list of
-- events, and then at most one pulls the line low.
use Prim.Native.Nat.{ℕ}
use mathlib.Core.Path.{◌≡◌, refl, ap, ◌∙◌}
use mathlib.Core.Bool.{true, false}
use mathlib.Core.List.{List}
use Rattle.wire.specs.Memory.{lent}
use Rattle.wire.specs.Machine.{Line, start, stop, clock, masters_line}
use Rattle.wire.specs.declared.Side.{Side}
use Rattle.fm31_counters.specs.declared.Counters.{Counters}
use Rattle.bus.specs.Select.{slave_names_for}
use Rattle.bus.specs.Desk.{part_of}
use Rattle.bus.specs.Happening.{Happening, on_wire, happening, edges}
use Rattle.bus.specs.Event.{event_on}
use Rattle.bus.specs.declared.Bus.{Bus}
use Rattle.bus.specs.declared.Power.{Power}
use Rattle.bus.specs.declared.Power.TheVariants.{On, Backup, Off}
use Rattle.law_merging.specs.Party.{to, foreign, MayName}
use Rattle.fm31.specs.Chip.{companion31}
use Rattle.law_wired.proofs.Pulls.{Clear, line_one}
use Rattle.set_event.specs.Set.{Held, at, size_in, select_in, done_in, after_events}
use Rattle.law_ensemble.specs.Transaction.{line_byte}
use Rattle.law_ensemble.specs.Stand.{bus_in}
use Rattle.law_ensemble.specs.Pulls.{OnePulls}
use Rattle.law_ensemble.proofs.Calm.{never_both, calm_run}
use Rattle.law_ensemble.proofs.Stand.{calm_of}

module _ (y z : ℕ) (a b : ℕ) (never : (x : Side) (n : ℕ) → MayName (to x) (slave_names_for a n) → MayName foreign
    (slave_names_for b n)) where
  one_line : (p q : Power) (x : Line) (u r : Bus) (c d : Counters) (m n : List ℕ) → Clear u.phase r.phase
      → ((event_on y (slave_names_for a) companion31 p (on_wire x) u c m).line ≡ masters_line x → ⊥)
      → (event_on z (slave_names_for b) companion31 q (on_wire x) r d n).line ≡ masters_line x
  unfolding event_on
  one_line On On x u r c d m n k h =
      line_one (part_of y (slave_names_for a) companion31) (part_of z (slave_names_for b) companion31) never u.phase r.phase (lent m u.address) c
      (lent n r.address) d x k h
  one_line On Backup x u r c d m n k h = refl
  one_line On Off x u r c d m n k h = refl
  one_line Backup q x u r c d m n k h = absurd (h refl)
  one_line Off q x u r c d m n k h = absurd (h refl)

line_is : (x : Line) → happening edges (line_byte x) ≡ on_wire x
unfolding happening
line_is start = refl
line_is stop = refl
line_is (clock false) = refl
line_is (clock true) = refl

line_of : (h : Held) (x : Line) → (done_in h (line_byte x)).line
    ≡ (event_on (size_in h) (slave_names_for (select_in h)) companion31 (bus_in h).power (on_wire x) (bus_in h) h.member.state.counters h.memory).line
line_of h x =
    ap (λ (z : Happening). (event_on (size_in h) (slave_names_for (select_in h)) companion31 (bus_in h).power z (bus_in h) h.member.state.counters h.memory).line) (line_is x)

pub one_pulls : OnePulls
one_pulls t es v w x s u a b d low =
    let h = at v (after_events t es) in
    let k = at w (after_events t es) in
    let z = calm_run t es v w a b (calm_of t u s v w a b d) in
    line_of k x
    ∙ one_line (size_in h) (size_in k) (select_in h) (select_in k) (never_both h k z.unlike) (bus_in h).power (bus_in k
    ).power x (bus_in h) (bus_in k) h.member.state.counters k.member.state.counters h.memory k.memory
    z.clear (λ e. low (line_of h x ∙ e))
