-- SPDX-License-Identifier: Apache-2.0
-- A list of events leads from a state and a memory to others, with these lines; such steps compose. Clocks on main power do
-- what the machine's Clocks do, so each kind of whole byte is the machine's law at this part. At any size and select bits.
use Prim.Native.Nat.{ℕ}
use mathlib.Core.Path.{◌≡◌, refl, ap, ◌∙◌}
use mathlib.Core.Bool.{Bool, true, false}
use mathlib.Core.List.{List, [], ◌∷◌, ◌++◌, map-append}
use Rattle.wire.specs.Memory.{lent}
use Rattle.wire.specs.Machine.{Parts, clock, line, clocked, lined, step}
use Rattle.wire.specs.Machine as Machine
use Rattle.wire.specs.Whole.{Clocked, clocks_on}
use Rattle.wire.specs.declared.Phase.{Phase}
use Rattle.wire.specs.declared.Phase.TheVariants.{Idle, Slave}
use Rattle.bus.specs.Select.{slave_names_for}
use Rattle.bus.specs.Desk.{part_of}
use Rattle.bus.specs.Happening.{happening}
use Rattle.bus.specs.Event.{done_of, event_on}
use Rattle.bus.specs.declared.Power.TheVariants.{On}
use Rattle.fm31_counters.specs.declared.Counters.{Counters}
use Rattle.fm31.specs.Chip.{companion31, Done, event_of}
use Rattle.fm31.specs.Step.{state_of, answer_byte}
use Rattle.fm31.specs.Run.{Ended, following, answer_to, run_of}
use Rattle.fm31.specs.declared.State.{State}
use Rattle.wire_clocks.specs.Clocks.{clock_event, clocks_of, is_high, lines_of}

-- on main power
abbrev pub on_bus : Phase → ℕ → Counters → State
on_bus p a c = record { bus = record { power = On; phase = p; address = a }; counters = c }

-- bit 0 of an answer is the line
pub line_shown : (d : Bool) → is_high (answer_byte d) ≡ d
line_shown true = refl
line_shown false = refl

module _ (size select : ℕ) where
  abbrev pub part : Parts
  part = part_of size (slave_names_for select) companion31

  pub record Leads (s : State) (m es : List ℕ) (s' : State) (m' : List ℕ) (ls : List Bool) : Type 0 where
    pub state : (run_of size select s m es).state ≡ s'
    pub memory : (run_of size select s m es).memory ≡ m'
    pub lines : lines_of (run_of size select s m es).answers ≡ ls

  run_append : (s : State) (m xs ys : List ℕ)
      → run_of size select s m (xs ++ ys)
      ≡ following (run_of size select s m xs).answers
      (run_of size select (run_of size select s m xs).state (run_of size select s m xs).memory ys)
  unfolding run_of
  run_append s m [] ys = refl
  run_append s m (e ∷ xs) ys =
      let d = event_of size select s m e in ap (following (answer_to d ∷ [])) (run_append (state_of d) d.memory xs ys)

  pub leads_then : {s s' s'' : State} {m m' m'' xs ys : List ℕ} {ls ks : List Bool}
      → Leads s m xs s' m' ls → Leads s' m' ys s'' m'' ks → Leads s m (xs ++ ys) s'' m'' (ls ++ ks)
  leads_then {s} {m = m} {xs = xs} {ys = ys} {ls = ls} p q =
      let e = run_append s m xs ys in
      let r = run_of size select s m xs in
      record {
        state = ap (λ (z : Ended). z.state) e ∙ rw (p.state, p.memory) q.state;
        memory = ap (λ (z : Ended). z.memory) e ∙ rw (p.state, p.memory) q.memory;
        lines =
            ap (λ (z : Ended). lines_of z.answers) e
            ∙ (map-append is_high r.answers (run_of size select r.state r.memory ys).answers
            ∙ rw (p.lines, p.state, p.memory) (ap (λ (z : List Bool). ls ++ z) q.lines));
      }

  -- a device on main power, of the machine's state
  abbrev live : Machine.State part → State
  live u = on_bus u.phase u.memory.address u.companion

  clock_done : (u : Machine.State part) (d : Bool)
      → event_of size select (live u) u.memory.bytes (clock_event d)
      ≡ done_of size (slave_names_for select) companion31 (step part u (line (clock d)))
  unfolding happening event_on
  clock_done u true = refl
  clock_done u false = refl

  -- Clocks on main power are the machine's
  clocks_lead : (u : Machine.State part) (ds : List Bool)
      → Leads (live u) u.memory.bytes (clocks_of ds) (live (clocks_on part u ds).state)
      (clocks_on part u ds).state.memory.bytes (clocks_on part u ds).lines
  unfolding run_of
  clocks_lead u [] = record { state = refl; memory = refl; lines = refl }
  clocks_lead u (d ∷ ds) =
      let o = step part u (line (clock d)) in
      let rest = clocks_lead o.state ds in
      let e = clock_done u d in
      let shown = ap (λ (z : Done size select). is_high (answer_to z)) e ∙ line_shown o.line in
      let tail =
      ap (λ (z : Done size select). lines_of (run_of size select (state_of z) z.memory (clocks_of ds)).answers) e
      ∙ rest.lines in
      record {
        state =
            ap (λ (z : Done size select). (run_of size select (state_of z) z.memory (clocks_of ds)).state) e
            ∙ rest.state;
        memory =
            ap (λ (z : Done size select). (run_of size select (state_of z) z.memory (clocks_of ds)).memory) e
            ∙ rest.memory;
        lines = λ i. shown i ∷ tail i;
      }

  -- one Clock
  abbrev pub clock_on : Phase → ℕ → List ℕ → Counters → Bool → Machine.Out part
  clock_on p a m c d = clocked part p (lent m a) c d

  pub clock_leads : (p : Phase) (a : ℕ) (m : List ℕ) (c : Counters) (d : Bool)
      → Leads (on_bus p a c) m (clock_event d ∷ [])
      (on_bus (clock_on p a m c d).state.phase (clock_on p a m c d).state.memory.address (clock_on p a m c d).state.companion)
      (clock_on p a m c d).state.memory.bytes ((clock_on p a m c d).line ∷ [])
  unfolding lined
  clock_leads p a m c d = clocks_lead (record { phase = p; memory = lent m a; companion = c }) (d ∷ [])

  -- where the machine's Clocks lead to a state with these lines
  pub led : (u v : Machine.State part) (ds ls : List Bool) → clocks_on part u ds ≡ record { state = v; lines = ls }
      → Leads (live u) u.memory.bytes (clocks_of ds) (live v) v.memory.bytes ls
  led u v ds ls e =
      let l = clocks_lead u ds in
      record {
        state = l.state ∙ ap (λ (z : Clocked part). live z.state) e;
        memory = l.memory ∙ ap (λ (z : Clocked part). z.state.memory.bytes) e;
        lines = l.lines ∙ ap (λ (z : Clocked part). z.lines) e;
      }

  -- a Start on main power begins a slave byte, whatever was under way; a Stop ends the transfer
  pub start_leads : (p : Phase) (a : ℕ) (c : Counters) (m : List ℕ)
      → Leads (on_bus p a c) m (0 ∷ []) (on_bus (Slave 0 0) a c) m (true ∷ [])
  unfolding run_of happening event_on lined
  start_leads p a c m = record { state = refl; memory = refl; lines = refl }

  pub stop_leads : (p : Phase) (a : ℕ) (c : Counters) (m : List ℕ)
      → Leads (on_bus p a c) m (1 ∷ []) (on_bus Idle a c) m (true ∷ [])
  unfolding run_of happening event_on lined
  stop_leads p a c m = record { state = refl; memory = refl; lines = refl }

-- a state on main power in a phase
pub on_bus_lem : (s : State) {p : Phase} → s.bus.power ≡ On → s.bus.phase ≡ p → s ≡ on_bus p s.bus.address s.counters
on_bus_lem s on e =
    λ i. record { bus = record { power = on i; phase = e i; address = s.bus.address }; counters = s.counters }
