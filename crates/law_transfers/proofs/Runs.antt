-- SPDX-License-Identifier: Apache-2.0
-- A list of events leads from a state and a memory to others, with these lines; such steps compose. Clocks on main power do
-- what the machine's Clocks do, so each kind of whole byte is the machine's law at the FM3130.
use Prim.Native.Nat.{ℕ, ◌+◌, ◌*◌, ◌%◌}
use mathlib.Core.Path.{◌≡◌, refl, ap, ◌∙◌}
use mathlib.Core.Bool.{Bool, true, false, cond}
use mathlib.Core.List.{List, [], ◌∷◌, ◌++◌, map-append}
use native.Mathlib.Omega.{arith}
use borrow.Author.Tests.{eq-eqb, ne_eqb}
use Rattle.wire.specs.Machine.{clock, line, lined, step}
use Rattle.wire.specs.Machine as Machine
use Rattle.wire.specs.Whole.{Clocked, clocks_on}
use Rattle.wire.specs.declared.Phase.TheVariants.{Slave}
use Rattle.bus.specs.declared.Power.TheVariants.{On}
use Rattle.fm3130_companion.specs.Part.{pin_of}
use Rattle.fm3130.specs.Chip.{fm3130, Done, done_of}
use Rattle.fm3130.specs.Event.{happening, event_on, event_of}
use Rattle.fm3130.specs.declared.State.{State}
use Rattle.fm3130_list.specs.Run.{Ended, answer_to, run_of}
use Rattle.fm3130_list.proofs.Pieces.{run_append}
use Rattle.wire_clocks.specs.Clocks.{clock_event, clocks_of, is_high, lines_of}

-- a device on main power, of the machine's state
abbrev pub live : Machine.State fm3130 → State
live u = record { power = On; phase = u.phase; address = u.memory.address; companion = u.companion }

pub record Leads (s : State) (m es : List ℕ) (s' : State) (m' : List ℕ) (ls : List Bool) : Type 0 where
  pub state : (run_of s m es).state ≡ s'
  pub memory : (run_of s m es).memory ≡ m'
  pub lines : lines_of (run_of s m es).answers ≡ ls

pub leads_then : {s s' s'' : State} {m m' m'' xs ys : List ℕ} {ls ks : List Bool}
    → Leads s m xs s' m' ls → Leads s' m' ys s'' m'' ks → Leads s m (xs ++ ys) s'' m'' (ls ++ ks)
leads_then {s} {m = m} {xs = xs} {ys = ys} {ls = ls} p q =
    let e = run_append s m xs ys in
    let r = run_of s m xs in
    record {
      state = ap (λ (z : Ended). z.state) e ∙ rw (p.state, p.memory) q.state;
      memory = ap (λ (z : Ended). z.memory) e ∙ rw (p.state, p.memory) q.memory;
      lines =
          ap (λ (z : Ended). lines_of z.answers) e
          ∙ (map-append is_high r.answers (run_of r.state r.memory ys).answers
          ∙ rw (p.lines, p.state, p.memory) (ap (λ (z : List Bool). ls ++ z) q.lines));
    }

-- bit 0 of an answer is the line
pub line_shown : (pin : ℕ) (d : Bool) → is_high (2 * pin + cond d 1 0) ≡ d
line_shown pin true = eq-eqb ((2 * pin + 1) % 2) 1 (omega arith)
line_shown pin false = ne_eqb ((2 * pin + 0) % 2) 1 (λ e. omega arith)

clock_done : (u : Machine.State fm3130) (d : Bool)
    → event_of (live u) u.memory.bytes (clock_event d) ≡ done_of (step fm3130 u (line (clock d)))
unfolding happening event_on
clock_done u true = refl
clock_done u false = refl

-- Clocks on main power are the machine's
pub clocks_lead : (u : Machine.State fm3130) (ds : List Bool)
    → Leads (live u) u.memory.bytes (clocks_of ds) (live (clocks_on fm3130 u ds).state)
    (clocks_on fm3130 u ds).state.memory.bytes (clocks_on fm3130 u ds).lines
unfolding run_of
clocks_lead u [] = record { state = refl; memory = refl; lines = refl }
clocks_lead u (d ∷ ds) =
    let o = step fm3130 u (line (clock d)) in
    let rest = clocks_lead o.state ds in
    let e = clock_done u d in
    let shown = ap (λ (z : Done). is_high (answer_to z)) e ∙ line_shown (pin_of o.state.companion) o.line in
    let tail = ap (λ (z : Done). lines_of (run_of z.state z.memory (clocks_of ds)).answers) e ∙ rest.lines in
    record {
      state = ap (λ (z : Done). (run_of z.state z.memory (clocks_of ds)).state) e ∙ rest.state;
      memory = ap (λ (z : Done). (run_of z.state z.memory (clocks_of ds)).memory) e ∙ rest.memory;
      lines = λ i. shown i ∷ tail i;
    }

-- the same, where the machine's Clocks lead to a state with these lines
pub led : (u v : Machine.State fm3130) (ds ls : List Bool) → clocks_on fm3130 u ds ≡ record { state = v; lines = ls }
    → Leads (live u) u.memory.bytes (clocks_of ds) (live v) v.memory.bytes ls
led u v ds ls e =
    let l = clocks_lead u ds in
    record {
      state = l.state ∙ ap (λ (z : Clocked fm3130). live z.state) e;
      memory = l.memory ∙ ap (λ (z : Clocked fm3130). z.state.memory.bytes) e;
      lines = l.lines ∙ ap (λ (z : Clocked fm3130). z.lines) e;
    }

-- a Start on main power begins a slave byte, whatever was under way
pub start_leads : (s : State) (m : List ℕ) → s.power ≡ On
    → Leads s m (0 ∷ []) (record { power = On; phase = Slave 0 0; address = s.address; companion = s.companion }) m
    (true ∷ [])
unfolding run_of happening event_on lined
start_leads s m on =
    rw on
    (record { state = refl; memory = refl; lines = λ i. line_shown (pin_of s.companion) true i ∷ [] })
