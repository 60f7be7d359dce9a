-- SPDX-License-Identifier: Apache-2.0
-- One event, put together from the companion's part and the bus's: the law `split` of `bus` at this companion.
use Prim.Native.Nat.{ℕ}
use mathlib.Core.Path.{◌≡◌, ap, ◌∙◌}
use mathlib.Core.List.{List}
use Rattle.fm31_counters.specs.Part.{guard_of}
use Rattle.bus.specs.Happening.{happening, edges}
use Rattle.bus_deeds.specs.Serve.{deed_of}
use Rattle.bus_deeds.specs.declared.serve.Served.{Served}
use Rattle.fm31_counters.specs.declared.Counters.{Counters}
use Rattle.bus.specs.Code.Outcome.{Left, left, went_of}
use Rattle.bus_deeds.specs.declared.Deed.{Deed}
use Rattle.bus.specs.declared.Went.{Went}
use Rattle.bus_deeds.proofs.Split.{split}
use Rattle.fm31.specs.Chip.{companion31, event_of}
use Rattle.fm31.specs.Step.{served_by, answer_byte, AnsweredWith}
use Rattle.fm31.specs.declared.State.{State}
use Rattle.bus.specs.Select.{slave_names_for}

pub advanced : (size select : ℕ) (s : State) (m m' : List ℕ) (e g : ℕ) (q : Deed) (v : Served Counters (Unit {0})) (w : Went) (a : ℕ)
    → g ≡ guard_of s.counters → q ≡ deed_of s.bus.power s.bus.phase (happening edges e)
    → v ≡ served_by q s.counters
    → left w m' ≡ went_of size (slave_names_for select) g v.reply s.bus m e → a ≡ answer_byte w.line
    → AnsweredWith size select (record { state = record { bus = w.bus; counters = v.companion }; answer = a }) m'
    (event_of size select s m e)
advanced size select s m m' e g q v w a hg hq hv hw ha =
    let c = s.counters in
    let u = s.bus in
    let v' : v ≡ served_by (deed_of u.power u.phase (happening edges e)) c =
    hv ∙ ap (λ (q : Deed). served_by q c) hq in
    let w' =
    (hw ∙ ap (λ (g : ℕ). went_of size (slave_names_for select) g v.reply u m e) hg)
    ∙ ap (λ (z : Served Counters (Unit {0})). went_of size (slave_names_for select) (guard_of c) z.reply u m e) v' in
    let a' = ha ∙ ap (λ (l : Left). answer_byte l.went.line) w' in
    rw (split size (slave_names_for select) companion31 u c m u.power (happening edges e))
    (record {
      result = λ i. record { state = record { bus = (w' i).went.bus; counters = (v' i).companion }; answer = a' i };
      memory = λ i. (w' i).memory;
    })
