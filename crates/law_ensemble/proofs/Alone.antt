-- SPDX-License-Identifier: Apache-2.0
-- Each device of a set does as alone: by induction on the list, each event by definition.
use Prim.Native.Nat.{ℕ}
use mathlib.Core.Path.{◌≡◌, refl, sym, ap, subst, ◌∙◌}
use mathlib.Core.Bool.{Bool, true, false, cond}
use mathlib.Core.List.{List, [], ◌∷◌}
use Rattle.fm31_counters.specs.Lock.{SerialKept}
use Rattle.fm31.specs.Run.{run_of}
use Rattle.fm31.proofs.Lock.{serial_locked}
use Rattle.law_merging.specs.Merge.{keep_if}
use Rattle.set_event.specs.Set.{Held, number_of, at, hears, own_byte}
use Rattle.set_event.specs.Set.{size_in, select_in, after_own, after_event, after_events}
use Rattle.law_set.proofs.Heard.{at_after}
use Rattle.law_ensemble.specs.Alone.{heard_by, alone, AsAlone, counters_in, SerialLockedIn}

alone_keep : (b : Bool) (h : Held) (e : ℕ) (es : List ℕ) → alone (cond b (after_own h e) h) es ≡ alone h (keep_if b e
    es)
alone_keep true h e es = refl
alone_keep false h e es = refl

pub as_alone : AsAlone
as_alone t v [] = refl
as_alone t v (e ∷ es) =
    let n = t.set.count in
    as_alone (after_event t e) v es
    ∙ (ap (λ (h : Held). alone h (heard_by n (number_of v) es)) (at_after t v e)
    ∙ alone_keep (hears n (number_of v) e) (at v t) (own_byte e) (heard_by n (number_of v) es))

-- a device alone, as the family's own statements have it
alone_is : (h : Held) (es : List ℕ)
    → counters_in (alone h es)
    ≡ (run_of (size_in h) (select_in h) h.member.state h.memory es).state.counters
unfolding run_of
alone_is h [] = refl
alone_is h (e ∷ es) = alone_is (after_own h e) es

pub serial_locked_in : SerialLockedIn
serial_locked_in t v es l =
    let h = at v t in
    let own = heard_by t.set.count (number_of v) es in
    let e : counters_in (at v (after_events t es)) ≡ _ = ap counters_in (as_alone t v es) ∙ alone_is h own in
    subst (SerialKept (counters_in h)) (sym e)
    (serial_locked (size_in h) (select_in h) h.member.state h.memory own l)
