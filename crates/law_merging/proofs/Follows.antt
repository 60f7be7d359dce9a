-- SPDX-License-Identifier: Apache-2.0
-- One event more, at the head of a merged list. A run alone that takes the event as the merged run does follows it
-- (`follows_own`); one that does not have the event stays where it is (`follows_other`). So for the two devices and the
-- silence in others' transactions together: `by_memory`, `by_companion`, `by_foreign`.
use mathlib.Core.Path.{◌≡◌, refl, sym, ap, ◌∙◌}
use mathlib.Core.Bool.{Bool, true, false}
use mathlib.Core.List.{List, ◌∷◌}
use Rattle.wire.specs.Machine.{Parts, Line, line, State, Out, Answer, step, answer_of, masters_line}
use Rattle.wire.specs.declared.Side.TheVariants.{Memory, Companion}
use Rattle.law_merging.specs.Merge.{by, events_of, picked, list_of}
use Rattle.law_merging.specs.Party.{Party, to, foreign, is_memory, is_companion, is_foreign, BusEvent, PartyEvent}
use Rattle.law_merging.specs.Apart.{masters, run, answers_of, Follows, KeptApart}

module _ (P : Parts) where
  module _ (mine : Party → Bool) {Y Z : Type 0} (part : State P → Y) (look : Answer P → Z) where
    -- what is seen of the merged list from an outcome on; what is left of it
    abbrev shown : List (PartyEvent P) → Out P → List Z
    shown l o = picked mine l (answers_of P look o.state (events_of l))

    abbrev left : List (BusEvent P) → Out P → Y
    left es o = part (run P o.state es)

    module _ (s t : State P) (i : Party) (e : BusEvent P) (l : List (PartyEvent P))
        (o : Out P) (so : step P s e ≡ o) where
      follows_own : mine i ≡ true → (w : Out P) → step P t e ≡ w → look (answer_of P o) ≡ look (answer_of P w)
          → Follows P mine part look o.state w.state l → Follows P mine part look s t (by i e ∷ l)
      follows_own it w tw ow h =
          record {
            same = rw it (ap (left (events_of l)) so ∙ (h.same ∙ sym (ap (left (list_of mine l)) tw)));
            answered =
                rw it
                (ap (λ (z : Out P). look (answer_of P z) ∷ shown l z) so
                ∙ ((λ j. ow j ∷ h.answered j)
                ∙ sym (ap (λ (z : Out P). look (answer_of P z) ∷ answers_of P look z.state (list_of mine l)) tw)));
          }

      follows_other : mine i ≡ false → Follows P mine part look o.state t l
          → Follows P mine part look s t (by i e ∷ l)
      follows_other it h =
          record {
            same = rw it (ap (left (events_of l)) so ∙ h.same);
            answered = rw it (ap (shown l) so ∙ h.answered);
          }

  abbrev pub memory_of : State P → P.Cells
  memory_of s = s.memory

  abbrev pub companion_of : State P → P.Desk
  companion_of s = s.companion

  abbrev pub line_of : Answer P → Bool
  line_of a = a.line

  abbrev pub whole : Answer P → Answer P
  whole a = a

  abbrev PullsNothing : State P → List (PartyEvent P) → Type 0
  PullsNothing s l = picked is_foreign l (answers_of P line_of s (events_of l)) ≡ masters (list_of is_foreign l)

  module _ (s : State P) (l : List (PartyEvent P)) (o : Out P) where
    quiet_own : (x : Line) → step P s (line x) ≡ o → o.line ≡ masters_line x
        → PullsNothing o.state l → PullsNothing s (by foreign (line x) ∷ l)
    quiet_own x so ox h =
        ap (λ (z : Out P). z.line ∷ shown is_foreign memory_of line_of l z) so ∙ (λ j. ox j ∷ h j)

    quiet_other : (i : Party) (e : BusEvent P) → step P s e ≡ o → is_foreign i ≡ false
        → PullsNothing o.state l → PullsNothing s (by i e ∷ l)
    quiet_other i e so it h = rw it (ap (shown is_foreign memory_of line_of l) so ∙ h)

  module _ (s t u : State P) (l : List (PartyEvent P)) (o : Out P) where
    pub by_memory : (e : BusEvent P) → step P s e ≡ o → (w : Out P) → step P t e ≡ w → o.line ≡ w.line
        → KeptApart P o.state w.state u l → KeptApart P s t u (by (to Memory) e ∷ l)
    by_memory e so w tw ow h =
        record {
          memory = follows_own is_memory memory_of line_of s t (to Memory) e l o so refl w tw ow h.memory;
          companion = follows_other is_companion companion_of whole s u (to Memory) e l o so refl h.companion;
          quiet = quiet_other s l o (to Memory) e so refl h.quiet;
        }

    pub by_companion : (e : BusEvent P) → step P s e ≡ o → (w : Out P) → step P u e ≡ w → answer_of P o ≡ answer_of P w
        → KeptApart P o.state t w.state l → KeptApart P s t u (by (to Companion) e ∷ l)
    by_companion e so w uw ow h =
        record {
          memory = follows_other is_memory memory_of line_of s t (to Companion) e l o so refl h.memory;
          companion = follows_own is_companion companion_of whole s u (to Companion) e l o so refl w uw ow h.companion;
          quiet = quiet_other s l o (to Companion) e so refl h.quiet;
        }

    pub by_foreign : (x : Line) → step P s (line x) ≡ o → o.line ≡ masters_line x
        → KeptApart P o.state t u l → KeptApart P s t u (by foreign (line x) ∷ l)
    by_foreign x so ox h =
        record {
          memory = follows_other is_memory memory_of line_of s t foreign (line x) l o so refl h.memory;
          companion = follows_other is_companion companion_of whole s u foreign (line x) l o so refl h.companion;
          quiet = quiet_own s l o x so ox h.quiet;
        }
