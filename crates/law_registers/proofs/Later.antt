-- SPDX-License-Identifier: Apache-2.0
-- Ticks after a read's eighth clock. The ninth clock leaves the companion; along ticks a flag is there that was there before, or
-- that the same ticks raise where none was.
use Prim.Native.Nat.{ℕ, zero, suc, ◌+◌}
use mathlib.Core.Path.{◌≡◌, refl, sym, ap, subst, ◌∙◌}
use mathlib.Core.Bool.{Bool, true, false, cond, ◌&&◌, ◌||◌, or_assoc, or-false}
use mathlib.Core.List.{List, [], ◌∷◌}
use Rattle.bits.specs.Weight.{has}
use Rattle.wire.specs.Bits.{place_at}
use Rattle.wire.specs.Clock.{more, sent_at}
use Rattle.wire.specs.Machine.{clocked}
use Rattle.wire.specs.Whole.{eight}
use Rattle.wire.specs.declared.Side.TheVariants.{Companion}
use Rattle.wire.specs.declared.Phase.TheVariants.{Read}
use Rattle.bus.specs.declared.Power.TheVariants.{On}
use Rattle.calendar.specs.Next.{is_valid, next_of}
use Rattle.calendar.specs.declared.Calendar.{Calendar}
use Rattle.fm3130_registers.specs.Map.{OSCEN}
use Rattle.fm3130_companion.specs.Tick.{matches, rung, counted_of}
use Rattle.fm3130_companion.specs.Part.{load_of, loaded_of, tick_of}
use Rattle.fm3130.specs.declared.State.{State}
use Rattle.wire_clocks.specs.Clocks.{clock_event}
use Rattle.law_transfers.proofs.Runs.{Leads, leads_then}
use Rattle.law_transfers.proofs.Written.{on_bus}
use Rattle.law_registers.specs.Ticks.{after_ticks}
use Rattle.law_registers.specs.Later.{at_eighth, TicksLeft, LeavesTicks, Unflagged, FlagsLeftAt, FlagsLeft}
use Rattle.law_registers.proofs.Ticks.{ticked, ticked_all, ticked_add, ticks_lead, paced, after_ticks_lem}
use Rattle.law_registers.proofs.Clocking.{Desk, counts_of, clock_leads, on_bus_lem, register_run}
use Rattle.law_registers.proofs.Flags.{flagged_af, flagged_cf}
use Rattle.law_registers.proofs.Fixed.{of_reads, control_cleared}

-- the ninth clock of a byte from the registers
pub ninth_leads : (a : ℕ) (m : List ℕ) (c : Desk) (x : ℕ) (d : Bool)
    → Leads (on_bus (Read Companion 8 x) a c) m (clock_event d ∷ []) (on_bus (more d (Read Companion 0 0)) a c) m (d ∷ [])
unfolding clocked sent_at place_at
ninth_leads a m c x d = clock_leads (Read Companion 8 x) a m c d

module _ (a : ℕ) (m : List ℕ) (c : Desk) (b n₀ n₁ n₂ n₃ n₄ n₅ n₆ n₇ : ℕ) (d₀ d₁ d₂ d₃ d₄ d₅ d₆ d₇ : Bool) where
  abbrev counts : List ℕ
  counts = counts_of n₀ n₁ n₂ n₃ n₄ n₅ n₆ n₇

  abbrev lines : List Bool
  lines = eight d₀ d₁ d₂ d₃ d₄ d₅ d₆ d₇

  abbrev here : State
  here = on_bus (Read Companion 0 b) a c

  abbrev byte : ℕ
  byte = load_of (ticked n₀ c)

  abbrev left : Desk
  left = loaded_of (ticked_all counts c) byte

  eighth_is : at_eighth here m counts lines ≡ on_bus (Read Companion 8 byte) a left
  eighth_is = (register_run a m c b n₀ n₁ n₂ n₃ n₄ n₅ n₆ n₇ d₀ d₁ d₂ d₃ d₄ d₅ d₆ d₇).state

  ticks_left : TicksLeft here m n₀ counts lines
  ticks_left before after d =
      let run =
      leads_then (register_run a m c b n₀ n₁ n₂ n₃ n₄ n₅ n₆ n₇ d₀ d₁ d₂ d₃ d₄ d₅ d₆ d₇)
      (paced (Read Companion 8 byte) a m before (clock_event d) left (ninth_leads a m (ticked before left) byte d)
      (ticks_lead (more d (Read Companion 0 0)) a m after (ticked before left))) in
      ap (λ (z : State). z.companion) run.state
      ∙ (ticked_add before after left
      ∙ (sym (after_ticks_lem (Read Companion 8 byte) a left m (before + after))
      ∙ ap (λ (z : State). after_ticks z m (before + after)) (sym eighth_is)))

pub leaves_ticks : LeavesTicks
leaves_ticks = of_reads Companion TicksLeft ticks_left

-- the same oscillator, alarm and core; a flag of the one is there before, or is the other's
pub record Rises (af cf : Bool) (c k : Desk) : Type 0 where
  pub trim : k.registers.trim ≡ c.registers.trim
  pub alarm : k.registers.alarm ≡ c.registers.alarm
  pub core : k.core ≡ c.core
  pub af_or : has c.registers.control 0x40 ≡ (af || has k.registers.control 0x40)
  pub cf_or : has c.registers.control 0x20 ≡ (cf || has k.registers.control 0x20)

module _ (af cf : Bool) where
  counted_rises : (c k : Desk) → Rises af cf c k → Rises af cf (counted_of c) (counted_of k)
  counted_rises c k r =
      let x = c.registers.control in
      let y = k.registers.control in
      let rings : rung c ≡ rung k =
      λ i. is_valid (sym r.core i) && matches (sym r.alarm i) (next_of (sym r.core i)).calendar in
      let turns : (next_of c.core).century ≡ (next_of k.core).century = ap (λ (z : Calendar). (next_of z).century) (sym r.core) in
      record {
        trim = r.trim;
        alarm = r.alarm;
        core = ap (λ (z : Calendar). (next_of z).calendar) r.core;
        af_or =
            flagged_af x (has x 0x40 || rung c) (has x 0x20 || (next_of c.core).century)
            ∙ (ap (λ (z : Bool). z || rung c) r.af_or
            ∙ (or_assoc af (has y 0x40) (rung c)
            ∙ (ap (λ (z : Bool). af || (has y 0x40 || z)) rings
            ∙ ap (λ (z : Bool). af || z)
            (sym (flagged_af y (has y 0x40 || rung k) (has y 0x20 || (next_of k.core).century))))));
        cf_or =
            flagged_cf x (has x 0x40 || rung c) (has x 0x20 || (next_of c.core).century)
            ∙ (ap (λ (z : Bool). z || (next_of c.core).century) r.cf_or
            ∙ (or_assoc cf (has y 0x20) (next_of c.core).century
            ∙ (ap (λ (z : Bool). cf || (has y 0x20 || z)) turns
            ∙ ap (λ (z : Bool). cf || z)
            (sym (flagged_cf y (has y 0x40 || rung k) (has y 0x20 || (next_of k.core).century))))));
      }

  either : (t : Bool) {c k c' k' : Desk} → Rises af cf c k → Rises af cf c' k' → Rises af cf (cond t c c') (cond t k k')
  either true r q = r
  either false r q = q

  tick_rises : (c k : Desk) → Rises af cf c k → Rises af cf (tick_of c) (tick_of k)
  unfolding tick_of
  tick_rises c k r =
      subst (λ (x : ℕ). Rises af cf (tick_of c) (cond (has x OSCEN) k (counted_of k))) (sym r.trim)
      (either (has c.registers.trim OSCEN) r (counted_rises c k r))

  pub ticks_rise : (n : ℕ) (c k : Desk) → Rises af cf c k → Rises af cf (ticked n c) (ticked n k)
  ticks_rise zero c k r = r
  ticks_rise (suc n) c k r = ticks_rise n (tick_of c) (tick_of k) (tick_rises c k r)

-- the companion as ticks alone leave it, of any state on main power
after_on : (s : State) (m : List ℕ) (n : ℕ) → s.power ≡ On → after_ticks s m n ≡ ticked n s.companion
after_on s m n on =
    ap (λ (z : State). after_ticks z m n) (on_bus_lem s on refl) ∙ after_ticks_lem s.phase s.address s.companion m n

-- later ticks on a state, beside one in which neither flag stands
later_flags : (s t : State) (m : List ℕ) (n : ℕ) → s.power ≡ On → Unflagged s t
    → Rises (has s.companion.registers.control 0x40) (has s.companion.registers.control 0x20)
    (after_ticks s m n) (after_ticks t m n)
later_flags s t m n on u =
    let x = s.companion.registers.control in
    rw (after_on s m n on, after_on t m n u.power)
    (ticks_rise (has x 0x40) (has x 0x20) n s.companion t.companion
    (record {
      trim = u.trim;
      alarm = u.alarm;
      core = u.core;
      af_or = sym (or-false (has x 0x40)) ∙ ap (λ (z : Bool). has x 0x40 || z) (sym u.af);
      cf_or = sym (or-false (has x 0x20)) ∙ ap (λ (z : Bool). has x 0x20 || z) (sym u.cf);
    }))

module _ (a : ℕ) (m : List ℕ) (c : Desk) (b n₀ n₁ n₂ n₃ n₄ n₅ n₆ n₇ : ℕ) (d₀ d₁ d₂ d₃ d₄ d₅ d₆ d₇ : Bool) where
  flags_end : FlagsLeftAt (on_bus (Read Companion 0 b) a c) m n₀ (counts_of n₀ n₁ n₂ n₃ n₄ n₅ n₆ n₇)
      (eight d₀ d₁ d₂ d₃ d₄ d₅ d₆ d₇)
  flags_end none before after d t u =
      let s = on_bus (Read Companion 0 b) a c in
      let ns = counts_of n₀ n₁ n₂ n₃ n₄ n₅ n₆ n₇ in
      let ds = eight d₀ d₁ d₂ d₃ d₄ d₅ d₆ d₇ in
      let on = ap (λ (z : State). z.power) (eighth_is a m c b n₀ n₁ n₂ n₃ n₄ n₅ n₆ n₇ d₀ d₁ d₂ d₃ d₄ d₅ d₆ d₇) in
      let rises = later_flags (at_eighth s m ns ds) t m (before + after) on u in
      let cleared = control_cleared s m b n₀ n₁ n₂ n₃ n₄ n₅ n₆ n₇ d₀ d₁ d₂ d₃ d₄ d₅ d₆ d₇ refl refl none in
      let end = ticks_left a m c b n₀ n₁ n₂ n₃ n₄ n₅ n₆ n₇ d₀ d₁ d₂ d₃ d₄ d₅ d₆ d₇ before after d in
      let later = (after_ticks t m (before + after)).registers.control in
      record {
        af =
            ap (λ (z : Desk). has z.registers.control 0x40) end
            ∙ (rises.af_or ∙ ap (λ (z : Bool). z || has later 0x40) cleared.af);
        cf =
            ap (λ (z : Desk). has z.registers.control 0x20) end
            ∙ (rises.cf_or ∙ ap (λ (z : Bool). z || has later 0x20) cleared.cf);
      }

pub flags_left : FlagsLeft
flags_left = of_reads Companion FlagsLeftAt flags_end
