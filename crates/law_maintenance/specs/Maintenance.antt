-- SPDX-License-Identifier: Apache-2.0
-- What maintenance may rely on (02, request 11; the minutes: a lamp must be dark when the bus falls silent). All are said of
-- the report after a list of events, from a device between transfers.
--   reported       the report after a list of events
--   Unpowered      event 5 or 6 darkens all
--   Hung           the trial unit: the bus hangs inside a byte, and any Start or Stop that ends it darkens all
--   Unacknowledged a byte that the device refuses darkens all, at its ninth clock or at what comes in its place
--   Silent         three ticks without a Stop darken all
--   Unread         three ticks without a new whole read of its byte darken a lamp
--   ReadAsOne      a lamp is lit exactly in the request's words
--   Bits           bit k of the report is lamp k
use Rattle.std.specs.Prelude.{ℕ, suc, ◌/◌, ◌%◌, ◌^◌, ◌≤◌, ◌<◌, ◌≡◌, Bool, true, false, cond, not, ◌&&◌, List, [], ◌∷◌, ◌++◌, replicate}
use Rattle.wire.specs.Machine.{start, stop, clock}
use Rattle.wire.specs.declared.Phase.TheVariants.{Idle}
use Rattle.fm3130.specs.Event.{Happening, on_wire, beat, lost, gone, returned, happening}
use Rattle.fm3130.specs.declared.State.{State}
use Rattle.fm3130_list.specs.Run.{run_of}
use Rattle.lamps.specs.Log.{clocks_of}
use Rattle.lamps_eight.specs.Lit.{lamp_address, is_stop, is_tick, count, Lit, Last, nothing, gave, read_in, is_lit}
use Rattle.lamps.specs.Step.{begun, report_of}
use Rattle.lamps.specs.Statement.{proven_by, logged}
use Rattle.lamps_eight.specs.declared.Mark.{Mark}

abbrev pub reported : State → List ℕ → List ℕ → ℕ
reported s m es = report_of (proven_by begun s m es)

-- "And at event 5 or 6."
abbrev pub Unpowered : Type 0
Unpowered =
    (s : State) (m es : List ℕ) (e : ℕ) → s.phase ≡ Idle → 5 ≤ e → e ≤ 6 → reported s m (es ++ (e ∷ [])) ≡ 0

-- "At a Start or Stop with 1 to 8 clocks of a byte done", however many ticks the bus hung.
abbrev pub Hung : Type 0
Hung =
    (s : State) (m es : List ℕ) (ticks e : ℕ) → s.phase ≡ Idle
    → 1 ≤ clocks_of (run_of s m es).state.phase → clocks_of (run_of s m es).state.phase ≤ 8 → e ≤ 1
    → reported s m (es ++ (replicate ticks 4 ++ (e ∷ []))) ≡ 0

-- "At an acknowledge the device does not give": the eighth clock d of a byte left the device outside the transfer; then
-- ticks; then a Clock, a Start or a Stop.
abbrev pub Unacknowledged : Type 0
Unacknowledged =
    (s : State) (m es : List ℕ) (d : Bool) (ticks e : ℕ) → s.phase ≡ Idle
    → clocks_of (run_of s m es).state.phase ≡ 7
    → (run_of s m (es ++ (cond d 3 2 ∷ []))).state.phase ≡ Idle → e ≤ 3
    → reported s m (es ++ (cond d 3 2 ∷ (replicate ticks 4 ++ (e ∷ [])))) ≡ 0

abbrev pub is_tick_event : Happening → Bool
is_tick_event (on_wire x) = false
is_tick_event (beat t') = true
is_tick_event lost = false
is_tick_event gone = false
is_tick_event returned = false

abbrev pub is_stop_event : Happening → Bool
is_stop_event (on_wire start) = false
is_stop_event (on_wire stop) = true
is_stop_event (on_wire (clock d)) = false
is_stop_event (beat t') = false
is_stop_event lost = false
is_stop_event gone = false
is_stop_event returned = false

abbrev pub ticks_in : List ℕ → ℕ
ticks_in [] = 0
ticks_in (e ∷ es) = cond (is_tick_event (happening e)) (suc (ticks_in es)) (ticks_in es)

abbrev pub no_stop : List ℕ → Bool
no_stop [] = true
no_stop (e ∷ es) = not (is_stop_event (happening e)) && no_stop es

-- "Fewer than three tick events .. have passed since the Stop": three ticks, whatever else, and no Stop.
abbrev pub Silent : Type 0
Silent =
    (s : State) (m es quiet : List ℕ) → s.phase ≡ Idle → no_stop quiet ≡ true → 3 ≤ ticks_in quiet
    → reported s m (es ++ quiet) ≡ 0

-- Auxiliary: looking back from a Stop, no read of the byte was found.
abbrev pub is_nothing : Last → Bool
is_nothing nothing = true
is_nothing (gave v) = false

-- No Stop in the newer lines of a log ends a transaction with a read of the byte, wherever that read began.
abbrev pub unread : ℕ → List Mark → List Mark → Bool
unread at [] older = true
unread at (x ∷ newer) older =
    cond (is_stop x) (is_nothing (read_in at (newer ++ older)) && unread at newer older) (unread at newer older)

-- The same of one lamp, whatever else happens: three ticks, and no new whole read of its byte.
abbrev pub Unread : Type 0
Unread =
    (k : ℕ) (newer older : List Mark) → unread (lamp_address k) newer older ≡ true → 3 ≤ count is_tick newer
    → is_lit k (newer ++ older) ≡ false

-- What the log's definition decides is what the request says.
pub record ReadAsOne (k : ℕ) (s : State) (m es : List ℕ) : Type 0 where
  pub lit : is_lit k (logged s m es) ≡ true → Lit (lamp_address k) (logged s m es)
  pub only : Lit (lamp_address k) (logged s m es) → is_lit k (logged s m es) ≡ true

-- Bit k of a report is lamp k.
abbrev pub Bits : Type 0
Bits = (k : ℕ) (s : State) (m es : List ℕ) → s.phase ≡ Idle → k < 8 → reported s m es / 2 ^ k % 2 ≡ cond (is_lit k (logged s m es)) 1 0
