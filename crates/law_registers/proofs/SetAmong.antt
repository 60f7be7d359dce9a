-- SPDX-License-Identifier: Apache-2.0
-- The clock set, with ticks before each event. W goes up whatever was there; while it is 1 ticks leave W and 02h to 08h, so that one byte after another is stored;
-- when W falls over them the core takes them, and 02h to 08h show the core or stay.
use Prim.Native.Nat.{ℕ, ◌+◌, ◌-◌, ◌≤◌, ◌<◌}
use mathlib.Core.Path.{◌≡◌, refl, sym, ap, subst, ◌∙◌}
use mathlib.Core.Bool.{Bool, true, false, false≢true}
use mathlib.Core.List.{List, [], ◌∷◌, ◌++◌}
use native.Mathlib.Omega.{arith}
use lib.Dec.{eqb, lit≤}
use lib.ListN.{get_or, set}
use lib.Seq.{get_or-set_same, get_or-set_other}
use borrow.Author.Tests.{eqb-true, eqb-false}
use Rattle.bits.specs.Weight.{has}
use Rattle.bits.proofs.Cases.{Below, none, ◌then◌, below}
use Rattle.wire.specs.declared.Side.TheVariants.{Companion}
use Rattle.wire.specs.declared.Phase.{Phase}
use Rattle.wire.specs.declared.Phase.TheVariants.{Idle, Write}
use Rattle.wire.specs.Clock.{kept, received_at}
use Rattle.wire.specs.Bits.{place_at}
use Rattle.wire.specs.Machine.{clocked}
use Rattle.wire.proofs.Tests.{by_test}
use Rattle.wire.proofs.Whole.{made_of}
use Rattle.calendar.specs.Next.{is_valid}
use Rattle.calendar.specs.declared.Calendar.{Calendar}
use Rattle.calendar.proofs.Tests.{true_test}
use Rattle.calendar.proofs.Valid.{valid_facts}
use Rattle.calendar.proofs.Width.{Within, within_facts, valid_within}
use Rattle.fm3130_registers.specs.Stored.{stored_at}
use Rattle.fm3130_companion.specs.Change.{with_address}
use Rattle.fm3130_companion.specs.Registers.{register_bytes}
use Rattle.fm3130_companion.specs.Write.{control_written, byte_stored}
use Rattle.fm3130_companion.specs.Part.{stepped_of, store_of}
use Rattle.fm3130_companion.proofs.Bytes.{bytes_of_put}
use Rattle.fm3130.specs.declared.State.{State}
use Rattle.wire_clocks.specs.Clocks.{eight_clocks, nine_clocks}
use Rattle.law_transfers.proofs.Written.{on_bus}
use Rattle.law_registers.specs.Ticks.{spaced, after_ticks}
use Rattle.law_registers.specs.Setting.{write_registers, calendar_bytes}
use Rattle.law_registers.specs.SetAmong.{set_events, closing, SetToAmong, ClockSetAmong}
use Rattle.law_registers.proofs.Clocking.{Desk, clock_leads, on_bus_lem}
use Rattle.law_registers.proofs.Ticks.{ticked, ticked_add, ticked_address, after_ticks_lem}
use Rattle.law_registers.proofs.Storing.{stop_leads}
use Rattle.law_registers.proofs.Going.{Goes, of_leads, goes_then, ticks_go, control_low, time_writes, ticks_leave, w_stays, control_stored, core_loaded_lem, time_shown}
use Rattle.law_registers.proofs.Put.{time_bytes_lem, beside}
use Rattle.law_registers.proofs.Ways.{Closed, Ways, arrives, begins, ends, named, pointed, written, stored}

-- nothing is known of the companion; its address is 00h
abbrev Any : Desk → Type 0
Any c = Unit {0}

abbrev Aimed : Desk → Type 0
Aimed c = c.address ≡ 0

-- W is 1
abbrev Open : Desk → Type 0
Open c = has c.registers.control 0x02 ≡ true

open_ticked : Closed Open
open_ticked n c w = w_stays c (ticked n c) (ticks_leave n c (rw w)) w

aimed_ticked : Closed Aimed
aimed_ticked n c e = ticked_address n c ∙ e

-- at the address 00h
at_control : (c : Desk) → c.address ≡ 0 → c ≡ with_address c 0
at_control c e = λ i. record { registers = c.registers; core = c.core; address = e i }

-- the companion once 00h was written
abbrev controlled : ℕ → Desk → Desk
controlled b c = stepped_of (control_written (with_address c 0) b)

control_takes : (b : ℕ) (c : Desk) → c.address ≡ 0
    → (has c.registers.control 0x02 ≡ true → has b 0x02 ≡ false → is_valid c.registers.time ≡ true)
    → store_of c b ≡ record { companion = controlled b c; acknowledged = true }
control_takes b c e h = ap (λ (k : Desk). store_of k b) (at_control c e) ∙ control_stored c b h

module _ (t : Calendar) (valid : is_valid t ≡ true) where
  -- W is 1, the address is k, and 02h to 08h below it are the calendar's
  record Filled (k : ℕ) (c : Desk) : Type 0 where
    pub address : c.address ≡ k
    pub w : Open c
    pub bytes : (j : ℕ) → 2 ≤ j → j ≤ 8 → j < k → get_or (register_bytes c.registers) j 0 ≡ get_or (calendar_bytes t) (j - 2) 0

  filled_ticked : (k : ℕ) → Closed (Filled k)
  filled_ticked k n c f =
      let l = ticks_leave n c (rw f.w) in
      record {
        address = ticked_address n c ∙ f.address;
        w = w_stays c (ticked n c) l f.w;
        bytes = λ j low high h.
            time_bytes_lem (ticked n c).registers c.registers l.time j low high ∙ f.bytes j low high h;
      }

  within : Within t
  within = within_facts t (valid_within t (true_test (is_valid t) valid))

  -- a byte of the calendar: its register stores it whole
  abbrev byte_at : ℕ → ℕ
  byte_at k = get_or (calendar_bytes t) (k - 2) 0

  record Fits (k : ℕ) : Type 0 where
    pub whole : stored_at k (byte_at k) ≡ byte_at k
    pub small : byte_at k < 256

  fits : (k : ℕ) → 2 ≤ k → k ≤ 8 → Fits k
  fits k low high = below (λ k. 2 ≤ k → Fits k) each k (omega arith) low
    where
      each : Below (λ k. 2 ≤ k → Fits k) 9
      each =
          let seconds = within.seconds in
          let minutes = within.minutes in
          let hours = within.hours in
          let day = within.day in
          let date = within.date in
          let month = within.month in
          let year = (valid_facts t (true_test (is_valid t) valid)).year.most in
          none then (λ l. absurd (omega arith)) then (λ l. absurd (omega arith))
          then (λ l. record { whole = omega arith; small = omega arith })
          then (λ l. record { whole = omega arith; small = omega arith })
          then (λ l. record { whole = omega arith; small = omega arith })
          then (λ l. record { whole = omega arith; small = omega arith })
          then (λ l. record { whole = omega arith; small = omega arith })
          then (λ l. record { whole = omega arith; small = omega arith })
          then (λ l. record { whole = refl; small = omega arith })

  filled_on : (k : ℕ) → 2 ≤ k → k ≤ 8 → (c : Desk) → Filled k c → Filled (k + 1) (stepped_of (byte_stored c (byte_at k)))
  filled_on k low high c f =
      let e = f.address in
      let old = register_bytes c.registers in
      let left = beside c.registers (stored_at c.address (byte_at k)) c.address (rw e low) (rw e high) in
      let put : register_bytes (byte_stored c (byte_at k)).registers ≡ set old k (byte_at k) =
      bytes_of_put c.registers c.address (stored_at c.address (byte_at k)) (rw e (omega arith))
      ∙ rw (e, (fits k low high).whole) in
      record {
        address = rw e (omega arith);
        w = ap (λ (x : ℕ). has x 0x02) left.control ∙ f.w;
        bytes = λ j l h g.
            ap (λ (z : List ℕ). get_or z j 0) put
            ∙ by_test (eqb j k)
            (λ q. let same = eqb-true j k q in rw same (get_or-set_same old k (byte_at k) 0 (omega arith)))
            (λ q. let other = eqb-false j k q in
            get_or-set_other old k j (byte_at k) 0 other ∙ f.bytes j l h (omega arith));
      }

  -- 02h to 08h are the calendar, W is 1, the address is 00h
  record Full (c : Desk) : Type 0 where
    pub address : c.address ≡ 0
    pub w : Open c
    pub time : c.registers.time ≡ t

  full_ticked : Closed Full
  full_ticked n c f =
      let l = ticks_leave n c (rw f.w) in
      record {
        address = ticked_address n c ∙ f.address;
        w = w_stays c (ticked n c) l f.w;
        time = l.time ∙ f.time;
      }

  full : (c : Desk) → Filled 9 c → Full (with_address c 0)
  full c f =
      record {
        address = refl;
        w = f.w;
        time = λ i. record {
          seconds = f.bytes 2 (lit≤ tt) (lit≤ tt) (lit≤ tt) i;
          minutes = f.bytes 3 (lit≤ tt) (lit≤ tt) (lit≤ tt) i;
          hours = f.bytes 4 (lit≤ tt) (lit≤ tt) (lit≤ tt) i;
          day = f.bytes 5 (lit≤ tt) (lit≤ tt) (lit≤ tt) i;
          date = f.bytes 6 (lit≤ tt) (lit≤ tt) (lit≤ tt) i;
          month = f.bytes 7 (lit≤ tt) (lit≤ tt) (lit≤ tt) i;
          year = f.bytes 8 (lit≤ tt) (lit≤ tt) (lit≤ tt) i;
        };
      }

  -- core and registers are the calendar
  record Loaded (c : Desk) : Type 0 where
    pub core : c.core ≡ t
    pub time : c.registers.time ≡ t

  module _ (a : ℕ) (m : List ℕ) where
    fill : {N : Desk → Type 0} {q : Phase} {es : List ℕ} (k : ℕ) → 2 ≤ k → k ≤ 8
        → Ways a m (Filled (k + 1)) (Write Companion 0 0) es N q
        → Ways a m (Filled k) (Write Companion 0 0) (nine_clocks (byte_at k) true ++ es) N q
    fill k low high rest =
        written a m (filled_ticked k) (filled_ticked (k + 1)) (byte_at k) (fits k low high).small
        (λ c. stepped_of (byte_stored c (byte_at k)))
        (λ c f. time_writes c (byte_at k) (rw f.address low) (rw f.address high) f.w)
        (filled_on k low high) rest

    filling : {N : Desk → Type 0} {q : Phase} {es : List ℕ} → Ways a m (Filled 9) Idle es N q
        → Ways a m Open Idle (write_registers 2 (calendar_bytes t) ++ es) N q
    filling rest =
        begins a m open_ticked Idle
        (named a m open_ticked
        (pointed a m open_ticked (filled_ticked 2) 2 (lit≤ tt)
        (λ c w. record { address = refl; w = w; bytes = λ j l h g. absurd (omega arith) })
        (fill 2 (lit≤ tt) (lit≤ tt) (fill 3 (lit≤ tt) (lit≤ tt) (fill 4 (lit≤ tt) (lit≤ tt) (fill 5 (lit≤ tt) (lit≤ tt)
        (fill 6 (lit≤ tt) (lit≤ tt) (fill 7 (lit≤ tt) (lit≤ tt) (fill 8 (lit≤ tt) (lit≤ tt)
        (ends a m (filled_ticked 9) (Write Companion 0 0) rest))))))))))

    falling : (down : ℕ) → down < 256 → has down 0x02 ≡ false
        → Ways a m (Filled 9) Idle (0 ∷ (nine_clocks 0xD0 true ++ (nine_clocks 0 true ++ eight_clocks down))) Loaded
        (Write Companion 8 (made_of down))
    falling down d f =
        begins a m (filled_ticked 9) Idle
        (named a m (filled_ticked 9)
        (pointed a m (filled_ticked 9) full_ticked 0 (lit≤ tt) full
        (stored a m full_ticked down d (controlled down)
        (λ c h. control_takes down c h.address (λ o z. rw h.time valid))
        (λ c h. record {
          core = core_loaded_lem c down h.w f ∙ h.time;
          time = time_shown c down h.w f ∙ h.time;
        })
        (arrives a m))))

module _ (a : ℕ) (m : List ℕ) where
  rising : {N : Desk → Type 0} {q : Phase} {es : List ℕ} (p : Phase) (up : ℕ) → up < 256 → has up 0x02 ≡ true
      → Ways a m Open Idle es N q → Ways a m Any p (write_registers 0 (up ∷ []) ++ es) N q
  rising p up u w rest =
      begins a m (λ n c h. h) p
      (named a m (λ n c h. h)
      (pointed a m (λ n c h. h) aimed_ticked 0 (lit≤ tt) (λ c h. refl)
      (written a m aimed_ticked open_ticked up u (controlled up)
      (λ c e. control_takes up c e (λ o z. absurd (false≢true (sym z ∙ w))))
      (λ c e. control_low c.registers.control up ∙ w)
      (ends a m open_ticked (Write Companion 0 0) rest))))

  -- the rest of the third transaction
  closes : (c : Desk) (x k : ℕ) (d : Bool) (n j : ℕ)
      → Goes (on_bus (Write Companion 8 x) a c) m (closing k d n j) (on_bus Idle a (ticked (k + n + j) c))
  unfolding clocked received_at place_at kept
  closes c x k d n j =
      let c₁ = ticked k c in
      let c₂ = ticked n c₁ in
      let e : ticked j c₂ ≡ ticked (k + n + j) c =
      ap (λ (z : Desk). ticked j z) (ticked_add k n c) ∙ ticked_add (k + n) j c in
      subst (λ (z : Desk). Goes (on_bus (Write Companion 8 x) a c) m (closing k d n j) (on_bus Idle a z)) e
      (goes_then (ticks_go a m (Write Companion 8 x) c k)
      (goes_then (of_leads (clock_leads (Write Companion 8 x) a m c₁ d))
      (goes_then (ticks_go a m (Write Companion 0 0) c₁ n)
      (goes_then (of_leads (stop_leads a m c₂ (Write Companion 0 0))) (ticks_go a m Idle c₂ j)))))

pub clock_set_among : ClockSetAmong
clock_set_among s m up down t ns on u d w f v =
    let a = s.address in
    let r = (rising a m s.phase up u w (filling t v a m (falling t v a m down d f))).walk ns s.companion tt in
    let es = spaced 4 ns (set_events up t down) in
    let q : SetToAmong (on_bus s.phase a s.companion) m es t =
    record {
      core = ap (λ (z : State). z.companion.core) r.run.state ∙ r.holds.core;
      shown = ap (λ (z : State). z.companion.registers.time) r.run.state ∙ r.holds.time;
      later = λ k d n j.
          ap (λ (z : State). z.companion) (goes_then r.run (closes a m r.next (made_of down) k d n j)).state
          ∙ sym (ap (λ (z : State). after_ticks z m (k + n + j)) r.run.state
          ∙ after_ticks_lem (Write Companion 8 (made_of down)) a r.next m (k + n + j));
    } in
    subst (λ (z : State). SetToAmong z m es t) (sym (on_bus_lem s on refl)) q
