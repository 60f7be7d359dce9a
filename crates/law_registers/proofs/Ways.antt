-- SPDX-License-Identifier: Apache-2.0
-- Events with ticks before each of them: what stays true of a companion while ticks come, and what each event makes of it. A
-- way is built from its end, one event or one whole byte more at a time.
use Prim.Native.Nat.{ℕ, ◌+◌, ◌≤◌, ◌<◌}
use mathlib.Core.Path.{◌≡◌, refl, ap, subst}
use mathlib.Core.Bool.{Bool, true, false}
use mathlib.Core.List.{List, [], ◌∷◌, ◌++◌}
use native.Mathlib.Omega.{arith}
use lib.Dec.{lit≤}
use borrow.Author.Tests.{le-leb}
use Rattle.wire.specs.Bits.{place_at, pushed, sent_bit}
use Rattle.wire.specs.Slave.{slave_names, answers, opened}
use Rattle.wire.specs.Clock.{kept, received_at}
use Rattle.wire.specs.Kinds.{pointer_byte, companion_byte}
use Rattle.wire.specs.Machine.{clocked}
use Rattle.wire.specs.declared.Side.TheVariants.{Companion}
use Rattle.wire.specs.declared.Phase.{Phase}
use Rattle.wire.specs.declared.Phase.TheVariants.{Idle, Slave, Pointer, Write, Read}
use Rattle.wire.proofs.Clock.{received_inside}
use Rattle.wire.proofs.Whole.{made_of, made}
use Rattle.fm3130_companion.specs.Change.{with_address}
use Rattle.fm3130_companion.specs.Part.{aim_of, store_of}
use Rattle.fm3130_companion.specs.Part.{Taken}
use Rattle.fm3130.specs.Desk.{aims, stores}
use Rattle.wire_clocks.specs.Clocks.{clock_event, eight_clocks, nine_clocks}
use Rattle.law_transfers.proofs.Runs.{Leads, start_leads}
use Rattle.law_transfers.proofs.Written.{on_bus}
use Rattle.law_registers.specs.Ticks.{spaced}
use Rattle.law_registers.proofs.Ticks.{ticked, stays}
use Rattle.law_registers.proofs.Clocking.{Desk, clock_leads}
use Rattle.law_registers.proofs.Storing.{stop_leads}
use Rattle.law_registers.proofs.Going.{Goes, of_leads, goes_then, ticks_go}

-- what holds of a companion stays while ticks come
abbrev pub Closed : (Desk → Type 0) → Type 0
Closed K = (n : ℕ) (c : Desk) → K c → K (ticked n c)

-- the bits of a byte that seven clocks bring
abbrev pub seven_of : ℕ → ℕ
seven_of b =
    pushed (pushed (pushed (pushed (pushed (pushed (pushed 0 (sent_bit 0 b)) (sent_bit 1 b)) (sent_bit 2 b)) (sent_bit 3 b))
    (sent_bit 4 b)) (sent_bit 5 b)) (sent_bit 6 b)

module _ (a : ℕ) (m : List ℕ) where
  -- the eighth clock of a byte that is acknowledged: of the address, of a data byte
  aim_eighth : (k : Desk) (x b : ℕ) → (aim_of k (pushed x (sent_bit 7 b))).acknowledged ≡ true
      → Leads (on_bus (Pointer 7 x) a k) m (clock_event (sent_bit 7 b) ∷ [])
      (on_bus (Pointer 8 (pushed x (sent_bit 7 b))) a (aim_of k (pushed x (sent_bit 7 b))).companion) m (sent_bit 7 b ∷ [])
  unfolding clocked received_at place_at kept
  aim_eighth k x b e = rw e at (clock_leads (Pointer 7 x) a m k (sent_bit 7 b))

  pub store_eighth : (k : Desk) (x b : ℕ) → (store_of k (pushed x (sent_bit 7 b))).acknowledged ≡ true
      → Leads (on_bus (Write Companion 7 x) a k) m (clock_event (sent_bit 7 b) ∷ [])
      (on_bus (Write Companion 8 (pushed x (sent_bit 7 b))) a (store_of k (pushed x (sent_bit 7 b))).companion) m
      (sent_bit 7 b ∷ [])
  unfolding clocked received_at place_at kept
  store_eighth k x b e = rw e at (clock_leads (Write Companion 7 x) a m k (sent_bit 7 b))

  -- one of the first seven clocks of a byte for the companion: of the address, of a data byte
  abbrev Inside : (ℕ → ℕ → Phase) → Type 0
  Inside p =
      (k x : ℕ) (d : Bool) (c : Desk) → k < 7
      → Goes (on_bus (p k x) a c) m (clock_event d ∷ []) (on_bus (p (k + 1) (pushed x d)) a c)

  aim_inside : Inside Pointer
  unfolding clocked
  aim_inside k x d c h = of_leads (rw (received_inside (pointer_byte aims) c k x d h) at (clock_leads (Pointer k x) a m c d))

  store_inside : Inside (Write Companion)
  unfolding clocked
  store_inside k x d c h =
      of_leads (rw (received_inside (companion_byte stores) c k x d h) at (clock_leads (Write Companion k x) a m c d))

  -- where events lead, with ticks before them
  pub record Arrived (p : Phase) (c : Desk) (es : List ℕ) (q : Phase) (N : Desk → Type 0) : Type 0 where
    pub next : Desk
    pub holds : N next
    pub run : Goes (on_bus p a c) m es (on_bus q a next)

  -- from any companion of which K holds to one of which N does, whatever the counts of ticks
  pub record Ways (K : Desk → Type 0) (p : Phase) (es : List ℕ) (N : Desk → Type 0) (q : Phase) : Type 0 where
    pub walk : (ns : List ℕ) (c : Desk) → K c → Arrived p c (spaced 4 ns es) q N

  pub arrives : {K : Desk → Type 0} {p : Phase} → Ways K p [] K p
  arrives {K} {p = p} = record { walk = λ ns c h. here ns c h }
    where
      here : (ns : List ℕ) (c : Desk) → K c → Arrived p c (spaced 4 ns []) p K
      here [] c h = record { next = c; holds = h; run = of_leads (stays (on_bus p a c) m) }
      here (n ∷ ns) c h = record { next = c; holds = h; run = of_leads (stays (on_bus p a c) m) }

  -- an event more
  goes_on : {K L N : Desk → Type 0} {p p' q : Phase} {e : ℕ} {es : List ℕ} → Closed K → (f : Desk → Desk)
      → ((c : Desk) → K c → Goes (on_bus p a c) m (e ∷ []) (on_bus p' a (f c))) → ((c : Desk) → K c → L (f c))
      → Ways L p' es N q → Ways K p (e ∷ es) N q
  goes_on {K} {N = N} {p = p} {q = q} {e = e} {es = es} closed f one keeps rest = record { walk = on }
    where
      on : (ns : List ℕ) (c : Desk) → K c → Arrived p c (spaced 4 ns (e ∷ es)) q N
      on [] c h =
          let r = rest.walk [] (f c) (keeps c h) in
          record { next = r.next; holds = r.holds; run = goes_then (one c h) r.run }
      on (n ∷ ns) c h =
          let k = ticked n c in
          let still = closed n c h in
          let r = rest.walk ns (f k) (keeps k still) in
          record {
            next = r.next;
            holds = r.holds;
            run = goes_then (ticks_go a m p c n) (goes_then (one k still) r.run);
          }

  -- one that leaves the companion
  quiet : {K N : Desk → Type 0} {p p' q : Phase} {e : ℕ} {es : List ℕ} → Closed K
      → ((c : Desk) → Goes (on_bus p a c) m (e ∷ []) (on_bus p' a c)) → Ways K p' es N q → Ways K p (e ∷ es) N q
  quiet closed one rest = goes_on closed (λ c. c) (λ c h. one c) (λ c h. h) rest

  module _ {K N : Desk → Type 0} {q : Phase} {es : List ℕ} (closed : Closed K) where
    -- a Start, and a Stop
    pub begins : (p : Phase) → Ways K (Slave 0 0) es N q → Ways K p (0 ∷ es) N q
    begins p rest = quiet closed (λ c. of_leads (start_leads (on_bus p a c) m refl)) rest

    pub ends : (p : Phase) → Ways K Idle es N q → Ways K p (1 ∷ es) N q
    ends p rest = quiet closed (λ c. of_leads (stop_leads a m c p)) rest

    -- the slave byte of a write, and of a read
    pub named : Ways K (Pointer 0 0) es N q → Ways K (Slave 0 0) (nine_clocks 0xD0 true ++ es) N q
    unfolding clocked received_at place_at kept pushed sent_bit slave_names answers opened
    named rest =
        quiet closed (λ c. of_leads (clock_leads (Slave 0 0) a m c true))
        (quiet closed (λ c. of_leads (clock_leads (Slave 1 1) a m c true))
        (quiet closed (λ c. of_leads (clock_leads (Slave 2 3) a m c false))
        (quiet closed (λ c. of_leads (clock_leads (Slave 3 6) a m c true))
        (quiet closed (λ c. of_leads (clock_leads (Slave 4 13) a m c false))
        (quiet closed (λ c. of_leads (clock_leads (Slave 5 26) a m c false))
        (quiet closed (λ c. of_leads (clock_leads (Slave 6 52) a m c false))
        (quiet closed (λ c. of_leads (clock_leads (Slave 7 104) a m c false))
        (quiet closed (λ c. of_leads (clock_leads (Slave 8 208) a m c true)) rest))))))))

    pub named_to_read : Ways K (Read Companion 0 0) es N q → Ways K (Slave 0 0) (nine_clocks 0xD1 true ++ es) N q
    unfolding clocked received_at place_at kept pushed sent_bit slave_names answers opened
    named_to_read rest =
        quiet closed (λ c. of_leads (clock_leads (Slave 0 0) a m c true))
        (quiet closed (λ c. of_leads (clock_leads (Slave 1 1) a m c true))
        (quiet closed (λ c. of_leads (clock_leads (Slave 2 3) a m c false))
        (quiet closed (λ c. of_leads (clock_leads (Slave 3 6) a m c true))
        (quiet closed (λ c. of_leads (clock_leads (Slave 4 13) a m c false))
        (quiet closed (λ c. of_leads (clock_leads (Slave 5 26) a m c false))
        (quiet closed (λ c. of_leads (clock_leads (Slave 6 52) a m c false))
        (quiet closed (λ c. of_leads (clock_leads (Slave 7 104) a m c true))
        (quiet closed (λ c. of_leads (clock_leads (Slave 8 209) a m c true)) rest))))))))

    -- the first seven clocks of such a byte
    seven : (p : ℕ → ℕ → Phase) → Inside p → (b : ℕ) → Ways K (p 7 (seven_of b)) es N q
        → Ways K (p 0 0)
        (clock_event (sent_bit 0 b) ∷ clock_event (sent_bit 1 b) ∷ clock_event (sent_bit 2 b) ∷ clock_event (sent_bit 3 b)
        ∷ clock_event (sent_bit 4 b) ∷ clock_event (sent_bit 5 b) ∷ clock_event (sent_bit 6 b) ∷ es) N q
    seven p one b rest =
        quiet closed (λ c. one 0 _ (sent_bit 0 b) c (lit≤ tt))
        (quiet closed (λ c. one 1 _ (sent_bit 1 b) c (lit≤ tt))
        (quiet closed (λ c. one 2 _ (sent_bit 2 b) c (lit≤ tt))
        (quiet closed (λ c. one 3 _ (sent_bit 3 b) c (lit≤ tt))
        (quiet closed (λ c. one 4 _ (sent_bit 4 b) c (lit≤ tt))
        (quiet closed (λ c. one 5 _ (sent_bit 5 b) c (lit≤ tt))
        (quiet closed (λ c. one 6 _ (sent_bit 6 b) c (lit≤ tt)) rest))))))

  module _ {K L N : Desk → Type 0} {q : Phase} {es : List ℕ} (closed : Closed K) (x : ℕ) (small : x < 256) where
    -- the eight clocks of a data byte that the companion takes so
    module _ (f : Desk → Desk)
        (takes : (c : Desk) → K c → store_of c x ≡ record { companion = f c; acknowledged = true })
        (keeps : (c : Desk) → K c → L (f c)) where
      pub stored : Ways L (Write Companion 8 (made_of x)) es N q → Ways K (Write Companion 0 0) (eight_clocks x ++ es) N q
      stored rest =
          seven closed (Write Companion) store_inside x
          (goes_on closed f (λ c h. of_leads (last c h)) keeps rest)
        where
          last : (c : Desk) → K c
              → Leads (on_bus (Write Companion 7 (seven_of x)) a c) m (clock_event (sent_bit 7 x) ∷ [])
              (on_bus (Write Companion 8 (made_of x)) a (f c)) m (sent_bit 7 x ∷ [])
          last c h =
              let e : store_of c (made_of x) ≡ record { companion = f c; acknowledged = true } = rw (made x small) (takes c h) in
              subst (λ (t : Taken). Leads (on_bus (Write Companion 7 (seven_of x)) a c) m (clock_event (sent_bit 7 x) ∷ [])
              (on_bus (Write Companion 8 (made_of x)) a t.companion) m (sent_bit 7 x ∷ [])) e
              (store_eighth c (seven_of x) x (ap (λ (t : Taken). t.acknowledged) e))

  -- all nine
  pub written : {K L N : Desk → Type 0} {q : Phase} {es : List ℕ} → Closed K → Closed L → (x : ℕ) → x < 256 → (f : Desk → Desk)
      → ((c : Desk) → K c → store_of c x ≡ record { companion = f c; acknowledged = true }) → ((c : Desk) → K c → L (f c))
      → Ways L (Write Companion 0 0) es N q → Ways K (Write Companion 0 0) (nine_clocks x true ++ es) N q
  unfolding clocked received_at place_at kept
  written closed on x small f takes keeps rest =
      stored closed x small f takes keeps
      (quiet on (λ c. of_leads (clock_leads (Write Companion 8 (made_of x)) a m c true)) rest)

  -- the address byte
  pub pointed : {K L N : Desk → Type 0} {q : Phase} {es : List ℕ} → Closed K → Closed L → (x : ℕ) → x ≤ 14
      → ((c : Desk) → K c → L (with_address c x))
      → Ways L (Write Companion 0 0) es N q → Ways K (Pointer 0 0) (nine_clocks x true ++ es) N q
  unfolding clocked received_at place_at kept aim_of
  pointed closed on x low keeps rest =
      seven closed Pointer aim_inside x
      (goes_on closed (λ c. with_address c x) (λ c h. of_leads (last c)) keeps
      (quiet on (λ c. of_leads (clock_leads (Pointer 8 (made_of x)) a m c true)) rest))
    where
      taken : (c : Desk) → aim_of c (made_of x) ≡ record { companion = with_address c x; acknowledged = true }
      taken c = rw (made x (omega arith), le-leb x 14 low)

      last : (c : Desk)
          → Leads (on_bus (Pointer 7 (seven_of x)) a c) m (clock_event (sent_bit 7 x) ∷ [])
          (on_bus (Pointer 8 (made_of x)) a (with_address c x)) m (sent_bit 7 x ∷ [])
      last c =
          subst (λ (t : Taken). Leads (on_bus (Pointer 7 (seven_of x)) a c) m (clock_event (sent_bit 7 x) ∷ [])
          (on_bus (Pointer 8 (made_of x)) a t.companion) m (sent_bit 7 x ∷ [])) (taken c)
          (aim_eighth c (seven_of x) x (ap (λ (t : Taken). t.acknowledged) (taken c)))
