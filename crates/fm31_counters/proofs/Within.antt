-- SPDX-License-Identifier: Apache-2.0
-- Whatever is done to the companion keeps it within its limits. At each of the sixteen places what a register keeps of
-- a byte fits it.
use Rattle.std.proofs.Common.{◌≡◌, ℕ, ◌+◌, ◌-◌, ◌/◌, ◌%◌, ◌<◌, ◌≤◌, Bool, true, false, cond, ◌&&◌, ◌||◌, eqb, ltb, leb, set, refl, subst, arith, ltb-true, lt-ltb, eq-eqb, eqb-true, le-leb, leb-true}
use mathlib.Core.Bool.{false≢true}
use borrow.Author.Tests.{eqb-false}
use Rattle.bits.specs.Weight.{has, only}
use Rattle.bits.proofs.Cases.{by_cond, Below, none, ◌then◌, below}
use Rattle.fm31_counters.specs.declared.Input.{Input}
use Rattle.fm31_counters.specs.declared.Registers.{Registers}
use Rattle.fm31_counters.specs.declared.Counters.{Counters}
use Rattle.fm31_counters.specs.Part.{Taken}
use Rattle.fm31_counters.specs.Map.{FIRST, TOP, LAST, SERIAL, WTR, POR, LB, SNL}
use Rattle.fm31_counters.specs.Registers.{register_bytes, registers_of, put_at}
use Rattle.fm31_counters.specs.Change.{with_address}
use Rattle.fm31_counters.specs.Write.{kept_at, is_locked, registers_after, written_of}
use Rattle.fm31_counters.specs.Limits.{is_register, registers_within}
use Rattle.fm31_counters.specs.Part.{next_address, stepped_of, released, aim_of, store_of, loaded_of, is_within}
use Rattle.fm31_counters.specs.Part.{edge_of, backed_of, lost_of, returned_of, blank_of}

-- the limits one by one
pub record Fits (r : Registers) : Type 0 where
  pub flags : r.flags / 16 % 2 ≡ 0
  pub watchdog : r.watchdog % 128 < 32
  pub control : r.control % 128 < 32
  pub counting : r.counting < 16

and_split : (s t : Bool) → (s && t) ≡ true → (s ≡ true) × (t ≡ true)
and_split true t h = (refl, h)
and_split false t h = absurd (false≢true h)

pub fits_of : (r : Registers) → registers_within r ≡ true → Fits r
unfolding registers_within
fits_of r e =
    let f = and_split _ (ltb r.counting 16) e in
    let g = and_split _ (ltb (r.control % 128) 32) f.0 in
    let h = and_split (eqb (r.flags / 16 % 2) 0) (ltb (r.watchdog % 128) 32) g.0 in
    record {
      flags = eqb-true _ _ h.0;
      watchdog = ltb-true _ _ h.1;
      control = ltb-true _ _ g.1;
      counting = ltb-true _ _ f.1;
    }

pub of_fits : (r : Registers) → Fits r → registers_within r ≡ true
unfolding registers_within
of_fits r f = rw (eq-eqb _ _ f.flags, lt-ltb _ _ f.watchdog, lt-ltb _ _ f.control, lt-ltb _ _ f.counting)

pub record Within (c : Counters) : Type 0 where
  pub least : 9 ≤ c.address
  pub most : c.address ≤ 24
  pub registers : Fits c.registers

pub within_facts : (c : Counters) → is_within c ≡ true → Within c
unfolding is_within
within_facts c e =
    let f = and_split (is_register c.address) (registers_within c.registers) e in
    let g = and_split (leb FIRST c.address) (leb c.address LAST) f.0 in
    record { least = leb-true _ _ g.0; most = leb-true _ _ g.1; registers = fits_of c.registers f.1 }

pub within_test : (c : Counters) → Within c → is_within c ≡ true
unfolding is_within
within_test c w =
    rw (le-leb FIRST c.address w.least, le-leb c.address LAST w.most, of_fits c.registers w.registers)

-- what 09h keeps has no bit 4
flags_fit : (s t u : Bool) (b : ℕ) → (only s WTR + only t POR + only u LB + b % 16) / 16 % 2 ≡ 0
flags_fit true true true b = omega arith
flags_fit true true false b = omega arith
flags_fit true false true b = omega arith
flags_fit true false false b = omega arith
flags_fit false true true b = omega arith
flags_fit false true false b = omega arith
flags_fit false false true b = omega arith
flags_fit false false false b = omega arith

control_fits : (s : Bool) (b : ℕ) → (only s SNL + b % 32) % 128 < 32
control_fits true b = omega arith
control_fits false b = omega arith

module _ (r : Registers) (b : ℕ) (f : Fits r) where
  -- registers whose first four are those of r
  same : {q : Registers} → q.flags ≡ r.flags → q.watchdog ≡ r.watchdog → q.control ≡ r.control
      → q.counting ≡ r.counting → Fits q
  same e g h k =
      record {
        flags = rw e f.flags;
        watchdog = rw g f.watchdog;
        control = rw h f.control;
        counting = rw k f.counting;
      }

  -- a byte that is kept, at its place
  at : (k : ℕ) → k < 16 → Fits (registers_of (set (register_bytes r) k (kept_at r (k + 9) b)))
  at k l = below (λ k. Fits (registers_of (set (register_bytes r) k (kept_at r (k + 9) b)))) each k l
    where
      each : Below (λ k. Fits (registers_of (set (register_bytes r) k (kept_at r (k + 9) b)))) 16
      each =
          none
          then record {
            flags =
                flags_fit (has r.flags WTR && has b WTR) (has r.flags POR && has b POR)
                (has r.flags LB && has b LB) b;
            watchdog = f.watchdog;
            control = f.control;
            counting = f.counting;
          }
          then record { flags = f.flags; watchdog = omega arith; control = f.control; counting = f.counting }
          then record {
            flags = f.flags;
            watchdog = f.watchdog;
            control = control_fits (has r.control SNL || has b SNL) b;
            counting = f.counting;
          }
          then record { flags = f.flags; watchdog = f.watchdog; control = f.control; counting = omega arith }
          then same refl refl refl refl then same refl refl refl refl
          then same refl refl refl refl then same refl refl refl refl
          then same refl refl refl refl then same refl refl refl refl
          then same refl refl refl refl then same refl refl refl refl
          then same refl refl refl refl then same refl refl refl refl
          then same refl refl refl refl then same refl refl refl refl

  place : (a : ℕ) → 9 ≤ a → a - 9 + 9 ≡ a
  place a l = omega arith

  place_lt : (a : ℕ) → a ≤ 24 → a - 9 < 16
  place_lt a l = omega arith

  put_fits : (a : ℕ) → 9 ≤ a → a ≤ 24 → Fits (put_at r a (kept_at r a b))
  put_fits a l h =
      subst (λ (z : ℕ). Fits (registers_of (set (register_bytes r) (a - 9) (kept_at r z b)))) (place a l)
      (at (a - 9) (place_lt a h))

  after_fits : (a : ℕ) → 9 ≤ a → a ≤ 24 → Fits (registers_after r a b)
  after_fits a l h = by_cond Fits (is_locked r && leb SERIAL a) (λ e. f) (λ e. put_fits a l h)

-- the address
step_least : (a : ℕ) → 9 ≤ a → 9 ≤ next_address a
step_least a l = by_cond (λ (n : ℕ). 9 ≤ n) (eqb a LAST) (λ e. omega arith) (λ e. omega arith)

step_most : (a : ℕ) → a ≤ 24 → next_address a ≤ 24
step_most a h =
    by_cond (λ (n : ℕ). n ≤ 24) (eqb a LAST) (λ e. omega arith) (λ e. let d = eqb-false a LAST e in omega arith)

stepped_within : (c : Counters) → Within c → is_within (stepped_of c) ≡ true
stepped_within c w =
    within_test (stepped_of c)
    (record {
      least = step_least c.address w.least;
      most = step_most c.address w.most;
      registers = w.registers;
    })

pub aim_within : (c : Counters) → is_within c ≡ true → (b : ℕ) → is_within (aim_of c b).companion ≡ true
unfolding aim_of
aim_within c h b =
    let w = within_facts c h in
    by_cond (λ (t : Taken). is_within t.companion ≡ true) (is_register b)
    (λ e. let g = and_split (leb FIRST b) (leb b LAST) e in
    within_test (with_address c b)
    (record { least = leb-true _ _ g.0; most = leb-true _ _ g.1; registers = w.registers }))
    (λ e. h)

pub aim_acknowledged : (c : Counters) (b : ℕ) → (aim_of c b).acknowledged ≡ is_register b
unfolding aim_of
aim_acknowledged c b = by_test (is_register b)
  where
    by_test : (t : Bool)
        → (cond {A = Taken} t (record { companion = with_address c b; acknowledged = true })
        (record { companion = c; acknowledged = false })
        ).acknowledged ≡ t
    by_test true = refl
    by_test false = refl

pub store_within : (c : Counters) → is_within c ≡ true → (b : ℕ) → is_within (store_of c b).companion ≡ true
unfolding store_of written_of
store_within c h b =
    let w = within_facts c h in
    stepped_within (written_of c b)
    (record {
      least = w.least;
      most = w.most;
      registers = after_fits c.registers b w.registers c.address w.least w.most;
    })

pub loaded_within : (c : Counters) → is_within c ≡ true → (b : ℕ) → is_within (loaded_of c b) ≡ true
unfolding loaded_of
loaded_within c h b =
    let w = within_facts c h in
    let f = w.registers in
    by_cond (λ (d : Counters). is_within (stepped_of d) ≡ true) (eqb c.address TOP)
    (λ e. stepped_within (released c)
    (record {
      least = w.least;
      most = w.most;
      registers = record { flags = f.flags; watchdog = f.watchdog; control = f.control; counting = omega arith };
    }))
    (λ e. stepped_within c w)

pub edge_within : (c : Counters) → is_within c ≡ true → (i : Input) → is_within (edge_of c i) ≡ true
unfolding edge_of
edge_within c h i =
    let w = within_facts c h in
    let f = w.registers in
    within_test (edge_of c i)
    (record {
      least = w.least;
      most = w.most;
      registers = record { flags = f.flags; watchdog = f.watchdog; control = f.control; counting = f.counting };
    })

pub backed_within : (c : Counters) → is_within c ≡ true → is_within (backed_of c) ≡ true
backed_within c h =
    within_test (backed_of c)
    (record { least = omega arith; most = omega arith; registers = (within_facts c h).registers })

pub lost_within : (c : Counters) → is_within c ≡ true → is_within (lost_of c) ≡ true
unfolding lost_of
lost_within c h =
    let f = (within_facts c h).registers in
    within_test (lost_of c)
    (record {
      least = omega arith;
      most = omega arith;
      registers = record { flags = refl; watchdog = f.watchdog; control = f.control; counting = omega arith };
    })

pub returned_within : (c : Counters) → is_within c ≡ true → is_within (returned_of c) ≡ true
unfolding returned_of
returned_within c h =
    let w = within_facts c h in
    let f = w.registers in
    let k = f.flags in
    within_test (returned_of c)
    (record {
      least = w.least;
      most = w.most;
      registers = record { flags = omega arith; watchdog = f.watchdog; control = f.control; counting = f.counting };
    })

pub blank_within : is_within blank_of ≡ true
unfolding blank_of lost_of is_within registers_within
blank_within = refl
