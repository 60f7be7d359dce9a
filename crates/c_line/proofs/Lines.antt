-- SPDX-License-Identifier: Apache-2.0
-- The next two lines by the phase: of a byte that comes in, by the clocks done, whether it will be acknowledged, and the
-- line after its acknowledge; of a byte that goes out, by its bits. No event is run.
use Prim.Native.Nat.{ℕ, ◌+◌, ◌*◌, ◌/◌, ◌%◌, ◌≤◌, ◌<◌}
use mathlib.Core.Path.{◌≡◌, refl, sym, ap, ◌∙◌}
use mathlib.Core.Bool.{Bool, true, false, not, cond, ◌&&◌, false≢true}
use mathlib.Core.List.{List}
use native.Mathlib.Omega.{arith}
use lib.Dec.{eqb, leb, ltb}
use lib.ListN.{get_or}
use borrow.Author.Tests.{eq-eqb, ne_eqb, eqb-true, eqb-false, ltb-true, ltb-false}
use Rattle.bits.specs.Weight.{has}
use Rattle.wire.specs.Bits.{pushed, place_at}
use Rattle.wire.specs.Slave.{slave_names, answers, opened}
use Rattle.wire.specs.Clock.{Receiver, received, received_at, kept, Sender, sent, sent_at, more}
use Rattle.wire.specs.Limits.{phase_within}
use Rattle.wire.specs.Kinds.{slave_byte, high_byte, low_byte, memory_byte, memory_read, pointer_byte, companion_byte, companion_read}
use Rattle.wire.specs.Memory.{Cells, lent, pointed, put_byte, refused_byte, is_protected, byte_at, stepped_on}
use Rattle.wire.specs.Machine.{clocked, lined}
use Rattle.wire.specs.declared.Side.{Side}
use Rattle.wire.specs.declared.Side.TheVariants.{Memory, Companion}
use Rattle.wire.specs.declared.Named.{Named}
use Rattle.wire.specs.declared.Named.TheVariants.{Nobody, Reads, Writes}
use Rattle.wire.specs.declared.Phase.{Phase}
use Rattle.wire.specs.declared.Phase.TheVariants.{Idle, Slave, AddressHigh, AddressLow, Pointer, Write, Read}
use Rattle.wire.proofs.Tests.{by_test, and_split}
use Rattle.wire.proofs.Clock.{received_inside, received_last, received_ack, sent_first, sent_within, sent_last, sent_ack}
use Rattle.bus_limits.specs.Limits.{is_idle, power_within}
use Rattle.bus.specs.declared.Power.{Power}
use Rattle.bus.specs.declared.Power.TheVariants.{On, Backup, Off}
use Rattle.fm3130_registers.specs.Map.{W}
use Rattle.fm3130_companion.specs.Part.{aim_of, loads_bad_date, store_of, load_of, loaded_of, guard_of, is_within}
use Rattle.fm3130_companion.specs.declared.Companion as C
use Rattle.fm3130.specs.Desk.{aims, stores}
use Rattle.fm3130.specs.Chip.{memory_size, fm3130, Done}
use Rattle.fm3130.specs.Event.{happening, event_on, event_of}
use Rattle.fm3130.specs.Limits.{is_legal, well_formed}
use Rattle.fm3130.specs.declared.State.{State}
use Rattle.bus_image.specs.Layout.{phase_of}
use Rattle.fm3130_image.specs.Code.Accepting.{is_image}
use Rattle.fm3130_image.specs.Image.{companion_at, candidate}
use Rattle.fm3130_list.specs.Run.{answer_to}
use Rattle.c_line.specs.Line.{Pulls, pulls, pulls_of}
use Rattle.c_line.specs.Code.Line.{pulled_at, pulls_at, pulls_with, taken_pulls, fetched_of, low_bit}
use Rattle.c_line.specs.Code.Line.{opened_low, sent_pulls}
use Rattle.fm3130_image.proofs.Accepts.{image_well}

-- bit 0 of an answer is the line
low_bit_lem : (n : ℕ) (l : Bool) → eqb ((2 * n + cond l 1 0) % 2) 0 ≡ not l
low_bit_lem n true = ne_eqb ((2 * n + 1) % 2) 0 (λ e. omega arith)
low_bit_lem n false = eq-eqb ((2 * n + 0) % 2) 0 (omega arith)

pub pulled_line : (d : Done) → eqb (answer_to d % 2) 0 ≡ not d.line
pulled_line d = low_bit_lem _ d.line

-- on main power the two lines are those of the machine's Clock
pulls_on : (p : Phase) (a : ℕ) (c : C.Companion) (m : List ℕ)
    → pulls (record { power = On; phase = p; address = a; companion = c }) m ≡ pulled_at p (lent m a) c
unfolding pulls pulled_at event_on happening lined
pulls_on p a c m = pulled_line (event_of (record { power = On; phase = p; address = a; companion = c }) m 3)

pulls_both : (p : Phase) (a : ℕ) (c : C.Companion) (m : List ℕ)
    → pulls_of (record { power = On; phase = p; address = a; companion = c }) m ≡ pulls_at p (lent m a) c
unfolding event_on happening lined
pulls_both p a c m =
    let o = clocked fm3130 p (lent m a) c in
    λ k. record {
      next = pulls_on p a c m k;
      low =
          pulls_on (o false).state.phase (o false).state.memory.address (o false).state.companion
          (o false).state.memory.bytes k;
      high =
          pulls_on (o true).state.phase (o true).state.memory.address (o true).state.companion
          (o true).state.memory.bytes k;
    }

-- outside a transfer, and without main power, no line is pulled
idle_pulls : (m : Cells) (c : C.Companion) → pulls_at Idle m c ≡ pulls_with false false false
unfolding pulled_at clocked
idle_pulls m c = refl

pub idle_at : (p : Phase) (m : Cells) (c : C.Companion) → p ≡ Idle → pulls_at p m c ≡ pulls_with false false false
idle_at p m c e = rw e (idle_pulls m c)

backup_pulls : (p : Phase) (a : ℕ) (c : C.Companion) (m : List ℕ)
    → pulls_of (record { power = Backup; phase = p; address = a; companion = c }) m ≡ pulls_with false false false
unfolding pulls event_on happening
backup_pulls p a c m =
    let z = pulled_line (event_of (record { power = Backup; phase = p; address = a; companion = c }) m 3) in
    λ k. record { next = z k; low = z k; high = z k }

off_pulls : (p : Phase) (a : ℕ) (c : C.Companion) (m : List ℕ)
    → pulls_of (record { power = Off; phase = p; address = a; companion = c }) m ≡ pulls_with false false false
unfolding pulls event_on happening
off_pulls p a c m =
    let z = pulled_line (event_of (record { power = Off; phase = p; address = a; companion = c }) m 3) in
    λ k. record { next = z k; low = z k; high = z k }

only_idle : (p : Phase) → is_idle p ≡ true → p ≡ Idle
only_idle Idle h = refl
only_idle (Slave k b) h = absurd (false≢true h)
only_idle (AddressHigh k b) h = absurd (false≢true h)
only_idle (AddressLow u k b) h = absurd (false≢true h)
only_idle (Pointer k b) h = absurd (false≢true h)
only_idle (Write s k b) h = absurd (false≢true h)
only_idle (Read s k b) h = absurd (false≢true h)

by_power : (w : Power) (p : Phase) (a : ℕ) (c : C.Companion) (m : List ℕ) → power_within w p ≡ true
    → pulls_of (record { power = w; phase = p; address = a; companion = c }) m ≡ pulls_at p (lent m a) c
unfolding power_within
by_power On p a c m h = pulls_both p a c m
by_power Backup p a c m h = backup_pulls p a c m ∙ sym (idle_at _ _ _ (only_idle p h))
by_power Off p a c m h = off_pulls p a c m ∙ sym (idle_at _ _ _ (only_idle p h))

pub pulls_by_phase : (s : State) (m : List ℕ) → well_formed s ≡ true
    → pulls_of s m ≡ pulls_at s.phase (lent m s.address) s.companion
unfolding well_formed
pulls_by_phase s m h = by_power s.power s.phase s.address s.companion m (and_split
    (ltb s.address memory_size && is_within s.companion && phase_within slave_names is_legal s.phase)
    (power_within s.power s.phase) h).1

-- a byte that comes in, whatever it is handed; P is whether the device pulls a line, by the phase and what is handed over
module _ {A : Type 0} (R : Receiver A) (P : Phase → A → Bool)
    (here : (k b : ℕ) (x : A) → P (R.here k b) x ≡ not (received R x k b true).line)
    (idle : (x : A) → P Idle x ≡ false) where
  quiet : (k b : ℕ) (x : A) → k < 8 → P (R.here k b) x ≡ false
  quiet k b x h = by_test (eqb k 7)
      (λ t. here k b x ∙ rw (received_last R x k b true (eqb-true k 7 t)))
      (λ t. let n = eqb-false k 7 t in here k b x ∙ rw (received_inside R x k b true (omega arith)))

  loud : (k b : ℕ) (x : A) → 7 ≤ k → (k ≡ 7 → ⊥) → P (R.here k b) x ≡ true
  loud k b x h n = here k b x ∙ rw (received_ack R x k b true h n)

  kept_pulled : (g : Bool) (b : ℕ) (x : A) → P (kept g (R.here 8 b)) x ≡ g
  unfolding kept
  kept_pulled true b x = loud 8 b x (omega arith) (λ e. omega arith)
  kept_pulled false b x = idle x

  abbrev receives : A → ℕ → ℕ → Pulls
  receives a k b =
      record {
        next = P (R.here k b) a;
        low = P (received R a k b false).phase (received R a k b false).part;
        high = P (received R a k b true).phase (received R a k b true).part;
      }

  receiving : (a : A) (k b : ℕ)
      → receives a k b
      ≡ taken_pulls k (R.take a (pushed b false)).good (R.take a (pushed b true)).good (P (R.after b) a)
  unfolding taken_pulls
  receiving a k b = by_test (ltb k 7)
      (λ t.
      let h = ltb-true k 7 t in
      rw (
        t,
        received_inside R a k b false h,
        received_inside R a k b true h,
        quiet k b a (omega arith),
        quiet (k + 1) (pushed b false) a (omega arith),
        quiet (k + 1) (pushed b true) a (omega arith),
      ))
      (λ t.
      let h = ltb-false k 7 t in
      by_test (eqb k 7)
      (λ u.
      let e = eqb-true k 7 u in
      rw (
        t,
        u,
        received_last R a k b false e,
        received_last R a k b true e,
        quiet k b a (omega arith),
        kept_pulled (R.take a (pushed b false)).good (pushed b false) (R.take a (pushed b false)).next,
        kept_pulled (R.take a (pushed b true)).good (pushed b true) (R.take a (pushed b true)).next,
      ))
      (λ u.
      let n = eqb-false k 7 u in
      rw (t, u, received_ack R a k b false h n, received_ack R a k b true h n, loud k b a h n)))

-- a byte that goes out
module _ {A : Type 0} (S : Sender A) (P : Phase → A → Bool)
    (here : (k b : ℕ) (x : A) → P (S.here k b) x ≡ not (sent S x k b true).line)
    (idle : (x : A) → P Idle x ≡ false) where
  first_low : (k b : ℕ) (x : A) → k ≡ 0 → P (S.here k b) x ≡ low_bit 0 (S.fetch x)
  first_low k b x e = here k b x ∙ rw (sent_first S x k b true e)

  shown_low : (k b : ℕ) (x : A) → (k ≡ 0 → ⊥) → k < 8 → P (S.here k b) x ≡ low_bit k b
  shown_low k b x z h = by_test (eqb k 7)
      (λ t. here k b x ∙ rw (sent_last S x k b true (eqb-true k 7 t), eqb-true k 7 t))
      (λ t. let n = eqb-false k 7 t in here k b x ∙ rw (sent_within S x k b true z (omega arith)))

  done_high : (k b : ℕ) (x : A) → 7 ≤ k → (k ≡ 7 → ⊥) → P (S.here k b) x ≡ false
  done_high k b x h n = here k b x ∙ rw (sent_ack S x k b true h n)

  abbrev sends : A → ℕ → ℕ → Pulls
  sends a k b =
      record {
        next = P (S.here k b) a;
        low = P (sent S a k b false).phase (sent S a k b false).part;
        high = P (sent S a k b true).phase (sent S a k b true).part;
      }

  sending : (a : A) (k b : ℕ) → sends a k b ≡ sent_pulls k b (S.fetch a)
  unfolding sent_pulls more
  sending a k b = by_test (ltb 7 k)
      (λ t.
      let h = ltb-true 7 k t in
      let n : k ≡ 7 → ⊥ = λ e. omega arith in
      let l : 7 ≤ k = omega arith in
      rw (
        t,
        sent_ack S a k b false l n,
        sent_ack S a k b true l n,
        done_high k b a l n,
        first_low 0 0 a refl,
        idle a,
      ))
      (λ t.
      let h = ltb-false 7 k t in
      by_test (eqb k 7)
      (λ u.
      let e = eqb-true k 7 u in
      rw (
        t,
        u,
        sent_last S a k b false e,
        sent_last S a k b true e,
        shown_low k b a (λ z. omega arith) (omega arith),
        done_high 8 b (S.done a b) (omega arith) (λ z. omega arith),
      ))
      (λ u.
      let n = eqb-false k 7 u in
      by_test (eqb k 0)
      (λ v.
      let z = eqb-true k 0 v in
      rw (
        t,
        u,
        v,
        sent_first S a k b false z,
        sent_first S a k b true z,
        first_low k b a z,
        shown_low 1 (S.fetch a) a (λ w. omega arith) (omega arith),
        z,
      ))
      (λ v.
      let z = eqb-false k 0 v in
      let l : k < 7 = omega arith in
      rw (
        t,
        u,
        v,
        sent_within S a k b false z l,
        sent_within S a k b true z l,
        shown_low k b a z (omega arith),
        shown_low (k + 1) b a (λ w. omega arith) (omega arith),
      ))))

-- each phase
module _ (m : Cells) (c : C.Companion) where
  abbrev by_unit : Phase → Unit {0} → Bool
  by_unit p x = pulled_at p m c

  abbrev by_cells : Phase → Cells → Bool
  by_cells p x = pulled_at p x c

  abbrev by_desk : Phase → C.Companion → Bool
  by_desk p x = pulled_at p m x

  opened_low_lem : (n : Named) → pulled_at (opened n) m c ≡ opened_low n m c
  unfolding pulled_at clocked opened opened_low fetched_of place_at sent_at received_at
  opened_low_lem Nobody = refl
  opened_low_lem (Reads Memory) = refl
  opened_low_lem (Reads Companion) = refl
  opened_low_lem (Writes Memory) = refl
  opened_low_lem (Writes Companion) = refl

  pub slave_pulls : (k b : ℕ)
      → pulls_at (Slave k b) m c
      ≡ taken_pulls k (answers (slave_names (pushed b false))) (answers (slave_names (pushed b true)))
      (opened_low (slave_names b) m c)
  unfolding pulled_at clocked
  slave_pulls k b =
      receiving (slave_byte slave_names) by_unit (λ j d x. refl) (λ x. refl) tt k b
      ∙ ap (taken_pulls k (answers (slave_names (pushed b false))) (answers (slave_names (pushed b true))))
      (opened_low_lem (slave_names b))

  pub high_pulls : (k b : ℕ) → pulls_at (AddressHigh k b) m c ≡ taken_pulls k true true false
  unfolding pulled_at clocked place_at received_at
  high_pulls k b = receiving high_byte by_unit (λ j d x. refl) (λ x. refl) tt k b

  pub low_pulls : (h k b : ℕ) → pulls_at (AddressLow h k b) m c ≡ taken_pulls k true true false
  unfolding pulled_at clocked place_at received_at
  low_pulls h k b = receiving (low_byte (pointed memory_size) h) by_cells (λ j d x. refl) (λ x. refl) m k b

  aimed : (b : ℕ) → (aims c b).good ≡ leb b 14
  unfolding aim_of
  aimed b = by_test (leb b 14) (λ t. rw t) (λ t. rw t)

  pub pointer_pulls : (k b : ℕ)
      → pulls_at (Pointer k b) m c ≡ taken_pulls k (leb (pushed b false) 14) (leb (pushed b true) 14) false
  unfolding pulled_at clocked place_at received_at
  pointer_pulls k b =
      receiving (pointer_byte aims) by_desk (λ j d x. refl) (λ x. refl) c k b
      ∙ rw (aimed (pushed b false), aimed (pushed b true))

  put_good : (wp b : ℕ) → (put_byte memory_size wp m b).good ≡ not (is_protected memory_size wp m.address)
  unfolding put_byte refused_byte
  put_good wp b = by_test (is_protected memory_size wp m.address) (λ t. rw t) (λ t. rw t)

  pub put_pulls : (k b : ℕ)
      → pulls_at (Write Memory k b) m c
      ≡ taken_pulls k (not (is_protected memory_size (guard_of c) m.address))
      (not (is_protected memory_size (guard_of c) m.address)) false
  unfolding pulled_at clocked place_at received_at
  put_pulls k b =
      receiving (memory_byte (put_byte memory_size (guard_of c))) by_cells (λ j d x. refl) (λ x. refl) m k b
      ∙ rw (put_good (guard_of c) (pushed b false), put_good (guard_of c) (pushed b true))

  store_good : (b : ℕ) → (stores c b).good ≡ not (loads_bad_date c b)
  unfolding store_of
  store_good b = by_test (loads_bad_date c b) (λ t. rw t) (λ t. rw t)

  pub store_pulls : (k b : ℕ)
      → pulls_at (Write Companion k b) m c
      ≡ taken_pulls k (not (loads_bad_date c (pushed b false))) (not (loads_bad_date c (pushed b true))) false
  unfolding pulled_at clocked place_at received_at
  store_pulls k b =
      receiving (companion_byte stores) by_desk (λ j d x. refl) (λ x. refl) c k b
      ∙ rw (store_good (pushed b false), store_good (pushed b true))

  pub read_pulls : (s : Side) (k b : ℕ) → pulls_at (Read s k b) m c ≡ sent_pulls k b (fetched_of s m c)
  unfolding pulled_at clocked fetched_of
  read_pulls Memory k b =
      sending (memory_read byte_at (stepped_on memory_size)) by_cells (λ j d x. refl) (λ x. refl) m k b
  read_pulls Companion k b =
      sending (companion_read load_of loaded_of) by_desk (λ j d x. refl) (λ x. refl) c k b

-- W lies above the bit that comes last
w_pushed : (b : ℕ) → has (pushed b true) W ≡ has (pushed b false) W
unfolding pushed
w_pushed b = rw (odd (b % 128), even (b % 128)) where
  odd : (x : ℕ) → (x * 2 + 1) / 2 ≡ x
  odd x = omega arith

  even : (x : ℕ) → x * 2 / 2 ≡ x
  even x = omega arith

pub last_bit : (c : C.Companion) (b : ℕ) → loads_bad_date c (pushed b true) ≡ loads_bad_date c (pushed b false)
last_bit c b = rw (w_pushed b)

-- the two lines of an accepted image, by the phase that it holds
pub line_at_lem : (i m : List ℕ) (p : Phase) → is_image i ≡ true
    → phase_of (get_or i 26 0) (get_or i 27 0) (get_or i 28 0) (get_or i 29 0) ≡ p
    → pulls_of (candidate i) m ≡ pulls_at p (lent m (get_or i 23 0 * 256 + get_or i 24 0)) (companion_at i)
unfolding candidate
line_at_lem i m p h e = pulls_by_phase (candidate i) m (image_well i h) ∙ rw e
