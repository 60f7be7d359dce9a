-- SPDX-License-Identifier: Apache-2.0
-- Any number of edges, as sums: each is one more, and a sum that rolls over at each step is the sum that rolls over once.
use Prim.Native.Nat.{ℕ, suc, ◌+◌, ◌*◌, ◌/◌, ◌%◌, ◌<◌}
use mathlib.Core.Path.{◌≡◌, ap, ◌∙◌}
use mathlib.Core.Bool.{Bool, true, false}
use mathlib.Core.List.{List, [], ◌∷◌}
use native.Mathlib.Nat.{div-div-eq-div-mul}
use native.Mathlib.Omega.{arith}
use lib.Arith.{mod-mul}
use lib.ListN.{length, replicate}
use Rattle.bits.specs.Weight.{has}
use Rattle.bus.specs.declared.Beat.{Beat}
use Rattle.bus.specs.declared.Beat.TheVariants.{Second, Cnt1, Cnt2}
use Rattle.bus.specs.declared.Power.TheVariants.{Off}
use Rattle.fm31_counters.specs.Edge.{pair_of, count_of, counts_of, next_count, next_pair}
use Rattle.fm31_counters.specs.declared.Count.{Count}
use Rattle.fm31_counters.specs.declared.Counts.{Counts}
use Rattle.fm31_counters.specs.declared.Counters.{Counters}
use Rattle.fm31.specs.Run.{run_of}
use Rattle.fm31.specs.declared.State.{State}
use Rattle.law_family.specs.Seen.{Seen, seen, count_list}
use Rattle.law_family.specs.Beats.{beat_events, ones, twos}
use Rattle.law_family.specs.Edges.{AreBytes, counter, counted, CountedApart, CountedAsOne}
use Rattle.law_family.proofs.Beats.{counted_all, all_count, beats_run}

-- the counters of two numbers, and of one
abbrev apart : ℕ → ℕ → Counts
apart v w = record { one = count_of (v % 65536); two = count_of (w % 65536) }

abbrev whole : ℕ → Counts
whole v = counts_of (v % 4294967296)

one_more_lem : (v : ℕ) → next_count (count_of (v % 65536)) ≡ count_of ((v + 1) % 65536)
unfolding next_count
one_more_lem v =
    let e : (v % 65536 / 256 * 256 + v % 65536 % 256 + 1) % 65536 ≡ (v + 1) % 65536 = omega arith in ap count_of e

-- a number's two bytes make the number
two_bytes : (x : ℕ) → x / 256 * 256 + x % 256 ≡ x
two_bytes x = omega arith

pair_is : (x : ℕ) → pair_of (counts_of x) ≡ x
pair_is x =
    let e : x / 65536 * 65536 + x % 65536 ≡ x = omega arith in rw (two_bytes (x / 65536), two_bytes (x % 65536)) e

pair_more : (v : ℕ) → next_pair (whole v) ≡ whole (v + 1)
unfolding next_pair
pair_more v =
    let e : (v % 4294967296 + 1) % 4294967296 ≡ (v + 1) % 4294967296 = omega arith in
    rw (pair_is (v % 4294967296)) (ap counts_of e)

next_sum : (v k : ℕ) → v + 1 + k ≡ v + suc k
next_sum v k = omega arith

none_more : (v : ℕ) → v ≡ v + 0
none_more v = omega arith

all_apart : (bs : List Beat) (v w : ℕ) → counted_all false bs (apart v w) ≡ apart (v + ones bs) (w + twos bs)
all_apart [] v w = λ i. apart (none_more v i) (none_more w i)
all_apart (Second ∷ bs) v w = all_apart bs v w
all_apart (Cnt1 ∷ bs) v w =
    ap (λ (n : Count). counted_all false bs (record { one = n; two = count_of (w % 65536) })) (one_more_lem v)
    ∙ (all_apart bs (v + 1) w ∙ ap (λ (x : ℕ). apart x (w + twos bs)) (next_sum v (ones bs)))
all_apart (Cnt2 ∷ bs) v w =
    ap (λ (n : Count). counted_all false bs (record { one = count_of (v % 65536); two = n })) (one_more_lem w)
    ∙ (all_apart bs v (w + 1) ∙ ap (λ (x : ℕ). apart (v + ones bs) x) (next_sum w (twos bs)))

all_whole : (bs : List Beat) (v : ℕ) → counted_all true bs (whole v) ≡ whole (v + ones bs)
all_whole [] v = ap whole (none_more v)
all_whole (Second ∷ bs) v = all_whole bs v
all_whole (Cnt1 ∷ bs) v =
    ap (counted_all true bs) (pair_more v) ∙ (all_whole bs (v + 1) ∙ ap whole (next_sum v (ones bs)))
all_whole (Cnt2 ∷ bs) v = all_whole bs v

-- counters that are bytes, by their numbers
count_is : (n : Count) → n.low < 256 → n.high < 256 → n ≡ count_of (counter n % 65536)
count_is n l h =
    let e : (n.low + 256 * n.high) % 65536 ≡ n.low + 256 * n.high = omega arith in
    let low : n.low ≡ (n.low + 256 * n.high) % 256 = omega arith in
    let high : n.high ≡ (n.low + 256 * n.high) / 256 = omega arith in
    rw e (λ i. record { low = low i; high = high i })

apart_is : (n : Counts) → AreBytes n → n ≡ apart (counter n.one) (counter n.two)
apart_is n b =
    let one = count_is n.one b.one_low b.one_high in
    let two = count_is n.two b.two_low b.two_high in
    λ i. record { one = one i; two = two i }

small : (a b : ℕ) → a < 256 → b < 256 → a + 256 * b < 65536
small a b h l = omega arith

low_half : (v w : ℕ) → v < 65536 → w < 65536 → v % 65536 ≡ (v + 65536 * w) % 4294967296 % 65536
low_half v w h l = omega arith

high_half : (v w : ℕ) → v < 65536 → w < 65536 → w % 65536 ≡ (v + 65536 * w) % 4294967296 / 65536
high_half v w h l = omega arith

whole_is : (n : Counts) → AreBytes n → n ≡ whole (counter n.one + 65536 * counter n.two)
whole_is n b =
    let v = counter n.one in
    let w = counter n.two in
    let h = small n.one.low n.one.high b.one_low b.one_high in
    let l = small n.two.low n.two.high b.two_low b.two_high in
    apart_is n b ∙ (λ i. record { one = count_of (low_half v w h l i); two = count_of (high_half v w h l i) })

-- all that is seen, by the companion and by the counters
abbrev seen_with : State → List ℕ → List Beat → Counters → Seen
seen_with s m bs c =
    seen
    (record {
      state = record { bus = s.bus; counters = c };
      memory = m;
      answers = replicate (length bs) 1;
    })

abbrev shown_with : State → List ℕ → List Beat → Counts → Seen
shown_with s m bs n = counted s m bs (count_list n)

module _ (size select : ℕ) (s : State) (m : List ℕ) (bs : List Beat) (on : s.bus.power ≡ Off → ⊥) where
  abbrev before : Counts
  before = s.counters.registers.counts

  beats_seen : (cc : Bool) → has s.counters.registers.counting 0x04 ≡ cc
      → seen (run_of size select s m (beat_events bs)) ≡ shown_with s m bs (counted_all cc bs before)
  beats_seen cc e =
      ap seen (beats_run size select m s bs on)
      ∙ (ap (seen_with s m bs) (all_count bs s.counters) ∙ ap (λ (x : Bool). shown_with s m bs (counted_all x bs before)) e)

pub counted_apart : CountedApart
counted_apart size select s m bs on b e =
    let n = s.counters.registers.counts in
    beats_seen size select s m bs on false e
    ∙ ap (shown_with s m bs)
    (ap (counted_all false bs) (apart_is n b) ∙ all_apart bs (counter n.one) (counter n.two))

-- the bytes of the pair, by the quotients of its number
four_bytes : (v : ℕ)
    → count_list (counts_of v) ≡ v % 256 ∷ v / 256 % 256 ∷ v / 65536 % 256 ∷ v / 16777216 ∷ []
four_bytes v =
    let a : v % 65536 % 256 ≡ v % 256 = omega arith in
    let q : v % 65536 ≡ v / 256 % 256 * 256 + v % 256 = mod-mul v {m = 256} {c = 256} (omega arith) (omega arith) in
    let b : v % 65536 / 256 ≡ v / 256 % 256 = omega (arith, q) in
    let c : v / 65536 / 256 ≡ v / 16777216 = div-div-eq-div-mul v 65536 256 in
    λ i. a i ∷ b i ∷ v / 65536 % 256 ∷ c i ∷ []

pub counted_as_one : CountedAsOne
counted_as_one size select s m bs on b e =
    let n = s.counters.registers.counts in
    let v = counter n.one + 65536 * counter n.two in
    beats_seen size select s m bs on true e
    ∙ (ap (shown_with s m bs) (ap (counted_all true bs) (whole_is n b) ∙ all_whole bs v)
    ∙ ap (counted s m bs) (four_bytes ((v + ones bs) % 4294967296)))
