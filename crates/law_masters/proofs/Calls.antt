-- SPDX-License-Identifier: Apache-2.0
-- Who may do which events: the six standings of holder and caller one by one; the events by their bytes.
use Prim.Native.Nat.{ℕ, zero, suc, ◌≤◌, ◌<◌}
use mathlib.Core.Path.{◌≡◌, refl, ap}
use mathlib.Core.Bool.{true, false, or-true}
use mathlib.Core.List.{List, [], ◌∷◌, ◌++◌}
use native.Mathlib.Omega.{arith}
use lib.Dec.{leb}
use borrow.Author.Tests.{le-leb, lt-leb}
use Rattle.std.specs.Prelude.{Some}
use Rattle.wire.proofs.Tests.{and_join}
use Rattle.fm3130.specs.Event.{happening}
use Rattle.fm3130_image.specs.Image.{decode_of}
use Rattle.fm3130_image.proofs.Images.{settled_decode}
use Rattle.bus_list.specs.Run as list
use Rattle.fm3130_list.specs.Run.{all_known}
use Rattle.masters_hold.specs.Bus.{holds, master_of, holder_of, any_bus, is_bus, may_call, standing_of}
use Rattle.masters_hold.proofs.Known.{standing_known}
use Rattle.masters_hold.proofs.Lists.{bus_byte_lem}
use Rattle.c_masters.specs.Outcome.{CallOutcome}
use Rattle.c_masters.proofs.Ways.{call_not_held, call_ran}
use Rattle.law_masters.specs.Each.{Each, Handed}
use Rattle.law_masters.specs.Calls.{NotHeld, Neither, Holding}

known : (es : List ℕ) → Each (λ e. e ≤ 7) es → all_known es ≡ true
unfolding list.all_known
known [] h = refl
known (e ∷ es) h = and_join (leb e 7) (all_known es) (le-leb e 7 h.0) (known es h.1)

-- events of the bus, and none of them
some_bus : (before after : List ℕ) (e : ℕ) → e ≤ 3 → any_bus (before ++ (e ∷ after)) ≡ true
some_bus [] after e h = rw (bus_byte_lem e, le-leb e 3 h)
some_bus (y ∷ before) after e h = rw (some_bus before after e h) (or-true (is_bus (happening y)))

no_bus : (es : List ℕ) → Each (λ e. 3 < e) es → any_bus es ≡ false
no_bus [] h = refl
no_bus (e ∷ es) h = rw (bus_byte_lem e, lt-leb e 3 h.0) (no_bus es h.1)

-- the holder and the caller by their bytes
apart : (h x : ℕ) → h ≤ 2 → 1 ≤ x → x ≤ 2 → (h ≡ x → ⊥) → holds (holder_of h) (master_of x) ≡ false
apart zero x a b c n = refl
apart (suc zero) (suc zero) a b c n = absurd (n refl)
apart (suc zero) (suc (suc zero)) a b c n = refl
apart (suc zero) zero a b c n = absurd (omega arith)
apart (suc zero) (suc (suc (suc x))) a b c n = absurd (omega arith)
apart (suc (suc zero)) (suc zero) a b c n = refl
apart (suc (suc zero)) (suc (suc zero)) a b c n = absurd (n refl)
apart (suc (suc zero)) zero a b c n = absurd (omega arith)
apart (suc (suc zero)) (suc (suc (suc x))) a b c n = absurd (omega arith)
apart (suc (suc (suc h))) x a b c n = absurd (omega arith)

itself : (x : ℕ) → 1 ≤ x → x ≤ 2 → holds (holder_of x) (master_of x) ≡ true
itself zero b c = absurd (omega arith)
itself (suc zero) b c = refl
itself (suc (suc zero)) b c = refl
itself (suc (suc (suc x))) b c = absurd (omega arith)

-- the standing of both
stands : (h x : ℕ) → h ≤ 2 → 1 ≤ x → x ≤ 2 → standing_of (h ∷ []) x ≡ Some (record { holder = holder_of h; master = master_of x })
stands h x a b c = standing_known (h ∷ []) x refl a b c

-- an image that a state writes
decoded : (i m es : List ℕ) (h : Handed i m es) → decode_of i ≡ Some h.state
decoded i m es h = settled_decode i (Some h.state) h.image

pub not_held_lem : NotHeld
not_held_lem h x i m es a before after e low some top other handed cut bus =
    let may : may_call (holder_of h) (master_of x) es ≡ false =
    rw (apart h x low some top other, cut, some_bus before after e bus) in
    call_not_held (h ∷ []) x i m es a handed.memory handed.state (decoded i m es handed) (holder_of h) (master_of x)
    (stands h x low some top) (known es handed.events) may

pub neither : Neither
neither h x i m es a low some top handed quiet =
    let may : may_call (holder_of h) (master_of x) es ≡ true = rw (no_bus es quiet) (or-true (holds (holder_of h) (master_of x))) in
    ap (λ (o : CallOutcome). o.run)
    (call_ran (h ∷ []) x i m es a handed.memory handed.state (decoded i m es handed) (holder_of h) (master_of x)
    (stands h x low some top) (known es handed.events) may)

pub holding : Holding
holding x i m es a some top handed =
    let may : may_call (holder_of x) (master_of x) es ≡ true = rw (itself x some top) in
    ap (λ (o : CallOutcome). o.run)
    (call_ran (x ∷ []) x i m es a handed.memory handed.state (decoded i m es handed) (holder_of x) (master_of x)
    (stands x x top some top) (known es handed.events) may)
