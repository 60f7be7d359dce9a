-- SPDX-License-Identifier: Apache-2.0
-- The entries' words, call by call.
use Prim.Native.Nat.{ℕ}
use mathlib.Core.Path.{◌≡◌, ap, ◌∙◌}
use mathlib.Core.List.{List}
use Rattle.pins_levels.specs.Look.{Readings, stayed, look_of, driven_of, hand_of}
use Rattle.pins_levels.specs.Packed.{packed, unpacked, levels_of}
use Rattle.pins_levels.specs.declared.Seen.{Seen}
use Rattle.pins_levels.specs.declared.Token.{Token}
use Rattle.pins_levels.specs.declared.Due.{Due}
use Rattle.c_pins.specs.Entry.{Outcome, outcome, begin_of, settle_of, eighth_in}
use Rattle.c_pins.specs.Session.{on_token}
use Rattle.c_pins.specs.Words.{event_of_word, DueSettled}

pub begin_word_lem : (i m : List ℕ) (n : ℕ) (v : Seen) (t : Token) (d : Due) (r : ℕ) → v ≡ levels_of n → t ≡ begin_of i m v
    → d ≡ stayed t → r ≡ packed d → r ≡ packed (stayed (begin_of i m (levels_of n)))
begin_word_lem i m n v t d r a b c e =
    e ∙ ap packed (c ∙ ap stayed (b ∙ ap (begin_of i m) a))

pub look_word_lem : (w n : ℕ) (u : Due) (v : Seen) (d : Due) (r : ℕ) → u ≡ unpacked w → v ≡ levels_of n
    → d ≡ look_of u.token v → r ≡ packed d → r ≡ packed (look_of (unpacked w).token (levels_of n))
look_word_lem w n u v d r a b c e =
    e ∙ ap packed (c ∙ ap (λ (x : Due). look_of x.token v) a ∙ ap (look_of (unpacked w).token) b)

pub driven_word_lem : (b w : ℕ) (x u : Due) (c : Readings) (t : Token) (r : ℕ) → x ≡ unpacked b → u ≡ unpacked w
    → t ≡ driven_of x.token.pulling u.token c → r ≡ packed (on_token t u)
    → r ≡ packed (on_token (driven_of (unpacked b).token.pulling (unpacked w).token c) (unpacked w))
driven_word_lem b w x u c t r p q h e =
    e ∙ ap (λ (y : Token). packed (on_token y u)) (h ∙ ap (λ (y : Due). driven_of y.token.pulling u.token c) p)
    ∙ ap (λ (y : Due). packed (on_token (driven_of (unpacked b).token.pulling y.token c) y)) q

pub settle_word : (i m : List ℕ) (w : ℕ) (u : Due) (t : Token) (i' m' : List ℕ) (d : Due) (r : ℕ) → u ≡ unpacked w
    → outcome t i' m' ≡ settle_of i m u → d ≡ stayed t → r ≡ packed d → DueSettled i m w r i' m'
settle_word i m w u t i' m' d r a b c e =
    let h : outcome t i' m' ≡ settle_of i m (unpacked w) = b ∙ ap (settle_of i m) a in
    record {
      word = e ∙ ap packed (c ∙ ap (λ (o : Outcome). stayed o.token) h);
      image = ap (λ (o : Outcome). o.image) h;
      memory = ap (λ (o : Outcome). o.memory) h;
    }

pub hand_word_lem : (i : List ℕ) (w n : ℕ) (u : Due) (e : ℕ) (d : Due) (r : ℕ) → u ≡ unpacked w → e ≡ event_of_word n
    → d ≡ hand_of u.token e (eighth_in i) → r ≡ packed d
    → r ≡ packed (hand_of (unpacked w).token (event_of_word n) (eighth_in i))
hand_word_lem i w n u e d r a b c h =
    h ∙ ap packed (c ∙ ap (λ (x : Due). hand_of x.token e (eighth_in i)) a
    ∙ ap (λ (x : ℕ). hand_of (unpacked w).token x (eighth_in i)) b)
