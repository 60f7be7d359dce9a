-- SPDX-License-Identifier: Apache-2.0
-- A record in a local of a body, which is lent as `&mut` for a call and comes back: `lends_ref` and `ref_back` of
-- the
-- prover's library, at a local's cell. For every declared type that owns only facts.
--     Fits      the record has its machine value
--     Holding   the local l holds h
--     Lent      the reference to it, under the name γ, for the lifetime κ
--     Part      what the lender keeps meanwhile
--     lends     given that h fits:  the local holds h  ⊢ ⇛ ∃ γ. own (the `&κ mut` to the local, at h) ∗ the
-- lender's part
--     back      [†κ] ∗ the lender's part ∗ res γ h  ⊢ ⇛ (the local holds h, and h fits)
-- Assumes `Logic`.
use Prim.Native.Nat.{ℕ}
use mathlib.Core.List.{List, [], ◌∷◌}
use seplogic.Ra.Ura.{Ura}
use base.Fraction.{full_share}
use mir.Syntax.{Ty, named}
use mir.Val.{Val, vptr}
use base.Logic.{ent, sep, ex, guard}
use base.Fml.{Lft, GName, Fml, fsep, fat, fdead, flent, fres}
use types.Logic.{Logic, sem}
use types.Kit.{‵, later, ◌$◌, ◌∵◌, !, qed, by, move, use1, use3, check, fsplit, fjoin, fpick, fpack, await}
use types.Kit.{updating, now as at_once, done}
use types.SemTy.{Body}
use denote.RattleType.{RattleType}
use denote.Memory.{mem, cell_at, part_of}
use denote.Laws.{Is, shows}
use denote.Ref.{MutBor, MutRef}
use denote.Lend.{lends_ref, ref_back}
use denote.Steps.{owned, facts}
use denote.Struct.Declared.{Declared, fields, shape, row}
use denote.Struct.Struct.{Plains, layout}
use denote.Struct.Steps.{spelt}
use denote.Struct.Laws as LL

module _ (T : Declared) (L : LL.Laws T) where
  abbrev pub R : RattleType
  R = row T

  abbrev pub cell : Ty
  cell = layout (shape T)

  abbrev pub mach : T.D → Val
  mach = LL.val T L

  abbrev pub Fits : T.D → Type 0
  Fits h = Is R h (mach h ∷ [])

  abbrev pub Holding : ℕ → T.D → Fml
  Holding l h = fat full_share cell l 0 (mach h)

  abbrev pub to_local : ℕ → GName → T.D → MutBor T.D
  to_local l γ h = record { ref_ptr = (l, 0); ghost_name = γ; now = h }

  abbrev pub Lent : Lft → ℕ → GName → T.D → Fml
  Lent κ l γ h = (MutRef (named 0) κ R).own_val (to_local l γ h) (vptr l 0 ∷ [])

  abbrev pub Part : Lft → ℕ → GName → Fml
  Part κ l γ = flent κ (Body (mem R) l 0 γ)

  module _ (plain : Plains (fields T)) {M : Type 1} {𝓤 : Ura M} (𝓛 : Logic 𝓤) (κ :
      Lft) (l : ℕ) (h : T.D) where
    open 𝓛 use {H, A}

    pub lends : Fits h → ent 𝓤 (sem 𝓛 (Holding l h)) (H.⇛ (ex 𝓤 (λ (γ : GName). sep 𝓤 (sem 𝓛 (Lent κ l γ
        h)) (sem 𝓛 (Part κ l γ)))))
    unfolding part_of
    lends g =
        qed 𝓛 (‵ (Holding l h) ∷ []) ∵ use1 𝓛 (‵ (cell_at full_share R.mir (mach h ∷ []) l 0)) (𝓛.laws.at_raw
        full_share cell l 0 (mach h)) $
        owned ! R (Is R) (LL.makes T plain 𝓛) h _ g $ move ! (1 ∷ 0 ∷ []) $ fjoin ! $ fpack ! (List Val) (λ us.
        fsep (cell_at full_share R.mir us l 0) (R.own_val h us)) (mach h ∷ []) $
        by ! (lends_ref 𝓛 R (named 0) κ h l 0)

    pub back : (γ : GName) → ent 𝓤 (sep 𝓤 (A.dead κ) (sep 𝓤 (sem 𝓛 (Part κ l γ)) (A.res γ (R.coded.code
        h)))) (H.⇛ (guard 𝓤 (Fits h) (sem 𝓛 (Holding l h))))
    unfolding part_of
    back γ =
        qed 𝓛 (‵ (fdead κ) ∷ ‵ (Part κ l γ) ∷ ‵ (fres γ (R.coded.code h)) ∷ []) ∵ updating ! $ use3 𝓛 (later (‵
        ((mem R).own_at h l 0))) (ref_back 𝓛 R κ γ h l 0) $ await ! tt $ fpick ! (λ vs. fsplit ! $
        spelt ! R (Is R) (shows 𝓛 R) (LL.vals T L) (LL.tells T L) full_share h vs l 0 $ move ! (1 ∷ []) $ facts !
        R (Is R) (shows 𝓛 R) h (mach h ∷ []) (λ g.
        use1 𝓛 (‵ (Holding l h)) (𝓛.laws.raw_at full_share cell l 0 (mach h)) $ at_once ! $ check ! g $ done !))
