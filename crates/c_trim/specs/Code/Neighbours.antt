-- SPDX-License-Identifier: Apache-2.0
-- The two neighbours of a setting in the order of the cycles that settings add: -31 .. -1, 0, +1 .. +31. This is how
-- the checker works, not what it promises: no public contract cites this file.
--   further_of   one step more      back_of   one step fewer, or the first one of the other sign
use Rattle.std.specs.Prelude.{◌+◌, ◌-◌, cond, ltb, eqb}
use Rattle.c_trim.specs.Residue.{last_code}
use Rattle.c_trim.specs.declared.Sign.{Sign}
use Rattle.c_trim.specs.declared.Sign.TheVariants.{Plus, Minus}
use Rattle.c_trim.specs.declared.Setting.{Setting}

-- Auxiliary: the last code has no further neighbour, and stands for it itself.
unfoldable pub further_of : Setting → Setting
further_of s = cond (ltb s.code last_code) (record { sign = s.sign; code = s.code + 1 }) s

-- Auxiliary: the other sign.
abbrev pub opposite_of : Sign → Sign
opposite_of Plus = Minus
opposite_of Minus = Plus

-- Auxiliary: code 0 is the same setting with either sign.
unfoldable pub back_of : Setting → Setting
back_of s =
    cond (eqb s.code 0)
    (record { sign = opposite_of s.sign; code = 1 })
    (record { sign = s.sign; code = s.code - 1 })
