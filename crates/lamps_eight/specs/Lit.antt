-- SPDX-License-Identifier: Apache-2.0
-- When a lamp is lit, on the log (02, request 11: "A report is lit exactly if the last whole read of its byte, all of it
-- after the last bus failure, gave 1 and fewer than three tick events, counted by the device or not, have passed since the
-- Stop that ended it"). The log is newest first.
--   Lit                the request's words, as a cut of the log (the law `lit_words` says that is_lit is this)
--   read_in             the last read of a byte in the transaction that a Stop ends
--   is_lit              by looking back from now
use Rattle.std.specs.Prelude.{ℕ, suc, ◌+◌, ◌<◌, ◌≡◌, Bool, true, false, cond, not, ◌&&◌, List, [], ◌∷◌, ◌++◌, eqb, ltb}
use Rattle.lamps_eight.specs.declared.Mark.{Mark}
use Rattle.lamps_eight.specs.declared.Mark.TheVariants.{Failed, Ended, Ticked, Gave, Other}

-- "Eight lamps, one byte each at 1000h to 1007h."
abbrev pub lamp_address : ℕ → ℕ
lamp_address k = 0x1000 + k

abbrev pub is_failure : Mark → Bool
is_failure Failed = true
is_failure Ended = false
is_failure Ticked = false
is_failure (Gave a v) = false
is_failure Other = false

abbrev pub is_stop : Mark → Bool
is_stop Failed = false
is_stop Ended = true
is_stop Ticked = false
is_stop (Gave a v) = false
is_stop Other = false

-- Nine clocks of a read of the byte at an address.
abbrev pub is_read : ℕ → Mark → Bool
is_read at Failed = false
is_read at Ended = false
is_read at Ticked = false
is_read at (Gave a v) = eqb a at
is_read at Other = false

abbrev pub is_tick : Mark → Bool
is_tick Failed = false
is_tick Ended = false
is_tick Ticked = true
is_tick (Gave a v) = false
is_tick Other = false

abbrev pub none : (Mark → Bool) → List Mark → Bool
none f [] = true
none f (x ∷ xs) = not (f x) && none f xs

abbrev pub count : (Mark → Bool) → List Mark → ℕ
count f [] = 0
count f (x ∷ xs) = cond (f x) (suc (count f xs)) (count f xs)

-- No whole read of the byte: no Stop in these lines has a read of it before it.
abbrev pub no_whole : ℕ → List Mark → Bool
no_whole at [] = true
no_whole at (x ∷ xs) = cond (is_stop x) (none (is_read at) xs && no_whole at xs) (no_whole at xs)

-- THE DEFINITION, in the request's words. The log falls into what came since a Stop; that Stop; what came between a read of
-- the byte at `at` and the Stop; that read, which gave 1; and what was before.
pub record Lit (at : ℕ) (log : List Mark) : Type 0 where
  pub since : List Mark
  pub between : List Mark
  pub before : List Mark
  pub cut : log ≡ since ++ (Ended ∷ (between ++ (Gave at 1 ∷ before)))
  -- "the Stop that ended it"
  pub ended : none is_stop between ≡ true
  -- "the last whole read of its byte"
  pub last : none (is_read at) between ≡ true
  pub latest : no_whole at since ≡ true
  -- "all of it after the last bus failure"
  pub sound : none is_failure between ≡ true
  pub unfailed : none is_failure since ≡ true
  -- "fewer than three tick events .. have passed since the Stop"
  pub young : count is_tick since < 3

-- Looking back from a Stop to the one before it, or to a failure: the last read of the byte, if there is one.
pub data Last : Type 0 where
  nothing : Last
  gave : ℕ → Last

unfoldable pub read_in : ℕ → List Mark → Last
read_in at [] = nothing
read_in at (Failed ∷ l) = nothing
read_in at (Ended ∷ l) = nothing
read_in at (Ticked ∷ l) = read_in at l
read_in at (Gave a v ∷ l) = cond (eqb a at) (gave v) (read_in at l)
read_in at (Other ∷ l) = read_in at l

-- At a Stop with t ticks after it: the transaction that it ended holds a whole read, or the looking back goes on.
abbrev pub decided : Last → ℕ → Bool → Bool
decided nothing t older = older
decided (gave v) t older = eqb v 1 && ltb t 3

-- Looking back, with t ticks passed on the way.
unfoldable pub lit_from : ℕ → ℕ → List Mark → Bool
lit_from at t [] = false
lit_from at t (Failed ∷ l) = false
lit_from at t (Ended ∷ l) = decided (read_in at l) t (lit_from at t l)
lit_from at t (Ticked ∷ l) = lit_from at (suc t) l
lit_from at t (Gave a v ∷ l) = lit_from at t l
lit_from at t (Other ∷ l) = lit_from at t l

abbrev pub is_lit : ℕ → List Mark → Bool
is_lit k log = lit_from (lamp_address k) 0 log
