-- SPDX-License-Identifier: Apache-2.0
-- What the functions over a set ask of its devices, and what an event leaves of one.
use Rattle.std.specs.Prelude.{ℕ, ◌≡◌, true, List}
use Rattle.set_event.specs.Set.{Held, held, after_at, line_at}
use Rattle.set_event.specs.Make.{is_lent, is_within, if_here}
use Rattle.set_event.specs.declared.Heard.{Heard}

-- Auxiliary: a device on the line has all its memory, and is within its limits.
pub record Fit (n v : ℕ) (h : Held) : Type 0 where
  pub lent : if_here n v (is_lent h) ≡ true
  pub within : if_here n v (is_within h) ≡ true

pub record HeardAs (n v : ℕ) (h : Held) (e : ℕ) (r : Heard) (m : List ℕ) : Type 0 where
  pub device : held r.member m ≡ after_at n v h e
  pub line : r.line ≡ line_at n v h e
