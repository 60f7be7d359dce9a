-- SPDX-License-Identifier: Apache-2.0
-- What a call returns and leaves that is lent an image alone.
use Rattle.std.specs.Prelude.{ℕ, List}

-- The number, and the buffer.
pub record Made : Type 0 where
  pub number : ℕ
  pub image : List ℕ
