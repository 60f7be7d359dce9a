-- SPDX-License-Identifier: Apache-2.0
-- A row of events, one at least, done on the image and the lent buffers. It is auxiliary: the entry's contract speaks of the
-- whole list.
use Rattle.std.specs.Prelude.{ℕ, ◌<◌, ◌≡◌, true, List}
use Rattle.fm3130_image.specs.Image.{candidate}
use Rattle.fm3130_image.specs.Code.Accepting.{is_image}
use Rattle.place_rows.specs.Code.Led.{Led}

-- From the state in one image to the state in another, which is accepted too.
pub record Rowed (es i m a : List ℕ) (from : ℕ) (i' m' a' : List ℕ) (to : ℕ) : Type 0 where
  pub further : from < to
  pub image : is_image i' ≡ true
  pub led : Led es (candidate i) m a from (candidate i') m' a' to
