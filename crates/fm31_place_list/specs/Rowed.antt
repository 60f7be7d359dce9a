-- SPDX-License-Identifier: Apache-2.0
-- A row of events, one at least, done on the image and the lent buffers; and a whole list. It is auxiliary: the entries'
-- contracts speak of the outcome.
use Rattle.std.specs.Prelude.{ℕ, ◌<◌, ◌≡◌, true, List}
use Rattle.bus.specs.Select.{lone}
use Rattle.bus_list.specs.Run as list
use Rattle.fm31.specs.Limits.{well_formed}
use Rattle.fm31.specs.Run.{after, run_of}
use Rattle.fm31.specs.declared.State.{State}
use Rattle.fm31_image.specs.Image.{image_of, candidate}
use Rattle.fm31_image.specs.Accepting.{is_image}
use Rattle.law_stretch.specs.Led as ledger

-- A part of a list of events on a device alone on its line.
abbrev pub Led : ℕ → List ℕ → State → List ℕ → List ℕ → ℕ → State → List ℕ → List ℕ → ℕ → Type 0
Led size es s m a i s' m' a' i' = ledger.Led (after size lone) (λ s. well_formed size lone s ≡ true) size es s m a i s' m' a' i'

-- From the state in one image to the state in another, which is accepted too.
pub record Rowed (size : ℕ) (es i m a : List ℕ) (from : ℕ) (i' m' a' : List ℕ) (to : ℕ) : Type 0 where
  pub further : from < to
  pub image : is_image size lone i' ≡ true
  pub led : Led size es (candidate i) m a from (candidate i') m' a' to

-- What a function leaves in the image and the lent buffers is that of a list of events.
abbrev pub RanIn : ℕ → State → List ℕ → List ℕ → List ℕ → List ℕ → List ℕ → List ℕ → Type 0
RanIn size s m es a i' m' a' = list.RanThrough (run_of size lone) image_of s m es a i' m' a'
