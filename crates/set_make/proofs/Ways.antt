-- SPDX-License-Identifier: Apache-2.0
-- The ways through the tests of a set that is made.
use mathlib.Core.Path.{◌≡◌}
use mathlib.Core.Bool.{true, false}
use Rattle.numbers.specs.Numbers.{accepted, wrong_memory, wrong_state}
use Rattle.numbers.specs.Numbers.{wrong_count, equal_selects, in_transfer}
use Rattle.set_event.specs.Set.{Together}
use Rattle.set_event.specs.Make.{is_lent, is_within, is_between, places_are, selects_differ, count_fits, make_number}

module _ (t : Together) where
  pub make_wrong_count : count_fits t ≡ false → make_number t ≡ wrong_count
  unfolding make_number
  make_wrong_count a = rw a

  module _ (a : count_fits t ≡ true) where
    pub make_wrong_memory : places_are is_lent t ≡ false → make_number t ≡ wrong_memory
    unfolding make_number
    make_wrong_memory b = rw (a, b)

    module _ (b : places_are is_lent t ≡ true) where
      pub make_wrong_state : places_are is_within t ≡ false → make_number t ≡ wrong_state
      unfolding make_number
      make_wrong_state c = rw (a, b, c)

      module _ (c : places_are is_within t ≡ true) where
        pub make_equal_selects : selects_differ t ≡ false → make_number t ≡ equal_selects
        unfolding make_number
        make_equal_selects d = rw (a, b, c, d)

        module _ (d : selects_differ t ≡ true) where
          pub make_in_transfer : places_are is_between t ≡ false → make_number t ≡ in_transfer
          unfolding make_number
          make_in_transfer e = rw (a, b, c, d, e)

          pub make_accepted : places_are is_between t ≡ true → make_number t ≡ accepted
          unfolding make_number
          make_accepted e = rw (a, b, c, d, e)
