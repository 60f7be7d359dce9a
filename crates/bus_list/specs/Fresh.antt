-- SPDX-License-Identifier: Apache-2.0
-- What a call returns and leaves that is lent an image alone, and of these the fresh image (01, Ticks, alarm, power: "The
-- fresh state has these registers and core, power on, no transfer, both addresses 0."), over its length and its bytes.
--   Made            the number, and the buffer
--   fresh_of         the entry's whole outcome
use Rattle.std.specs.Prelude.{ℕ, cond, List, eqb, length}
use Rattle.numbers.specs.Numbers.{accepted, wrong_state}

pub record Made : Type 0 where
  pub number : ℕ
  pub image : List ℕ

-- 01, Entries: number 2 where "image is not 64 bytes", and nothing is written.
unfoldable pub fresh_of : ℕ → List ℕ → List ℕ → Made
fresh_of size fresh i =
    cond (eqb (length i) size) (record { number = accepted; image = fresh }) (record { number = wrong_state; image = i })
