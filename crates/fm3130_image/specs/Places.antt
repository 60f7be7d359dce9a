-- SPDX-License-Identifier: Apache-2.0
-- Where the image holds what rules name of the companion (docs/IMAGE.md); register a lies at place a.
--   CONTROL_AT SECONDS-AT   00h; the first of 02h to 08h, the calendar that the bus sees
--   CORE_SECONDS_AT         the first of the core's seven bytes
use Rattle.std.specs.Prelude.{ℕ}

abbrev pub CONTROL_AT : ℕ
CONTROL_AT = 0

abbrev pub SECONDS_AT : ℕ
SECONDS_AT = 2

abbrev pub CORE_SECONDS_AT : ℕ
CORE_SECONDS_AT = 15
