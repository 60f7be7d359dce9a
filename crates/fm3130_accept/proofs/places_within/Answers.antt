-- SPDX-License-Identifier: Apache-2.0
-- Each byte by its place in its word, or alone.
use native.Mathlib.Omega.{arith}
use Rattle.fm3130_accept.proofs.Tests.{places_tested}
use Rattle.fm3130_accept.proofs.places_within.Goals as goal

pub returns : goal.returns
returns c =
    let i = c.args.image.now in
    rw (
      c.word-from_control.ensures,
      c.word-from_hours.ensures,
      c.word-from_year.ensures,
      c.word-from_alarm_date.ensures,
      c.word-from_core_minutes.ensures,
      c.word-from_core_day.ensures,
    )
    (places_tested i (λ n. omega (arith, c.shared_slice_known-1.given n)))
