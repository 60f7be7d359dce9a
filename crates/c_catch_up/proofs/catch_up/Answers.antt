-- SPDX-License-Identifier: Apache-2.0
-- The way to the end of the entry's tests, by its law in Ways.
use mathlib.Core.Path.{sym, ◌∙◌}
use Rattle.c_catch_up.proofs.Ways.{catch_up_counted}
use Rattle.c_catch_up.proofs.catch_up.Goals as goal

pub returns : goal.returns
returns c =
    sym (catch_up_counted _ _ (sym c.is_image.ensures ∙ c.if-not-is_image.false) c.if-ticks-gt-MOST_TICKS.false
    c.if-image-gt-POWER_BACKUP.false (sym c.has.ensures ∙ c.if-has.false) c.if-ticks-eq0.false _ c.count.ensures)
