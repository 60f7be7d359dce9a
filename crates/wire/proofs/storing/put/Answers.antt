-- SPDX-License-Identifier: Apache-2.0
-- A data byte is stored at an address that is free, and not at a protected one.
use mathlib.Core.Path.{refl, sym, ◌∙◌}
use Rattle.wire.specs.Memory.{put_byte, refused_byte}
use Rattle.wire.proofs.storing.put.Goals as goal
use Rattle.wire.proofs.storing.put.Goals.{then-acknowledged, else-acknowledged}

pub returns : goal.returns
unfolding put_byte refused_byte
returns c =
    let p = c.is_protected-acknowledged in
    elim c.if-acknowledged.branch [
      | then-acknowledged w ↦
          rw (sym p.ensures ∙ w.if-acknowledged.true, w.if-acknowledged.true, w.memory-is, c.next_address.ensures)
          (record { result = refl; bytes = refl })
      | else-acknowledged w ↦
          rw (sym p.ensures ∙ w.if-acknowledged.false, w.if-acknowledged.false, w.memory-is, c.next_address.ensures)
          (record { result = refl; bytes = refl })
    ]
