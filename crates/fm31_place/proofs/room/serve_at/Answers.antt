-- SPDX-License-Identifier: Apache-2.0
-- Nothing is asked, or something.
use Rattle.fm31_place.proofs.Lying.{nothing_asked}
use Rattle.fm31_place.proofs.room.serve_at.Goals as goal

pub returns-in-Nothing : goal.returns-in-Nothing
returns-in-Nothing c s e = nothing_asked s _ e _ c.in-Nothing.is
