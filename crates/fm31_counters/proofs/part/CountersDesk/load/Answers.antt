-- SPDX-License-Identifier: Apache-2.0
-- `fm31_counters::Counters::load` meets its contract. The register at the address, of those that a read shows.
use Rattle.fm31_counters.specs.Part.{load_of}
use Rattle.fm31_counters.proofs.part.CountersDesk.load.Goals as goal

pub returns : goal.returns
unfolding load_of
returns c = rw (c.read.ensures, c.shown.ensures)
