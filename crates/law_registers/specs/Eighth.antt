-- SPDX-License-Identifier: Apache-2.0
-- 01, Transfers: "A data byte is stored at its eighth clock, and then the address steps on", of the companion: after the eighth clock
-- registers, core and address are already what the ninth leaves of them, whatever the master does there. (What that is, at each
-- address: Written.antt; where the byte is refused: BadDate.antt.)
use Rattle.std.specs.Prelude.{◌≡◌}
use Rattle.fm3130_list.specs.Run.{run_of}
use Rattle.wire_clocks.specs.Clocks.{eight_clocks}
use Rattle.law_registers.specs.Written.{after_byte, OfWrites}

abbrev pub StoredAtEighth : Type 0
StoredAtEighth = OfWrites (λ s m b d. (run_of s m (eight_clocks b)).state.companion ≡ after_byte s m b d)
