-- SPDX-License-Identifier: Apache-2.0
-- The answer byte (01, Event bytes and answer bytes): "Bit 0 is the line .. Bits 2 and 1 are the ACS pin's function after
-- the event .. Bit 3 is 1 exactly when the function is alarm and AF is 1. Bits 4 to 7 are 0."
use Rattle.std.specs.Prelude.{ℕ, ◌+◌, ◌*◌, Bool, cond}
pub use Rattle.fm3130.specs.Desk.{pin_shown}
use Rattle.fm3130.specs.declared.State.{State}

abbrev pub answer_byte : State → Bool → ℕ
answer_byte s line = 2 * pin_shown s.power s.companion + cond line 1 0
