-- SPDX-License-Identifier: Apache-2.0
-- `fm31_counters::Registers::kept` meets its contract. From 0Dh on the whole byte.
use Rattle.fm31_counters.proofs.Written.{kept_whole, past_counting}
use Rattle.std.proofs.Common.{sym}
use Rattle.fm31_counters.proofs.Registers.kept.Goals as goal

pub returns-in_default : goal.returns-in_default
returns-in_default c =
    let a = c.args in
    let n = c.in_default.in_default-own.rest in
    sym (kept_whole a.self a.address a.byte
    (past_counting a.address c.requires.0 n.0.0.0.1 n.0.0.1 n.0.1 n.1) c.requires.1)
