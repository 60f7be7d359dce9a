-- SPDX-License-Identifier: Apache-2.0
-- A data byte from the companion, clock by clock, given the companion's byte.
use Rattle.bus.proofs.turns.load_turn.Goals as goal

pub returns : goal.returns
returns c =
    c.send.ensures
