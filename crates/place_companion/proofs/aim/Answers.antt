-- SPDX-License-Identifier: Apache-2.0
-- A register's address is taken, any other byte is not.
use borrow.Author.Tests.{le-leb, lt-leb}
use Rattle.place_companion.proofs.Desks.{aim_refused, aim_taken}
use lib.ListN.{length-set}
use Rattle.place_companion.proofs.aim.Goals as goal

pub returns-then-byte-gt-LAST : goal.returns-then-byte-gt-LAST
returns-then-byte-gt-LAST c s e = rw e (aim_refused s _ (lt-leb _ _ c.if-byte-gt-LAST.true))

pub shape_of-image : goal.shape_of-image
shape_of-image c = simp length-set

pub returns : goal.returns
returns c s e = rw e (aim_taken s _ (le-leb _ _ c.if-byte-gt-LAST.false))
