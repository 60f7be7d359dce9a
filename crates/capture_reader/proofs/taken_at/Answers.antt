-- SPDX-License-Identifier: Apache-2.0
-- The byte inside the file, and past its end.
use lib.ListN.{length, get_or-eq_default}
use borrow.Author.Tests.{lt-ltb, le-ltb}
use Rattle.capture_reader.proofs.taken_at.Goals as goal

pub returns-then-place-file : goal.returns-then-place-file
returns-then-place-file c = let a = c.args in rw (lt-ltb a.place (length a.file.now) c.if-place-file.true)

pub returns : goal.returns
returns c =
    let a = c.args in
    rw (
      le-ltb a.place (length a.file.now) c.if-place-file.false,
      get_or-eq_default a.file.now 0 c.if-place-file.false,
    )
