-- SPDX-License-Identifier: Apache-2.0
-- The ends of the range and of the codes: the tests of the two ends, as numbers compare.
use mathlib.Core.Path.{◌≡◌, sym, ap, ◌∙◌}
use mathlib.Core.Bool.{true, false, false≢true}
use native.Mathlib.Omega.{arith}
use borrow.Author.Tests.{le-leb, lt-leb}
use lib.IntN.{ℤ, pos, negsuc}
use Rattle.std.specs.Prelude.{is_some}
use Rattle.c_trim.specs.Residue.{in_range}
use Rattle.c_trim.specs.Ends.{Inside, Outside, RangeEnds, CodeEnds}
use Rattle.c_trim.proofs.Proposals.{proposal_in_range, proposal_out_of_range}

ranged : (e : ℤ) → Inside e → in_range e ≡ true
unfolding in_range
ranged (pos n) h = le-leb n 20000 h
ranged (negsuc n) h = rw (le-leb n 19999 (omega arith))

unranged : (e : ℤ) → Outside e → in_range e ≡ false
unfolding in_range
unranged (pos n) h = lt-leb n 20000 h
unranged (negsuc n) h = rw (lt-leb n 19999 (omega arith))

pub range_ends : RangeEnds
range_ends =
    record {
      outside = λ e s o. unranged e o;
      inside = λ e s i c. false≢true (sym c ∙ ranged e i);
      unproposed = λ e o. proposal_out_of_range e (unranged e o);
      proposed = λ e i r. false≢true (sym (ap is_some (sym (proposal_in_range e (ranged e i)) ∙ r)));
    }

pub code_ends : CodeEnds
code_ends =
    record {
      above = λ e s i h. (ranged e i, h);
      below = λ e s h c. let above = c.1 in omega arith;
    }
