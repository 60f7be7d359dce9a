-- SPDX-License-Identifier: Apache-2.0
-- `c_trim::entries::setting_of` meets its contract: the sign is read, or it is none.
use borrow.Author.Rules.{rules}
use Rattle.c_trim.specs.declared.Sign.TheVariants.{Plus, Minus}
use Rattle.c_trim.proofs.Numbers.{named_unknown}
use Rattle.c_trim.proofs.entries.setting_of.Goals as goal

pub returns-in_err-sign : goal.returns-in_err-sign
returns-in_err-sign c = let e = named_unknown c.args.sign c.args.code (c.in_err-sign.ensures Plus) (c.in_err-sign.ensures Minus) in rw e (search rules)
