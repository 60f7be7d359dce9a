-- SPDX-License-Identifier: Apache-2.0
-- A byte that names a device to be read: the first bit of the byte at its address. Any other: nothing.
use mathlib.Core.Path.{◌≡◌, ◌∙◌}
use native.Mathlib.Omega.{arith}
use Rattle.wire.specs.Slave.{slave_names}
use Rattle.c_line.specs.Code.Line.{low_bit, opened_low}
use Rattle.fm3130_image.proofs.Accepts.{image_long}
use Rattle.fm3130_image.proofs.Lies.{image_places}
use Rattle.c_line.proofs.ByNumber.{not_opened, told_opened, fetched_at}
use Rattle.c_line.proofs.opened_pulls.Goals as goal

pub fetched-requires : goal.fetched-requires
fetched-requires c =
    let t = c in
    record { image_len = (image_long _ t.requires.0, t.requires.1); image_bound = image_places _ t.args.memory.now t.requires.1 t.requires.0 }

pub returns-in-161 : goal.returns-in-161
unfolding opened_low slave_names
returns-in-161 c =
    λ f e.
    let t = c in
    let g = fetched_at t.args.image.now t.args.memory.now t.requires.0 _ 7 c.fetched.ensures in
    told_opened f (low_bit 0 c.fetched.result) _ (e ∙ rw (c.in-161.is, g)) c.if_low.ensures.0

pub fetched-requires-in-209 : goal.fetched-requires-in-209
fetched-requires-in-209 c =
    let t = c in
    record { image_len = (image_long _ t.requires.0, t.requires.1); image_bound = image_places _ t.args.memory.now t.requires.1 t.requires.0 }

pub returns-in-209 : goal.returns-in-209
unfolding opened_low slave_names
returns-in-209 c =
    λ f e.
    let t = c in
    let g = fetched_at t.args.image.now t.args.memory.now t.requires.0 _ 8 c.fetched-in-209.ensures in
    told_opened f (low_bit 0 c.fetched-in-209.result) _ (e ∙ rw (c.in-209.is, g)) c.if_low-in-209.ensures.0

pub returns-in_default : goal.returns-in_default
returns-in_default c =
    let d = c.in_default in
    let memory : c.args.byte ≡ 161 → ⊥ = λ z. omega arith in
    let companion : c.args.byte ≡ 209 → ⊥ = λ z. omega arith in
    λ f e. rw (e, not_opened _ _ _ memory companion)
