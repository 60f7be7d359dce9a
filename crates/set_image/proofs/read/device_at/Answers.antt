-- SPDX-License-Identifier: Apache-2.0
-- The plan's byte and the image, read: where there is no whole image, where no well-formed state writes it, and where
-- one does.
use Rattle.std.specs.Prelude.{Option}
use Prim.Native.Nat.{◌+◌, ◌*◌, ◌-◌, ◌%◌}
use mathlib.Core.Path.{◌≡◌, sym, ap, ◌∙◌}
use native.Mathlib.Omega.{arith}
use lib.Dec.{ltb}
use lib.ListN.{get_or}
use Rattle.fm31.specs.declared.State.{State}
use Rattle.set_image.specs.Read.{device_at, got_of}
use Rattle.set_image.proofs.Readings.{device_short, device_read}
use Rattle.set_image.proofs.read.device_at.Goals as goal

pub returns-then-images-from : goal.returns-then-images-from
returns-then-images-from c =
    let a = c.args in
    c.unread.ensures
    ∙ sym (device_short a.plan.now a.images.now a.place _ c.mark_size-size.ensures
    c.if-images-from.true)

pub returns-in_default : goal.returns-in_default
returns-in_default c =
    let d = c in
    let a = d.args in
    let mark = get_or a.plan.now a.place 0 in
    let k = d.mark_size-size.result in
    c.unread-in_default.ensures
    ∙ sym ((let shown : (let a = d.args in device_at a.plan.now a.images.now a.place ≡ got_of (ltb (get_or a.plan.now a.place 0) 8) d.mark_size-size.result (get_or a.plan.now a.place 0 % 4) d.decode.result) = let m = d in let a = m.args in let n : 64 * a.place + 64 - 64 * a.place ≡ 64 = omega arith in let z = d.size_of in device_read a.plan.now a.images.now a.place m.mark_size-size.result m.mark_size-size.ensures z.result d.decode.result z.ensures (rw n at d.decode.ensures) in shown) ∙ ap (λ (x : Option State). got_of (ltb mark 8) k (mark % 4) x) c.in_default.is)

pub returns : goal.returns
returns c =
    let d = c in
    let a = d.args in
    let mark = get_or a.plan.now a.place 0 in
    let k = d.mark_size-size.result in
    sym ((let shown : (let a = d.args in device_at a.plan.now a.images.now a.place ≡ got_of (ltb (get_or a.plan.now a.place 0) 8) d.mark_size-size.result (get_or a.plan.now a.place 0 % 4) d.decode.result) = let m = d in let a = m.args in let n : 64 * a.place + 64 - 64 * a.place ≡ 64 = omega arith in let z = d.size_of in device_read a.plan.now a.images.now a.place m.mark_size-size.result m.mark_size-size.ensures z.result d.decode.result z.ensures (rw n at d.decode.ensures) in shown) ∙ ap (λ (x : Option State). got_of (ltb mark 8) k (mark % 4) x) c.in-Some.is)
