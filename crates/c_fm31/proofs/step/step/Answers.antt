-- SPDX-License-Identifier: Apache-2.0
-- The tests in the order of the numbers, each way by its law; and the event, done where the image lies.
use mathlib.Core.Path.{◌≡◌, sym, ◌∙◌}
use mathlib.Core.Bool.{true}
use lib.ListN.{length}
use Rattle.bus.specs.Select.{lone}
use Rattle.fm31_image.specs.Accepting.{is_image}
use Rattle.fm31_image.proofs.Accepts.{image_read, image_not_read}
use Rattle.c_fm31.proofs.Singles.{single_wrong_memory, single_wrong_image, single_unknown_event, single_short}
use Rattle.c_fm31.proofs.Singles.{single_answered, front_set}
use Rattle.c_fm31.proofs.step.step.Goals as goal

pub returns-then-memory-size : goal.returns-then-memory-size
returns-then-memory-size c = single_wrong_memory _ _ _ _ _ c.if-memory-size.true

pub returns-then-not-is_image : goal.returns-then-not-is_image
returns-then-not-is_image c =
    single_wrong_image _ _ _ _ _ c.if-memory-size.false
    (image_not_read _ _ _ (sym c.is_image.ensures ∙ c.if-not-is_image.true))

pub returns-then-event : goal.returns-then-event
returns-then-event c =
    let d = c in
    single_unknown_event _ _ _ _ _ ((let shown : length d.args.memory.now ≡ d.args.size = d.if-memory-size.false in shown)) _ (image_read _ _ _ ((let shown : is_image d.args.size lone d.args.image.now ≡ true = sym d.is_image.ensures ∙ d.if-not-is_image.false in shown))) c.if-event.true

pub returns-then-told-lt-TOLD : goal.returns-then-told-lt-TOLD
returns-then-told-lt-TOLD c =
    let d = c in
    single_short _ _ _ _ _ ((let shown : length d.args.memory.now ≡ d.args.size = d.if-memory-size.false in shown)) _ (image_read _ _ _ ((let shown : is_image d.args.size lone d.args.image.now ≡ true = sym d.is_image.ensures ∙ d.if-not-is_image.false in shown))) c.if-event.false c.if-told-lt-TOLD.true

pub happen-answer-requires : goal.happen-answer-requires
happen-answer-requires c =
    let t = c in
    record { accepted = record { image = (let shown : is_image t.args.size lone t.args.image.now ≡ true = sym t.is_image.ensures ∙ t.if-not-is_image.false in shown); memory = (let shown : length t.args.memory.now ≡ t.args.size = t.if-memory-size.false in shown) }; event_le_last_event = t.if-event.false }

pub returns : goal.returns
returns c =
    let h = c in
    let t = h in
    let d = t in
    let a = h.happen-answer.ensures in
    rw (front_set d.args.told.now _ t.if-told-lt-TOLD.false, a.answer, a.image, a.memory)
    (single_answered _ _ _ _ _ ((let shown : length d.args.memory.now ≡ d.args.size = d.if-memory-size.false in shown)) _ (image_read _ _ _ ((let shown : is_image d.args.size lone d.args.image.now ≡ true = sym d.is_image.ensures ∙ d.if-not-is_image.false in shown))) t.if-event.false t.if-told-lt-TOLD.false)
