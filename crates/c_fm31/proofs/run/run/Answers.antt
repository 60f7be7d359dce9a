-- SPDX-License-Identifier: Apache-2.0
-- The tests in the order of the numbers, each way by its law; and the events, done where the image lies.
use mathlib.Core.Path.{◌≡◌, sym, ◌∙◌}
use mathlib.Core.Bool.{true}
use lib.ListN.{length}
use Rattle.bus.specs.Select.{lone}
use Rattle.fm31_run.specs.Code.Run.{all_known}
use Rattle.fm31_image.specs.Accepting.{is_image}
use Rattle.fm31_image.proofs.Accepts.{image_read, image_not_read}
use Rattle.c_fm31.proofs.Runs.{told, outcome_wrong_memory, outcome_wrong_image, outcome_unknown_event}
use Rattle.c_fm31.proofs.Runs.{outcome_short_answers, outcome_done}
use Rattle.c_fm31.proofs.run.run.Goals as goal

pub returns-then-memory-size : goal.returns-then-memory-size
returns-then-memory-size c = told (outcome_wrong_memory _ _ _ _ _ c.if-memory-size.true)

pub returns-then-not-is_image : goal.returns-then-not-is_image
returns-then-not-is_image c =
    told (outcome_wrong_image _ _ _ _ _ c.if-memory-size.false
    (image_not_read _ _ _ (sym c.is_image.ensures ∙ c.if-not-is_image.true)))

pub returns-then-not-all_known : goal.returns-then-not-all_known
returns-then-not-all_known c =
    let d = c in
    told (outcome_unknown_event _ _ _ _ _ ((let shown : length d.args.memory.now ≡ d.args.size = d.if-memory-size.false in shown)) _ (image_read _ _ _ ((let shown : is_image d.args.size lone d.args.image.now ≡ true = sym d.is_image.ensures ∙ d.if-not-is_image.false in shown)))
    (sym c.all_known.ensures ∙ c.if-not-all_known.true))

pub returns-then-answers-events : goal.returns-then-answers-events
returns-then-answers-events c =
    let d = c in
    told (outcome_short_answers _ _ _ _ _ ((let shown : length d.args.memory.now ≡ d.args.size = d.if-memory-size.false in shown)) _ (image_read _ _ _ ((let shown : is_image d.args.size lone d.args.image.now ≡ true = sym d.is_image.ensures ∙ d.if-not-is_image.false in shown))) ((let shown : all_known c.args.events.now ≡ true = sym c.all_known.ensures ∙ c.if-not-all_known.false in shown)) c.if-answers-events.true)

pub run_events-requires : goal.run_events-requires
run_events-requires c =
    let t = c in
    let d = t in
    record { accepted = (record { image = (let shown : is_image d.args.size lone d.args.image.now ≡ true = sym d.is_image.ensures ∙ d.if-not-is_image.false in shown); memory = (let shown : length d.args.memory.now ≡ d.args.size = d.if-memory-size.false in shown) }, d.requires); events_value = ((let shown : all_known t.args.events.now ≡ true = sym t.all_known.ensures ∙ t.if-not-all_known.false in shown), t.if-answers-events.false) }

pub returns : goal.returns
returns c =
    let h = c in
    let t = h in
    let d = t in
    outcome_done _ _ _ _ _ ((let shown : length d.args.memory.now ≡ d.args.size = d.if-memory-size.false in shown)) _ (image_read _ _ _ ((let shown : is_image d.args.size lone d.args.image.now ≡ true = sym d.is_image.ensures ∙ d.if-not-is_image.false in shown))) _ _ _ ((let shown : all_known t.args.events.now ≡ true = sym t.all_known.ensures ∙ t.if-not-all_known.false in shown)) t.if-answers-events.false
    h.run_events.ensures
