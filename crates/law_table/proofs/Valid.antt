-- SPDX-License-Identifier: Apache-2.0
-- A valid core stays valid under every list of events: the device's law for one event, along the list.
use mathlib.Core.List.{[], ◌∷◌}
use Rattle.fm3130.specs.Event.{event_of}
use Rattle.fm3130.proofs.Valid.{event_valid, fresh_valid}
use Rattle.fm3130_list.specs.Run.{run_of}
use Rattle.law_table.specs.Valid.{StaysValid, FreshValid}

pub stays_valid : StaysValid
unfolding run_of
stays_valid s m [] v = v
stays_valid s m (e ∷ es) v = stays_valid (event_of s m e).state (event_of s m e).memory es (event_valid s m e v)

pub core_fresh : FreshValid
core_fresh = fresh_valid
