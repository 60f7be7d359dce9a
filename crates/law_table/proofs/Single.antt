-- SPDX-License-Identifier: Apache-2.0
-- The entry for one event under each number: the ways through its tests.
use mathlib.Core.Path.{ap}
use native.Mathlib.Omega.{arith}
use Rattle.fm3130.specs.Step.{Step}
use Rattle.fm3130.proofs.Entry.{step_wrong_memory, step_wrong_state, step_unknown_event, step_answered}
use Rattle.law_table.specs.Single.{EverySingleEvent}

pub every_single_event : EverySingleEvent
every_single_event s m e =
    record {
      memory = step_wrong_memory s m e;
      state = step_wrong_state s m e;
      event = λ h w l. step_unknown_event s m e h w l;
      answered = λ h w l. ap (λ (r : Step). r.number) (step_answered s m e h w (omega arith));
    }
