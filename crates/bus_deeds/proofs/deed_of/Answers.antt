-- SPDX-License-Identifier: Apache-2.0
-- What an event asks while backup alone is present, whatever the phase.
use Rattle.bus_deeds.proofs.deed_of.Goals as goal

pub returns-in-Backup : goal.returns-in-Backup
returns-in-Backup c = rw c.in-Backup.is (c.backup_asks.ensures c.args.bus.phase)
