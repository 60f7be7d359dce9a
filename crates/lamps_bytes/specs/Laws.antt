-- SPDX-License-Identifier: Apache-2.0
-- What the record's bytes are worth to a caller (02, request 11): the bytes of a record hold that record, so nothing is lost
-- between calls; 20 zeros are the record before any event.
use Rattle.std.specs.Prelude.{◌≡◌, true, replicate}
use Rattle.lamps.specs.Step.{begun}
use Rattle.lamps.specs.declared.Proving.{Proving}
use Rattle.lamps_bytes.specs.Kept.{kept_size, kept_of, bytes_of, is_kept}

abbrev pub KeptBytes : Type 0
KeptBytes = (r : Proving) → kept_of (bytes_of r) ≡ r

pub record NoneKept : Type 0 where
  pub held : kept_of (replicate kept_size 0) ≡ begun
  pub taken : is_kept (replicate kept_size 0) ≡ true
