-- SPDX-License-Identifier: Apache-2.0
-- The list run over the size (01, Entries: "A second entry runs a list of events"), refusals too: that of every part
-- (crate `bus_list`). `RunSettled` is the whole outcome of the two entries.
--   outcome_of, RunSettled   all that a caller can see of the entry; the contract
use Rattle.std.specs.Prelude.{ℕ, ◌≡◌, List}
use Rattle.bus.specs.Select.{lone}
use Rattle.bus_list.specs.Outcome as list
use Rattle.fm31.specs.Chip.{last_event}
use Rattle.fm31.specs.Run.{after}
use Rattle.fm31_image.specs.Image.{image_of, decode_of}
use Rattle.fm31_image.specs.Reading.{decoded_says}
pub use Rattle.bus_list.specs.Outcome.{Outcome, refused}

-- "Checked in the order of the numbers": image, memory, events and answers to the whole outcome.
abbrev pub outcome_of : ℕ → List ℕ → List ℕ → List ℕ → List ℕ → Outcome
outcome_of size i m es a =
    let read = decoded_says size lone (decode_of size lone i) in
    list.outcome_of (after size lone) image_of size last_event read.number read.returned i m es a

-- The contract of the list run: what it returns and leaves in the buffers is `outcome_of` of what it was given. How many
-- events were done is not said apart.
abbrev pub RunSettled : ℕ → List ℕ → List ℕ → List ℕ → List ℕ → ℕ → List ℕ → List ℕ → List ℕ → Type 0
RunSettled size i m es a n i' m' a' =
    record { number = n; image = i'; memory = m'; answers = a' } ≡ list.numbered (outcome_of size i m es a)
