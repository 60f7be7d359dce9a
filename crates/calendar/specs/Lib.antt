-- SPDX-License-Identifier: Apache-2.0
-- The definitions that the calendar's promises and laws cite, each file over those above it.
pub mod Field
pub mod Month
pub mod Highest
pub mod Next
pub mod Width
pub mod Mend
pub mod Instant
pub mod After
pub mod Cases
