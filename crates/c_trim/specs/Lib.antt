-- SPDX-License-Identifier: Apache-2.0
-- The definitions that the promises and laws on trim settings cite, each file over those above it.
pub mod Residue
pub mod Verdict
pub mod Proposal
pub mod Entries
pub mod Cases
pub mod Ends
pub mod Code
