-- SPDX-License-Identifier: Apache-2.0
-- The laws on trim settings, each file over those above it.
pub mod Signed
pub mod Left
pub mod Least
pub mod Nearest
pub mod Proposals
pub mod Unique
pub mod Numbers
pub mod Cases
pub mod Ends
