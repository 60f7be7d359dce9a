-- SPDX-License-Identifier: Apache-2.0
-- The laws of mending, each file over those above it.
pub mod Listing
pub mod Ways
pub mod Laws
pub mod Room
