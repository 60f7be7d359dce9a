-- SPDX-License-Identifier: Apache-2.0
-- The laws of catching up, each file over those above it.
pub mod Narrow
pub mod Rings
pub mod Caught
pub mod Run
pub mod Written
pub mod Ways
pub mod Laws
