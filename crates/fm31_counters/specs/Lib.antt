-- SPDX-License-Identifier: Apache-2.0
-- The definitions of the larger family's companion: what its contracts cite, and what a reader must believe.
pub mod Map
pub mod Registers
pub mod Change
pub mod Write
pub mod Edge
pub mod Power
pub mod Limits
pub mod Part
pub mod Ways
pub mod Lock
pub mod Cases
