-- SPDX-License-Identifier: Apache-2.0
-- The companion's definitions: what its contracts cite, and what a reader must believe. Up to the methods that a device
-- calls (Part), and these as an event asks for them (Ways).
pub mod Registers
pub mod Change
pub mod Write
pub mod Tick
pub mod Pin
pub mod Power
pub mod Limits
pub mod Part
pub mod Ways
