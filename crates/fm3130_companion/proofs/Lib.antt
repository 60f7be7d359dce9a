-- SPDX-License-Identifier: Apache-2.0
-- The companion's laws.
pub mod Address
pub mod Bytes
pub mod Fits
pub mod Kept
pub mod LimitFacts
pub mod Within
pub mod Valid
pub mod Shown
pub mod Says
