-- SPDX-License-Identifier: Apache-2.0
pub mod Guard
pub mod Demand3
pub mod Bytes
pub mod Example
pub mod Needed
pub mod Entry
pub mod Whole
