-- SPDX-License-Identifier: Apache-2.0
pub mod Chip
pub mod Limits
pub mod Step
pub mod Run
pub mod Lock
