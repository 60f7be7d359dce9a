-- SPDX-License-Identifier: Apache-2.0
pub mod Merge
pub mod Party
pub mod Apart
pub mod Demand
pub mod Clocks
