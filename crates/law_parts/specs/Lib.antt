-- SPDX-License-Identifier: Apache-2.0
pub mod Events
pub mod Stored
pub mod Protected
pub mod Demand3
