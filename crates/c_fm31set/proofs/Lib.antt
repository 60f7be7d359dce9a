-- SPDX-License-Identifier: Apache-2.0
pub mod Entries
pub mod Unique
pub mod Count
