-- SPDX-License-Identifier: Apache-2.0
pub mod Listing
pub mod Ways
pub mod Unique
