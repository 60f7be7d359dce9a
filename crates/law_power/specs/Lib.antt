-- SPDX-License-Identifier: Apache-2.0
pub mod Seen
pub mod Left
pub mod Away
