-- SPDX-License-Identifier: Apache-2.0
pub mod Maintenance
pub mod Bits
pub mod Under
pub mod Ninth
pub mod Unbroken
pub mod Memory
pub mod Examples
