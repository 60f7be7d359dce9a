-- SPDX-License-Identifier: Apache-2.0
pub mod Maintenance
pub mod Unbroken
pub mod Memory
pub mod Examples
