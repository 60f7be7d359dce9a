-- SPDX-License-Identifier: Apache-2.0
pub mod Session
pub mod Entries
pub mod Demand
pub mod Same
pub mod Current
