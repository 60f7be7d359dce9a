-- SPDX-License-Identifier: Apache-2.0
pub mod Clocks
pub mod Events
pub mod Code
