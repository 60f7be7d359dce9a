-- SPDX-License-Identifier: Apache-2.0
pub mod Line
pub mod Wires
pub mod Told
pub mod Code
