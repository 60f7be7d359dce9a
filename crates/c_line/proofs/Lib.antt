-- SPDX-License-Identifier: Apache-2.0
pub mod Lines
pub mod Admitted
pub mod ByNumber
pub mod Wires
pub mod Told
pub mod Unique
