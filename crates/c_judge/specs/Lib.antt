-- SPDX-License-Identifier: Apache-2.0
pub mod Verdict
pub mod Laws
pub mod Faults
pub mod Code
