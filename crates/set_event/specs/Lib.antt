-- SPDX-License-Identifier: Apache-2.0
pub mod Set
pub mod Make
pub mod Stand
pub mod Outcome
pub mod Code
