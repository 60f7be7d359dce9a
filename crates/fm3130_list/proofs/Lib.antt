-- SPDX-License-Identifier: Apache-2.0
pub mod Runs
pub mod Ends
pub mod Pieces
pub mod Calls
pub mod Held
