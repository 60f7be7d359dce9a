-- SPDX-License-Identifier: Apache-2.0
pub mod Runs
pub mod Seats
pub mod Turns
