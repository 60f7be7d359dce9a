-- SPDX-License-Identifier: Apache-2.0
pub mod Replays
pub mod Firsts
pub mod Verdicts
pub mod Laws
pub mod Faults
