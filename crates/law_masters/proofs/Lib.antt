-- SPDX-License-Identifier: Apache-2.0
pub mod Asks
pub mod Calls
pub mod Freed
pub mod Refusals
pub mod Unanswered
