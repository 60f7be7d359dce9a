-- SPDX-License-Identifier: Apache-2.0
pub mod Numbers
pub mod Refusal
pub mod Told
pub mod Outcome
