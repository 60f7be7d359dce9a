-- SPDX-License-Identifier: Apache-2.0
pub mod Facts
pub mod Ears
pub mod Kept
