-- SPDX-License-Identifier: Apache-2.0
pub mod Images
pub mod Accepts
pub mod Lies
pub mod Unique
