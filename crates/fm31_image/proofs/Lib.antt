-- SPDX-License-Identifier: Apache-2.0
pub mod Accepts
pub mod Images
pub mod Unique
