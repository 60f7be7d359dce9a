-- SPDX-License-Identifier: Apache-2.0
pub mod Kept
pub mod Laws
