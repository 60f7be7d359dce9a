-- SPDX-License-Identifier: Apache-2.0
pub mod Heard
pub mod Written
pub mod Order
