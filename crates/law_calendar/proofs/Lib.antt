-- SPDX-License-Identifier: Apache-2.0
pub mod Fields
pub mod Dates
pub mod Month
