-- SPDX-License-Identifier: Apache-2.0
-- The laws of months in a row, of the table, and of many ticks, each file over those above it.
pub mod Months
pub mod StartTable
pub mod Standing
pub mod Later
