-- SPDX-License-Identifier: Apache-2.0
pub mod Ledger
pub mod Inside
pub mod Rowing
pub mod Rows
