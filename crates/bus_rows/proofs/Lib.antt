-- SPDX-License-Identifier: Apache-2.0
pub mod Inside
pub mod Rows
