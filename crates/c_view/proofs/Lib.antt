-- SPDX-License-Identifier: Apache-2.0
pub mod Views
pub mod Unique
pub mod Numbers
