-- SPDX-License-Identifier: Apache-2.0
pub mod Asked
pub mod Split
pub mod Served
