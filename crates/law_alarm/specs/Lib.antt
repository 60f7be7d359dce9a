-- SPDX-License-Identifier: Apache-2.0
pub mod Second
pub mod Alarm
pub mod Counted
