-- SPDX-License-Identifier: Apache-2.0
pub mod Flags
pub mod Alarm
pub mod Masks
pub mod Counted
