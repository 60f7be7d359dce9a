-- SPDX-License-Identifier: Apache-2.0
pub mod Map
pub mod Stored
pub mod Control
pub mod Alarm
pub mod Pin
