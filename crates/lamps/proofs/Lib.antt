-- SPDX-License-Identifier: Apache-2.0
pub mod Events
pub mod Byte
pub mod Proven
