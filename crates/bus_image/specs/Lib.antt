-- SPDX-License-Identifier: Apache-2.0
pub mod Bytes
pub mod Layout
pub mod Places
pub mod Code
