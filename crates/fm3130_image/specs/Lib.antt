-- SPDX-License-Identifier: Apache-2.0
pub mod Image
pub mod Places
pub mod Reading
pub mod Made
pub mod Code
