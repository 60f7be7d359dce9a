-- SPDX-License-Identifier: Apache-2.0
pub mod Accepting
pub mod Image
pub mod Reading
pub mod Code
