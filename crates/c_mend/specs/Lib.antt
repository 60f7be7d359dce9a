-- SPDX-License-Identifier: Apache-2.0
pub mod Changes
pub mod Mend
pub mod Laws
pub mod Code
