-- SPDX-License-Identifier: Apache-2.0
pub mod Cases
pub mod Entry
pub mod Wellformed
pub mod Valid
pub mod Telling
