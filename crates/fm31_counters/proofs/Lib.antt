-- SPDX-License-Identifier: Apache-2.0
pub mod Written
pub mod Lock
pub mod Guard
pub mod Within
pub mod Cases
