-- SPDX-License-Identifier: Apache-2.0
pub mod Stretch
pub mod Trip
pub mod Through
