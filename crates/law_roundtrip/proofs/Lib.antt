-- SPDX-License-Identifier: Apache-2.0
pub mod Places
pub mod Bytes
pub mod Transactions
pub mod Tells
pub mod Trip
pub mod Through
