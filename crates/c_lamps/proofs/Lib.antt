-- SPDX-License-Identifier: Apache-2.0
pub mod Loop
pub mod Pieces
pub mod Rows
pub mod Parts
pub mod Again
pub mod Laws
