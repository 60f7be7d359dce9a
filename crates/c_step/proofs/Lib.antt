-- SPDX-License-Identifier: Apache-2.0
pub mod Ways
pub mod Admitted
pub mod Laws
