-- SPDX-License-Identifier: Apache-2.0
pub mod Two
pub mod Again
pub mod Local
