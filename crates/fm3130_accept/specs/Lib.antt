-- SPDX-License-Identifier: Apache-2.0
pub mod Admitted
pub mod Code
