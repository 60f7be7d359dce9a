-- SPDX-License-Identifier: Apache-2.0
pub mod Instants
pub mod Week
pub mod Century
