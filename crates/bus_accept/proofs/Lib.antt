-- SPDX-License-Identifier: Apache-2.0
pub mod BusBytes
pub mod Stands
pub mod Words
