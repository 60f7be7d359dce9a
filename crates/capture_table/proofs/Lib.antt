-- SPDX-License-Identifier: Apache-2.0
pub mod Sound
pub mod Four
pub mod Finding
pub mod Numbered
