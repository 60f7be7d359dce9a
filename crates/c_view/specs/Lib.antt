-- SPDX-License-Identifier: Apache-2.0
pub mod View
pub mod Numbers
pub mod Code
