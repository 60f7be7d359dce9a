-- SPDX-License-Identifier: Apache-2.0
-- What the promises about catching up cite, each file over those above it.
pub mod CatchUp
pub mod Laws
pub mod Code
