-- SPDX-License-Identifier: Apache-2.0
-- What the promises about many ticks of a calendar cite, each file over those above it.
pub mod Table
pub mod After
pub mod Code
