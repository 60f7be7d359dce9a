-- SPDX-License-Identifier: Apache-2.0
-- What only contracts of inner functions cite; no entry and no law rests on it.
pub mod Found
