-- SPDX-License-Identifier: Apache-2.0
pub mod History
pub mod Log
pub mod Step
pub mod Statement
