pub mod Tests
pub mod ShapeLemmas
pub mod ValueLemmas
mod Noted
mod ValueSteps
mod Ways
pub mod FieldTests
pub mod Least
pub mod Growing
pub mod Stepping
pub mod Reaching
pub mod ArenaLemmas
pub mod Together
pub mod RowLemmas
