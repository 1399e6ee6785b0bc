pub mod Folding
pub mod Folds
pub mod Html
pub mod Noted
pub mod Noting
pub mod Page
pub mod Rows
