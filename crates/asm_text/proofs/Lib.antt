pub mod PieceLaws
pub mod HexLaws
mod NameLaws
pub mod WordLaws
pub mod Capped
pub mod ListLaws
pub mod ValueLaws
pub mod SourceLaws
pub mod ShownLaws
mod SpelledNames
mod SpelledShifts
mod SpelledAddresses
mod SpelledLists
pub mod WordEnds
mod SpelledLines
pub mod BodyLaws
pub mod FeedLaws
