mod WordLaws
mod WatchLaws
mod BreakLaws
mod RowLaws
mod TalkLaws
mod NameLaws
