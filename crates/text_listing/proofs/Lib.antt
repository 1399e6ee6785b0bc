mod ListLaws
mod OrderLaws
