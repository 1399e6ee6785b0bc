mod BegunLaws
mod ProvedLaws
