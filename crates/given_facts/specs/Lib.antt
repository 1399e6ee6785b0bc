pub mod GivenFaults
pub mod GivenFile
pub mod GivenPlaces
pub mod GivenPlaceTests
pub mod GivenRules
