pub mod StepRegisters
pub mod StepTicks
pub mod StepWords
pub mod StepOperations
pub mod StepEdges
pub mod StepLemmas
pub mod TightTicks
pub mod TightState
pub mod TightSetting
pub mod TightData
pub mod TightWords
pub mod TightTransfers
pub mod TightOperations
pub mod TightArrivals
pub mod TightStep
mod SettingLemmas
mod SettingSets
mod TightSetUp
mod TightPages
mod TightMade
mod TightChoice
mod TightPlan
mod TightStart
mod TightFree
