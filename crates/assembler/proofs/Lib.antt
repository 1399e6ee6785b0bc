pub mod CodeLaws
pub mod SweepLaws
pub mod ShownLaws
pub mod PutLaws
mod ListedLaws
pub mod ByteLaws
mod SayLaws
mod AssembleBasics
mod AssembleSteps
mod AssembleSweep
mod AssembleFill
mod AssembleLaws
mod AssembleBack
mod AssembleReady
mod AssembleAll
mod AssembleRuns
mod AssembleFits
mod AssembleFull
mod RefuseLeast
mod RefuseText
mod RefusePlaces
mod RefuseFront
mod RefuseSweep
mod RefuseLabels
mod RefuseLaws
pub mod PlaceLemmas
