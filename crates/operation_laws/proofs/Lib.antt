pub mod R15Lemmas
pub mod WriteLemmas
pub mod EffectLaws
pub mod SingleLaws
pub mod LoadedWords
pub mod BlockLaws
pub mod OperationLaws
pub mod KeepLaws
