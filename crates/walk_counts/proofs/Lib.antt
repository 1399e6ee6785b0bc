pub mod CountLemmas
pub mod NumberLemmas
pub mod SumLemmas
pub mod StayLemmas
