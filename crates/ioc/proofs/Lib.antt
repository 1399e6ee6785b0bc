pub mod TimerLemmas
