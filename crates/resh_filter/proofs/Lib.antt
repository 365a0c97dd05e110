mod Answered
pub mod MatchLemmas
