pub mod Transcripts
pub mod Cases
