pub mod FrameChecks
pub mod FrameParts
pub mod Ends
pub mod DecodedWords
pub mod ReadBack
pub mod WriteBack
pub mod FrameRead
