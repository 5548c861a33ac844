pub mod Blanked
pub mod Continued
pub mod Files
pub mod Joined
pub mod JoinedLines
pub mod Packs
pub mod Texts
