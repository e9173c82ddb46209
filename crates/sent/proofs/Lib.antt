pub mod PageCopied
pub mod Tight
