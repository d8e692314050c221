pub mod Chapters
