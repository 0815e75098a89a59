pub mod Words
pub mod Numbers
pub mod WordForms
pub mod Phrases
pub mod Verbs
pub mod Reading
pub mod parts
