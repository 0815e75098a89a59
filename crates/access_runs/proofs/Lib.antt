pub mod RuleTexts
pub mod Accessing
pub mod Completing
