pub mod AskedOnce
pub mod AnswerLine
pub mod CheckRun
