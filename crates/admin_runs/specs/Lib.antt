pub mod StepMessage
pub mod ReplyLine
pub mod AdminRun
pub mod parts
