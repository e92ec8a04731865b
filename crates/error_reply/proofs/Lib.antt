pub mod ReplyTable
pub mod ReplyWritten
pub mod ReplyRead
