mod Hearing
mod Rows
mod Taking
mod Sending
