mod Joining
mod Taking
mod Seeing
mod Sent
