pub mod Refusing
pub mod Wanting
pub mod Lending
pub mod Behind
pub mod Templates
