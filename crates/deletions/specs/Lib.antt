pub mod Test
pub mod Walk
