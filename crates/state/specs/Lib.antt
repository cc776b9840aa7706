pub mod Contract
pub mod Judge
