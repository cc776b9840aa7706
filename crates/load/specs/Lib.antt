pub mod Contract
pub mod Load
pub mod LoadLaws
pub mod LoadRefusals
