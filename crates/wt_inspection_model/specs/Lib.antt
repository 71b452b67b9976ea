pub mod Names
pub mod SettingNames
pub mod Rules
pub mod InstructionNames
pub mod FaultCodes
