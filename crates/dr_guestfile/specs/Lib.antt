pub mod Keywords
pub mod SettingLines
pub mod SlotLines
pub mod OpLines
pub mod ScriptLines
pub mod GuestTexts
pub mod FaultLines
