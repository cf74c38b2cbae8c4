-- what is proved of the preset number
pub mod PresetLaws
