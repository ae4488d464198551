pub mod DataTexts
pub mod RootObject
pub mod RootTexts
pub mod TableObject
