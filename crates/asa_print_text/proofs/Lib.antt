pub mod ByteLaws
pub mod SpellingLaws
pub mod DigitLaws
pub mod AddressLaws
pub mod NameLaws
pub mod ReaderLaws
pub mod ServiceLaws
pub mod TextLaws
