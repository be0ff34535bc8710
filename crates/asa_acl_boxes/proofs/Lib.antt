pub mod CountLaws
pub mod BoxLaws
