pub mod RankLaws
pub mod RisingLaws
pub mod SectionLaws
