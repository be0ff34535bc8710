pub mod RankLaws
pub mod TreeLaws
