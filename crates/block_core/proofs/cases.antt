pub mod RankCases
pub mod FragmentCases
pub mod ValueCases
pub mod HandCases
pub mod LevelCases
pub mod RoleCases
pub mod SumCases
