-- Lists of entries that are worked out.
pub mod RoundsScenario
pub mod RoundsProduct
