-- A list of entries is that of a run exactly where it is a product.
pub mod ObjectNames
pub mod Served
pub mod WritesEnd
pub mod Stages
pub mod KnownBehind
pub mod KeeperAsks
pub mod LookLets
pub mod StateBehind
pub mod ProductIsRun
pub mod RunIsProduct
pub mod RoundOrder
