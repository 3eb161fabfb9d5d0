-- The heads of lists play a tournament: its winners, one after the other, are the lists joined.
pub mod ListRests
pub mod Winner
pub mod Joined
