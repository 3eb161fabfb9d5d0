pub mod Numbers
pub mod Grammar
pub mod Parser
pub mod Reading
pub mod Laws
