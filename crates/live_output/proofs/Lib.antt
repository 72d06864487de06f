pub mod PartsJoined
pub mod Held
pub mod Sending
pub mod Turning
pub mod Rounds
