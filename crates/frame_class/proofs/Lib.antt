pub mod ClassIs
pub mod LeastOctets
pub mod OneClass
pub mod Layers
pub mod SeenIs
