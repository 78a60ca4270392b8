pub mod Images
pub mod Cuts
pub mod Reading
pub mod Finishing
pub mod Tops
pub mod Commands
