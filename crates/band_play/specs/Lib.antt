pub mod Bulk
pub mod Faults
pub mod Lines
pub mod Play
pub use Rattle.band_player.specs.Player
pub mod Playing
pub mod Text
pub mod Visits
