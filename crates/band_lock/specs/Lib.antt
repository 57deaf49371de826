pub mod ReaderWriter
pub use Rattle.band_balance.specs.Line
