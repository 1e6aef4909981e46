pub mod Pbkdf
pub use Rattle.sn_hmac.specs.Hmac
