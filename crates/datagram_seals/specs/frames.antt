pub mod Hmac
pub mod Seals
pub mod SealLaws
