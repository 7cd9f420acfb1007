pub mod Text
pub mod TextLaws
pub mod short
pub mod marked
