pub mod DecodedParts
