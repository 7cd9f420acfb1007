pub mod TwoDays
