pub mod LinesByNumber
