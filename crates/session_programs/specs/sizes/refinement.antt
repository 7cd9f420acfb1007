pub mod TextSizes
