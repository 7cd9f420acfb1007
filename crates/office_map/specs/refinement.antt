pub mod RecordCounts
pub mod RecordChains
pub mod PlanReader
pub mod OfficeIndex
pub mod OrderSearch
