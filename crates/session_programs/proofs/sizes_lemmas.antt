pub mod SizeStep
pub mod ExtentBoundsSize
