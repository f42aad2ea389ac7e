mod Bits
mod CellFacts
mod Columns
mod Datasets
mod FieldBytes
mod FirstCauses
pub mod Fitting
pub mod Formed
mod KeptFields
mod LastColons
mod OneAnswers
mod Reading
mod Recorded
mod RowCauses
mod Rows
mod Sizes
mod Spaces
mod Standings
mod TableFacts
pub mod TableNames
mod Tabled
mod Wholes
mod Within
pub mod Wide
mod Marks
mod Widths
