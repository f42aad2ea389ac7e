pub mod Selections
pub mod Operators
pub mod Comparisons
pub mod KeptRows
pub mod Operands
pub mod Tests
pub mod Laws
