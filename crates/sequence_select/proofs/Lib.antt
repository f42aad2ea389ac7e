mod ByKind
mod Distinct
mod Ends
mod RowFacts
mod Orders
mod Owned
mod NoneLost
mod TableRows
