pub mod FormLemmas
pub mod RowLemmas
pub mod SpotLemmas
pub mod ChunkLemmas
pub mod PartLemmas
pub mod WholeLemmas
pub mod WorkerLemmas
