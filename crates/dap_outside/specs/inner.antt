pub mod BytesFit
