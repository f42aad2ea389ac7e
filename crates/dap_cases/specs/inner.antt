pub mod BytesBelow
