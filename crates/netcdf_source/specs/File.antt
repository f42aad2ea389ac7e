-- What a header says of a file.
use Rattle.std.specs.Prelude.{ℕ}
use Rattle.netcdf_source.specs.declared.header.Contents.{Contents}

-- the contents of the header, and the bytes of the file
pub record FileHeader : Type 0 where
  pub contents : Contents
  pub length : ℕ
