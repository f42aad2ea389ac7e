-- What contracts see of joined files: their headers, what these say, and the name of their list.
use Rattle.std.specs.Prelude.{ℕ, List}
use Rattle.netcdf_source.specs.File.{FileHeader}
use Rattle.netcdf_source.specs.declared.header.Contents.{Contents}
use Rattle.join_source.specs.Members.{contents_of}
use Rattle.join_source.specs.declared.joined.Joined.{Joined}

abbrev pub headers_in : Joined → List FileHeader
headers_in j = j.headers

abbrev pub members_in : Joined → List Contents
members_in j = contents_of (headers_in j)

abbrev pub name_in : Joined → List ℕ
name_in j = j.file_name
