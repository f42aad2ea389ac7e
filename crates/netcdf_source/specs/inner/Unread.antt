-- Attributes that stand one behind the other and are read one at a time.
use Rattle.std.specs.Prelude.{ℕ, zero, suc, List, [], ◌∷◌, Result, Ok, Err}
use Rattle.netcdf_source.specs.Attribute.{Attribute}
use Rattle.netcdf_source.specs.inner.Reading.{◌>>=◌, attribute_at}
use Rattle.netcdf_source.specs.declared.failure.Failure.{Failure}
use Rattle.netcdf_source.specs.declared.version.Version.{Version}

abbrev pub first_then : Result (Attribute × List ℕ) Failure → (List ℕ → List Attribute) → List Attribute
first_then (Ok x) others = x.0 ∷ others x.1
first_then (Err e) others = []

-- so many attributes from the front of some bytes, as far as they stand there
unfoldable pub attributes_in : Version → ℕ → List ℕ → List Attribute
attributes_in version zero bytes = []
attributes_in version (suc n) bytes = first_then (attribute_at version bytes) (attributes_in version n)

-- what stands behind so many attributes, or what fails in them
unfoldable pub behind_at : Version → ℕ → List ℕ → Result (List ℕ) Failure
behind_at version zero bytes = Ok bytes
behind_at version (suc n) bytes = do
  x ← attribute_at version bytes
  behind_at version n x.1
