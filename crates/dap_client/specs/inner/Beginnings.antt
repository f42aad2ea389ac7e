-- The first word of a body, and the Error object behind it.
use Rattle.std.specs.Prelude.{◌≡◌, ℕ, List, take}
use Rattle.dap_errors.specs.Reading.{limit}
use Rattle.error_word.specs.declared.first_word.FirstWord.{FirstWord}
use Rattle.error_word.specs.inner.FirstWords.{IsError, IsNoError, IsOpenWord}
use Rattle.dap_client.specs.inner.Objects.{IsObjectOf}
use Rattle.dap_client.specs.declared.beginning.Beginning.{Beginning}
use Rattle.dap_client.specs.declared.beginning.Beginning.TheVariants as begins
use Rattle.dap_client.specs.declared.beginning.InObject.{InObject}
use Rattle.dap_client.specs.declared.beginning.InObject.TheVariants as objects
use Rattle.dap_client.specs.declared.object.Object.TheVariants as parts

-- in an Error object, that goes on or is bad; want of memory says no more
abbrev pub IsInObject : InObject → List ℕ → Type 0
IsInObject (objects.Open object) bytes = IsError bytes × IsObjectOf bytes object
IsInObject (objects.Bad place) bytes = IsError bytes × IsObjectOf bytes (parts.Bad place)
IsInObject objects.Spent bytes = IsError bytes

-- before the first word is known, in an Error object, or in another text
abbrev pub IsBeginning : Beginning → List ℕ → Type 0
IsBeginning (begins.Open word front) bytes = IsOpenWord word bytes × (front.items ≡ take limit bytes)
IsBeginning (begins.Error read) bytes = IsInObject read bytes
IsBeginning begins.Other bytes = IsNoError bytes
IsBeginning begins.Spent bytes = (word : FirstWord) × IsOpenWord word bytes
