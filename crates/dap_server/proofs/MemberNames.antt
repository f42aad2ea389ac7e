-- The name of a file that is joined is a text.
use Rattle.std.proofs.Common.{ℕ, List}
use Rattle.std.specs.Prelude.{IsTrue}
use Rattle.std.specs.Str.{IsUtf8}
use Rattle.std.proofs.lemmas.Bool.{and_parts}
use Rattle.target_names.proofs.NameText as names
use Rattle.join_source.specs.Names.{is_member_name}

pub name-text : (name : List ℕ) → IsTrue (is_member_name name) → IsUtf8 name
unfolding is_member_name
name-text name e = names.name-text name (and_parts _ _ e).0
