-- The dataset and the values of joined files can be sent.
use Rattle.std.proofs.Common.{◌≢◌, ℕ, ◌+◌, ◌<◌, List, [], ◌∷◌, All, length, take, Some, None, Ok, Err, refl, sym, ap, subst, inl, inr, arith, length-take}
use Rattle.dap_server.proofs.OpeningLists.{ok-of, ok-same}
use Rattle.dap_types.specs.WellFormed.{IsWellFormed}
use Rattle.dap_model.specs.Fits.{FitsAll}
use Rattle.dap_model.specs.Grammar.{HasWords}
use Rattle.file_names.specs.Names.{segment}
use Rattle.join_source.proofs.FitsTogether.{joined_fits}
use Rattle.join_source.proofs.Named.{joined_has_words}
use Rattle.join_source.specs.Members.{CanJoin, HaveHeaders, all_records, joined_contents, joined_dataset}
use Rattle.join_source.specs.Trees.{joined_trees}
use Rattle.netcdf_source.proofs.Joined.{dataset_is_well_formed}
use Rattle.netcdf_source.specs.declared.header.Contents.{Contents}
use Rattle.dap_server.specs.Files.{Files}
use Rattle.dap_server.specs.Joins.{Member, Members, bytes_in, contents_in}
use Rattle.both_ends.specs.Ends.{HoldBytes}

-- each member begins with its header, and is of bytes
pub members-headed : (files : Files) (line : ℕ) (names : List (List ℕ)) (ms : List Member) → HoldBytes files → Members (Some files) line names (Ok ms) → HaveHeaders (contents_in ms) (bytes_in ms)
members-headed files line [] ms hold is = subst (λ (l : List Member). HaveHeaders (contents_in l) (bytes_in l)) (sym (ok-same ms [] is)) tt
members-headed files line (name ∷ names) ms hold (inr (cause, is, bad)) = cc bad
members-headed files line (name ∷ names) ms hold (inl (m, is, inr (cause, rest, bad))) = cc bad
members-headed files line (name ∷ names) ms hold (inl (m, is, inl (others, rest, all))) =
    subst (λ (l : List Member). HaveHeaders (contents_in l) (bytes_in l)) (sym (ok-same ms (m ∷ others) all))
    ((hold name m.bytes is.0, is.1), members-headed files (line + 1) names others hold rest)

well-formed : (cs : List Contents) (fs : List (List ℕ)) (name : List ℕ) → CanJoin cs → HaveHeaders cs fs → IsWellFormed (joined_dataset cs name)
unfolding joined_contents
well-formed [] fs name can have = absurd (can.record_dimension refl)
well-formed (c ∷ cs) [] name can have = absurd have
well-formed (c ∷ cs) (f ∷ fs) name can (own, others) = (dataset_is_well_formed c (take 1048576 f) name (length f) (all_records (c ∷ cs)) (omega (arith, length-take 1048576 f)) own.1).1

-- what they have together can be sent
pub record Joined (cs : List Contents) (fs : List (List ℕ)) (name : List ℕ) : Type 0 where
  pub words : HasWords (joined_dataset cs name)
  pub well_formed : IsWellFormed (joined_dataset cs name)
  pub fits : FitsAll (joined_dataset cs name).members (joined_trees cs fs)

pub joined-sent : (cs : List Contents) (fs : List (List ℕ)) (name : List ℕ) → CanJoin cs → HaveHeaders cs fs → All (λ b. b < 256) name → segment name ≢ [] → Joined cs fs name
joined-sent cs fs name can have name_bytes some =
    record { words = joined_has_words cs fs name can have name_bytes some; well_formed = well-formed cs fs name can have; fits = joined_fits cs fs name can have }
