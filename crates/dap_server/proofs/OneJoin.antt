-- A list of files has one answer at most, where the files are told.
use Rattle.std.proofs.Common.{◌≡◌, ℕ, suc, ◌+◌, ◌<◌, ◌≤◌, List, [], ◌∷◌, ◌++◌, All, length, Option, Some, Ok, Err, refl, sym, ap, ◌∙◌, inl, inr, subst, arith}
use Rattle.std.proofs.lemmas.List.Elements.{All-head, All-tail}
use Rattle.plain_lemmas.proofs.Lists.{cons_first, cons_rest}
use Rattle.dap_errors.specs.declared.cause.Cause.{Cause}
use Rattle.dap_errors.specs.declared.file_cause.FileCause.{FileCause}
use Rattle.netcdf_source.proofs.OneVerdict.{one_verdict}
use Rattle.netcdf_source.specs.Header.{IsFirst, IsHeader}
use Rattle.netcdf_source.specs.Mapping.{HaveSameShape}
use Rattle.netcdf_source.specs.declared.header.Contents.{Contents}
use Rattle.join_source.specs.Causes.{FirstToDiffer, IsCause}
use Rattle.join_source.specs.Members.{CanJoin, first_of}
use Rattle.join_source.specs.declared.refusal.JoinRefusal.{JoinRefusal}
use Rattle.join_source.specs.declared.refusal.JoinRefusal.TheVariants as joins
use Rattle.dap_server.proofs.OneStep.{One, is_one, same_value, then_one}
use Rattle.dap_server.specs.Files.{Files, IsHeaderCause, front}
use Rattle.dap_server.specs.Joins.{AreJoined, IsJoined, IsMember, Lists, Member, Members, contents_in, join_cause}

lists_one : (bytes : List ℕ) → One (Lists bytes)
lists_one bytes (Ok names) (Ok others) one other = ap Ok (same_value names others _ one other)
lists_one bytes (Ok names) (Err k) one (refusal, why, is, is_why, is_k) = cc (one, is)
lists_one bytes (Err k) (Ok names) (refusal, why, is, is_why, is_k) other = cc (is, other)
lists_one bytes (Err k) (Err l) (refusal, why, is, is_why, is_k) (other, reason, is_other, is_reason, is_l) = cc (is, is_other, is_why, is_reason, is_k, is_l)

some-same : (found : Option (List ℕ)) (a b : List ℕ) → found ≡ Some a → found ≡ Some b → a ≡ b
some-same found a b one other = cc (one, other)

abbrev member-of : Contents → List ℕ → Member
member-of c bytes = record { contents = c; bytes = bytes }

member-same : (m n : Member) → m.contents ≡ n.contents → m.bytes ≡ n.bytes → m ≡ n
member-same m n contents bytes = ap (λ (c : Contents). member-of c m.bytes) contents ∙ ap (λ (b : List ℕ). member-of n.contents b) bytes

-- a file with a header has no cause
no-cause : (file other : List ℕ) (c : Contents) (why : Cause) → file ≡ other → IsHeader c (front file) (length file) → IsHeaderCause (front other) (length other) why → ⊥
no-cause file other c why same header (refusal, reason, is, is_reason, is_why) =
    cc (one_verdict (front file) (length file) (Ok c) (Err refusal) header (subst (λ f. IsFirst refusal (front f) (length f)) (sym same) is))

pub member_one : (files : Files) (line : ℕ) (name : List ℕ) → One (IsMember (Some files) line name)
member_one files line name (Ok m) (Ok n) (there, header) (there_n, header_n) =
    let same : m.bytes ≡ n.bytes = some-same (files name) m.bytes n.bytes there there_n in
    let alike : m.contents ≡ n.contents =
    same_value m.contents n.contents (Ok m.contents) refl (one_verdict (front m.bytes) (length m.bytes) (Ok m.contents) (Ok n.contents) header (subst (λ f. IsHeader n.contents (front f) (length f)) (sym same) header_n)) in
    ap Ok (member-same m n alike same)
member_one files line name (Ok m) (Err k) (there, header) (inl (none, is)) = cc (there, none)
member_one files line name (Ok m) (Err k) (there, header) (inr (file, why, found, bad, is)) = absurd (no-cause m.bytes file m.contents why (some-same (files name) m.bytes file there found) header bad)
member_one files line name (Err k) (Ok m) (inl (none, is)) (there, header) = cc (there, none)
member_one files line name (Err k) (Ok m) (inr (file, why, found, bad, is)) (there, header) = absurd (no-cause m.bytes file m.contents why (some-same (files name) m.bytes file there found) header bad)
member_one files line name (Err k) (Err l) (inl (none, is)) (inl (none_l, is_l)) = cc (is, is_l)
member_one files line name (Err k) (Err l) (inl (none, is)) (inr (file, why, found, bad, is_l)) = cc (none, found)
member_one files line name (Err k) (Err l) (inr (file, why, found, bad, is)) (inl (none, is_l)) = cc (none, found)
member_one files line name (Err k) (Err l) (inr (file, why, found, bad, is)) (inr (other, reason, found_l, bad_l, is_l)) = cc (is, is_l)

members_one : (files : Files) (line : ℕ) (names : List (List ℕ)) → One (Members (Some files) line names)
members_one files line [] = is_one _
members_one files line (name ∷ names) = then_one _ _ (member_one files line name) (λ m. then_one _ _ (members_one files (line + 1) names) (λ ms. is_one _))

-- ---- Files that are not joined.

all-middle : {X : Type 0} (P : X → Type 0) (xs : List X) (y : X) (zs : List X) → All P (xs ++ y ∷ zs) → P y
all-middle P [] y zs all = All-head P y zs all
all-middle P (x ∷ xs) y zs all = all-middle P xs y zs (All-tail P x (xs ++ y ∷ zs) all)

-- the first of which something does not hold has one place
first-one : {X : Type 0} (P : X → Type 0) (xs : List X) (y : X) (zs xs2 : List X) (y2 : X) (zs2 : List X) → xs ++ y ∷ zs ≡ xs2 ++ y2 ∷ zs2 → All P xs → (P y → ⊥) → All P xs2 → (P y2 → ⊥) → length xs ≡ length xs2
first-one P [] y zs [] y2 zs2 same all not all2 not2 = refl
first-one P [] y zs (x2 ∷ xs2) y2 zs2 same all not all2 not2 = absurd (not (subst P (sym (cons_first y x2 zs (xs2 ++ y2 ∷ zs2) same)) (All-head P x2 xs2 all2)))
first-one P (x ∷ xs) y zs [] y2 zs2 same all not all2 not2 = absurd (not2 (subst P (cons_first x y2 (xs ++ y ∷ zs) zs2 same) (All-head P x xs all)))
first-one P (x ∷ xs) y zs (x2 ∷ xs2) y2 zs2 same all not all2 not2 =
    ap suc (first-one P xs y zs xs2 y2 zs2 (cons_rest x x2 (xs ++ y ∷ zs) (xs2 ++ y2 ∷ zs2) same) (All-tail P x xs all) not (All-tail P x2 xs2 all2) not2)

differs-one : (cs : List Contents) (line other : ℕ) → FirstToDiffer cs line → FirstToDiffer cs other → line ≡ other
differs-one cs line other f g =
    f.number ∙ ap (λ n. n + 1) (first-one (HaveSameShape (first_of cs)) f.before f.other f.behind g.before g.other g.behind (sym f.parts ∙ g.parts) f.same f.differs g.same g.differs) ∙ sym g.number

not-same : (cs : List Contents) (line : ℕ) → FirstToDiffer cs line → All (HaveSameShape (first_of cs)) cs → ⊥
not-same cs line f same = f.differs (all-middle (HaveSameShape (first_of cs)) f.before f.other f.behind (subst (All (HaveSameShape (first_of cs))) f.parts same))

too-few : (a b : ℕ) → a < b → b ≤ a → ⊥
too-few a b lt le = omega (arith, lt, le)

-- such files cannot be joined
no-join : (cs : List Contents) (refusal : JoinRefusal) (why : FileCause) → CanJoin cs → IsCause cs refusal → join_cause refusal ≡ Some why → ⊥
no-join cs joins.NoRecord why can is is_why = can.record_dimension is
no-join cs (joins.Differs line) why can (has, differs) is_why = not-same cs line differs can.same
no-join cs joins.TooManyRecords why can (has, same, many) is_why = too-few _ _ many can.few
no-join cs joins.Memory why can is is_why = cc is_why

-- for one cause
cause-one : (cs : List Contents) (one other : JoinRefusal) (why reason : FileCause) → IsCause cs one → IsCause cs other → join_cause one ≡ Some why → join_cause other ≡ Some reason → one ≡ other
cause-one cs joins.NoRecord joins.NoRecord why reason is is_other w r = refl
cause-one cs joins.NoRecord (joins.Differs line) why reason is is_other w r = absurd (is_other.0 is)
cause-one cs joins.NoRecord joins.TooManyRecords why reason is is_other w r = absurd (is_other.0 is)
cause-one cs joins.NoRecord joins.Memory why reason is is_other w r = cc r
cause-one cs (joins.Differs line) joins.NoRecord why reason is is_other w r = absurd (is.0 is_other)
cause-one cs (joins.Differs line) (joins.Differs other) why reason is is_other w r = ap joins.Differs (differs-one cs line other is.1 is_other.1)
cause-one cs (joins.Differs line) joins.TooManyRecords why reason is is_other w r = absurd (not-same cs line is.1 is_other.1)
cause-one cs (joins.Differs line) joins.Memory why reason is is_other w r = cc r
cause-one cs joins.TooManyRecords joins.NoRecord why reason is is_other w r = absurd (is.0 is_other)
cause-one cs joins.TooManyRecords (joins.Differs line) why reason is is_other w r = absurd (not-same cs line is_other.1 is.1)
cause-one cs joins.TooManyRecords joins.TooManyRecords why reason is is_other w r = refl
cause-one cs joins.TooManyRecords joins.Memory why reason is is_other w r = cc r
cause-one cs joins.Memory other why reason is is_other w r = cc w

joined_one : (name : List ℕ) (ms : List Member) → One (AreJoined name ms)
joined_one name ms (Ok s) (Ok t) one other = cc (one.1, other.1)
joined_one name ms (Ok s) (Err k) one (refusal, why, is, is_why, is_k) = absurd (no-join (contents_in ms) refusal why one.0 is is_why)
joined_one name ms (Err k) (Ok s) (refusal, why, is, is_why, is_k) other = absurd (no-join (contents_in ms) refusal why other.0 is is_why)
joined_one name ms (Err k) (Err l) (refusal, why, is, is_why, is_k) (other, reason, is_other, is_reason, is_l) =
    cc (cause-one (contents_in ms) refusal other why reason is is_other is_why is_reason, is_why, is_reason, is_k, is_l)

pub join_one : (files : Files) (name bytes : List ℕ) → One (IsJoined (Some files) name bytes)
join_one files name bytes = then_one _ _ (lists_one bytes) (λ names. then_one _ _ (members_one files 1 names) (joined_one name))
