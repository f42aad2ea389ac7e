-- From what was opened of a list and its files to what the files of a shelf answer.
use Rattle.std.proofs.Common.{◌≡◌, ℕ, ◌+◌, ◌≤◌, List, [], ◌∷◌, map, Option, Some, IsSome, Result, Ok, Err, IfOk, IfErr, length, refl, sym, ap, ◌∙◌, inl, inr, subst, arith}
use Rattle.constraint_parse.specs.Values.{Spells}
use Rattle.constraint_parse.specs.declared.constraint.Constraint.{Constraint}
use Rattle.dap_errors.specs.declared.cause.Cause.{Cause}
use Rattle.dap_http.specs.Texts.{version}
use Rattle.dap_http.specs.declared.kind.Kind.TheVariants.{Das, Dods, Ver}
use Rattle.dap_outside.specs.Files.{IsBytes, Told}
use Rattle.das_text.specs.Das.{das}
use Rattle.join_source.specs.Asked.{JoinedAsk}
use Rattle.join_source.specs.Bodies.{FitsFiles, MayAsk, cost_in, text_in}
use Rattle.join_source.specs.Costs.{joined_cost}
use Rattle.join_source.specs.Joins.{headers_in, members_in, name_in}
use Rattle.join_source.specs.Members.{HaveHeaders, joined_attributes, lengths_of}
use Rattle.join_source.specs.Pieces.{AreTold}
use Rattle.join_source.specs.declared.body.JoinBody.{JoinBody}
use Rattle.join_source.specs.declared.joined.Joined.{Joined}
use Rattle.netcdf_source.specs.File.{FileHeader}
use Rattle.dap_server.proofs.JoinedSending.{for_refused}
use Rattle.dap_server.proofs.Lying.{same_bytes, some_files}
use Rattle.dap_server.specs.Costs.{IsFormCost, IsFormCostAt, IsListAsked, IsWithinLines, join_head_len, join_marks, most_of_joined}
use Rattle.dap_server.specs.Files.{Files, MayHave, Stored, form_of, joined}
use Rattle.dap_server.specs.Joins.{Member, Members, bytes_in, contents_in, joined_stored, stored_together}
use Rattle.dap_server.specs.Prepared.{IsJoinedFor, MayGiveWithin}
use Rattle.dap_server.specs.Results.{DodsAnswers, OpensAmong, Text, das_text, result_text}
use Rattle.dap_server.specs.Steps.{Is, Then}
use Rattle.dap_server.specs.inner.Joining.{IsJoinOf, MayOpenWithin}
use Rattle.dap_server.specs.inner.Members.{AreFilesOf, AreHeadersOf}
use Rattle.dap_server.specs.inner.Opening.{WhereRefused}
use Rattle.dap_server.specs.inner.Preparing.{asked_as}
use Rattle.dap_server.specs.declared.no_answer.Stop.{Stop}
use Rattle.dap_server.specs.declared.no_answer.Stop.TheVariants.{Refused, ShelfFault, Memory}
use Rattle.dap_server.proofs.OpeningLists.{join_lines, list_opens, same_contents, ok-same}

-- ---- The files of the lines.

first-same : (a b : Option (List ℕ)) (rest others : List (Option (List ℕ))) → a ∷ rest ≡ b ∷ others → (a ≡ b) × (rest ≡ others)
first-same a b rest others is = (cc is, cc is)

-- those that are told are the bytes of the members
told_bytes : {F : Type 0} (told : Told) (content : F → Option (List ℕ)) (size_of : F → ℕ) (fs : List F) (ms : List Member) (contents : List (List ℕ)) → AreFilesOf told content size_of fs ms
    → AreTold (map content fs) contents → contents ≡ bytes_in ms
told_bytes told content size_of [] [] [] are tells = refl
told_bytes told content size_of [] [] (c ∷ contents) are tells = cc tells
told_bytes told content size_of [] (m ∷ ms) contents are tells = absurd are
told_bytes told content size_of (f ∷ fs) [] contents are tells = absurd are
told_bytes told content size_of (f ∷ fs) (m ∷ ms) [] are tells = cc tells
told_bytes told content size_of (f ∷ fs) (m ∷ ms) (c ∷ contents) (own, others) tells =
    let (one, rest) = first-same (content f) (Some c) (map content fs) (map Some contents) tells in
    ap (λ x. x ∷ contents) (sym (same_bytes (content f) m.bytes c one own.0)) ∙ ap (λ xs. m.bytes ∷ xs) (told_bytes told content size_of fs ms contents others rest)

-- a shelf that tells its files tells them all
all_told : {F : Type 0} (told : Told) (content : F → Option (List ℕ)) (size_of : F → ℕ) (fs : List F) (ms : List Member) → AreFilesOf told content size_of fs ms → IsSome told → AreTold (map content fs) (bytes_in ms)
all_told told content size_of [] [] are some = refl
all_told told content size_of [] (m ∷ ms) are some = absurd are
all_told told content size_of (f ∷ fs) [] are some = absurd are
all_told told content size_of (f ∷ fs) (m ∷ ms) (own, others) some = ap (λ x. x ∷ map content fs) (own.1 some) ∙ ap (λ xs. Some m.bytes ∷ xs) (all_told told content size_of fs ms others some)

same_sizes : {F : Type 0} (told : Told) (content : F → Option (List ℕ)) (size_of : F → ℕ) (fs : List F) (ms : List Member) (headers : List FileHeader) → AreFilesOf told content size_of fs ms → AreHeadersOf headers ms
    → lengths_of headers ≡ map size_of fs
same_sizes told content size_of [] [] [] are headed = refl
same_sizes told content size_of [] [] (h ∷ headers) are headed = absurd headed
same_sizes told content size_of [] (m ∷ ms) headers are headed = absurd are
same_sizes told content size_of (f ∷ fs) [] headers are headed = absurd are
same_sizes told content size_of (f ∷ fs) (m ∷ ms) [] are headed = absurd headed
same_sizes told content size_of (f ∷ fs) (m ∷ ms) (h ∷ headers) (own, others) (head, heads) =
    ap (λ x. x ∷ lengths_of headers) (head.1 ∙ sym own.2) ∙ ap (λ xs. size_of f ∷ xs) (same_sizes told content size_of fs ms headers others heads)

-- ---- Their headers.

abbrev AllBytes : List (List ℕ) → Type 0
AllBytes [] = Unit {0}
AllBytes (b ∷ bs) = IsBytes b × AllBytes bs

abbrev TellsBytes : {F : Type 0} → (F → Option (List ℕ)) → Type 0
TellsBytes {F} content = (file : F) (bytes : List ℕ) → content file ≡ Some bytes → IsBytes bytes

told_are_bytes : {F : Type 0} (content : F → Option (List ℕ)) (fs : List F) (contents : List (List ℕ)) → TellsBytes content → AreTold (map content fs) contents → AllBytes contents
told_are_bytes content fs [] fit tells = tt
told_are_bytes content [] (c ∷ contents) fit tells = cc tells
told_are_bytes content (f ∷ fs) (c ∷ contents) fit tells =
    let (one, rest) = first-same (content f) (Some c) (map content fs) (map Some contents) tells in
    (fit f c one, told_are_bytes content fs contents fit rest)

have-headers : (told : Told) (line : ℕ) (names : List (List ℕ)) (ms : List Member) → Members told line names (Ok ms) → AllBytes (bytes_in ms) → HaveHeaders (contents_in ms) (bytes_in ms)
have-headers told line [] ms is fit = subst (λ l. HaveHeaders (contents_in l) (bytes_in l)) (sym (ok-same ms [] is)) tt
have-headers told line (name ∷ names) ms (inr (cause, is, bad)) fit = cc bad
have-headers told line (name ∷ names) ms (inl (m, is, inr (cause, rest, bad))) fit = cc bad
have-headers told line (name ∷ names) ms (inl (m, is, inl (others, rest, all))) fit =
    let same : ms ≡ m ∷ others = ok-same ms (m ∷ others) all in
    let parts : AllBytes (bytes_in (m ∷ others)) = subst (λ l. AllBytes (bytes_in l)) same fit in
    subst (λ l. HaveHeaders (contents_in l) (bytes_in l)) (sym same) ((parts.0, is.1), have-headers told (line + 1) names others rest parts.1)

-- ---- What follows a list that was opened.

-- a list that was not opened answers nothing else
pub stops_within : (told : Told) (name : List ℕ) (before now : ℕ) (next : Stored → Result Text Cause → Type 0) (s : Stop) → WhereRefused (λ why. MayOpenWithin told name before now (Err why)) s
    → WhereRefused (λ why. (files : Files) × MayHave told files × Then (OpensAmong told files name) next (Err why) × IsWithinLines files name before now) s
stops_within told name before now next (Refused why) (files, may, opens, asked) = (files, may, inr (why, opens, refl), asked)
stops_within told name before now next ShelfFault x = tt
stops_within told name before now next Memory x = tt

pub das_stops_within : (told : Told) (name : List ℕ) (before now : ℕ) (s : Stop) → WhereRefused (λ why. MayOpenWithin told name before now (Err why)) s
    → WhereRefused (λ why. (query : List ℕ) → MayGiveWithin told (asked_as Das name query) before now (Err why)) s
das_stops_within told name before now (Refused why) is = λ query. stops_within told name before now (λ s. Is (das_text s)) (Refused why) is
das_stops_within told name before now ShelfFault is = tt
das_stops_within told name before now Memory is = tt

-- by the value, and by the refusal
pub for_ok : {T : Type 0} {P Q : T → Type 0} → ((t : T) → P t → Q t) → (r : Result T Stop) → IfOk r P → IfOk r Q
for_ok f (Ok t) p = f t p
for_ok f (Err stop) p = tt

pub for_err : {T : Type 0} {P Q : Cause → Type 0} → ((why : Cause) → P why → Q why) → (r : Result T Stop) → IfErr r (WhereRefused P) → IfErr r (WhereRefused Q)
for_err f (Ok t) p = tt
for_err f (Err (Refused why)) p = f why p
for_err f (Err ShelfFault) p = tt
for_err f (Err Memory) p = tt

-- the version, for which nothing is asked
pub version_within : (told : Told) (name query : List ℕ) (before : ℕ) (r : Result (List ℕ) Stop) → IfOk r (λ text. text ≡ version) → IfOk r (λ text. MayGiveWithin told (asked_as Ver name query) before before (Ok (result_text Ver text)))
version_within told name query before (Ok text) is =
    let (files, may) = some_files told in
    (files, may, ap (λ t. Ok (result_text Ver t)) is, omega arith)
version_within told name query before (Err stop) is = tt

module _ {F : Type 0} (told : Told) (content : F → Option (List ℕ)) (size_of : F → ℕ) (name : List ℕ) (j : Joined) (fs : List F) (form : form_of name ≡ Some joined) (is : IsJoinOf told content size_of name j fs) where
  abbrev its_stored : Stored
  its_stored = stored_together (name_in j) (members_in j) (bytes_in is.ms)

  same_members : members_in j ≡ contents_in is.ms
  same_members = same_contents (headers_in j) is.ms is.headers

  same_stored : its_stored ≡ joined_stored name is.ms
  same_stored = ap (λ n. stored_together n (members_in j) (bytes_in is.ms)) is.named ∙ ap (λ cs. stored_together name cs (bytes_in is.ms)) same_members

  pub joined_opens : OpensAmong told is.files name (Ok its_stored)
  joined_opens = list_opens told is.files name is.bytes (Ok its_stored) form is.there (inl (is.names, is.lists, inl (is.ms, is.members, (is.can_join, same_stored))))

  pub joined_follows : (next : Stored → Result Text Cause → Type 0) (r : Result Text Cause) → next its_stored r → (files : Files) × MayHave told files × Then (OpensAmong told files name) next r
  joined_follows next r n = (is.files, is.may_have, inl (its_stored, joined_opens, n))

  -- and no more was asked than for the files that are joined
  module _ (before now : ℕ) (asked : now ≤ before + most_of_joined (length fs)) where
    follows_within : (next : Stored → Result Text Cause → Type 0) (r : Result Text Cause) → next its_stored r
        → (files : Files) × MayHave told files × Then (OpensAmong told files name) next r × IsWithinLines files name before now
    follows_within next r n = (is.files, is.may_have, inl (its_stored, joined_opens, n), omega (arith, asked, join_lines told content size_of name j fs is))

    pub das_joined : (query text : List ℕ) → text ≡ das (joined_attributes (members_in j)) → MayGiveWithin told (asked_as Das name query) before now (Ok (result_text Das text))
    das_joined query text is_text = follows_within (λ s. Is (das_text s)) _ (ap (λ t. Ok (result_text Das t)) is_text)

    pub follows_ok : {T : Type 0} (next : Stored → Result Text Cause → Type 0) (answer : T → Text) (r : Result T Stop) → IfOk r (λ t. (files : List (List ℕ)) → next (stored_together (name_in j) (members_in j) files) (Ok (answer t)))
        → IfOk r (λ t. (files : Files) × MayHave told files × Then (OpensAmong told files name) next (Ok (answer t)) × IsWithinLines files name before now)
    follows_ok next answer r n = for_ok (λ t given. follows_within next (Ok (answer t)) (given (bytes_in is.ms))) r n

    pub follows_err : {T : Type 0} (next : Stored → Result Text Cause → Type 0) (r : Result T Stop) → IfErr r (WhereRefused (λ why. (files : List (List ℕ)) → next (stored_together (name_in j) (members_in j) files) (Err why)))
        → IfErr r (WhereRefused (λ why. (files : Files) × MayHave told files × Then (OpensAmong told files name) next (Err why) × IsWithinLines files name before now))
    follows_err next r n = for_err (λ why given. follows_within next (Err why) (given (bytes_in is.ms))) r n

    pub follows_stop : (next : Stored → Result Text Cause → Type 0) (s : Stop) → WhereRefused (λ why. (files : List (List ℕ)) → next (stored_together (name_in j) (members_in j) files) (Err why)) s
        → WhereRefused (λ why. (files : Files) × MayHave told files × Then (OpensAmong told files name) next (Err why) × IsWithinLines files name before now) s
    follows_stop next s n = for_refused (λ why given. follows_within next (Err why) (given (bytes_in is.ms))) s n

    pub dods_joined : (query : List ℕ) → ((files : List (List ℕ)) → (text : List ℕ) × DodsAnswers (stored_together (name_in j) (members_in j) files) query (Ok (result_text Dods text)))
        → (text : List ℕ) × MayGiveWithin told (asked_as Dods name query) before now (Ok (result_text Dods text))
    dods_joined query some =
        let (text, answers) = some (bytes_in is.ms) in
        (text, follows_within (λ s. DodsAnswers s query) _ answers)

  -- their headers, as the body has them
  its_headers : (contents : List (List ℕ)) → TellsBytes content → AreTold (map content fs) contents → HaveHeaders (members_in j) contents
  its_headers contents fit tells =
      let same : contents ≡ bytes_in is.ms = told_bytes told content size_of fs is.ms contents is.are_files tells in
      let bytes : AllBytes (bytes_in is.ms) = subst AllBytes same (told_are_bytes content fs contents fit tells) in
      subst (λ cs. HaveHeaders cs contents) (sym same_members) (subst (HaveHeaders (contents_in is.ms)) (sym same) (have-headers told 1 is.names is.ms is.members bytes))

  its_asked : (query : List ℕ) (constraint : Constraint) → Spells query constraint → IsListAsked told name query is.ms constraint
  its_asked query constraint spells = record {
    files = is.files;
    may_have = is.may_have;
    bytes = is.bytes;
    there = is.there;
    names = is.names;
    lists = is.lists;
    members = is.members;
    can_join = is.can_join;
    spells = spells;
  }

  -- in the words of the members
  told_cost : (constraint : Constraint) (n : ℕ) → n ≤ joined_cost (members_in j) (join_marks (members_in j) (name_in j) constraint) → n ≤ joined_cost (contents_in is.ms) (join_marks (contents_in is.ms) name constraint)
  told_cost constraint n le =
      subst (λ m. n ≤ joined_cost (contents_in is.ms) (join_marks (contents_in is.ms) m constraint)) is.named
      (subst (λ cs. n ≤ joined_cost cs (join_marks cs (name_in j) constraint)) same_members le)

  told_asks : (constraint : Constraint) (contents : List (List ℕ)) (put cost : ℕ) → contents ≡ bytes_in is.ms
      → JoinedAsk (members_in j) (join_marks (members_in j) (name_in j) constraint) contents (join_head_len (members_in j) (name_in j) constraint) put cost
      → JoinedAsk (contents_in is.ms) (join_marks (contents_in is.ms) name constraint) (bytes_in is.ms) (join_head_len (contents_in is.ms) name constraint) put cost
  told_asks constraint contents put cost same asks =
      subst (λ m. JoinedAsk (contents_in is.ms) (join_marks (contents_in is.ms) m constraint) (bytes_in is.ms) (join_head_len (contents_in is.ms) m constraint) put cost) is.named
      (subst (λ cs. JoinedAsk cs (join_marks cs (name_in j) constraint) (bytes_in is.ms) (join_head_len cs (name_in j) constraint) put cost) same_members
      (subst (λ files. JoinedAsk (members_in j) (join_marks (members_in j) (name_in j) constraint) files (join_head_len (members_in j) (name_in j) constraint) put cost) same asks))

  pub body_joined : (query : List ℕ) (b : JoinBody) → TellsBytes content
      → ((files : List (List ℕ)) → HaveHeaders (members_in j) files → DodsAnswers (stored_together (name_in j) (members_in j) files) query (Ok (result_text Dods (text_in b files))))
      → ((files : List (List ℕ)) → (text : List ℕ) × DodsAnswers (stored_together (name_in j) (members_in j) files) query (Ok (result_text Dods text)))
      → FitsFiles b (lengths_of (headers_in j))
      → ((constraint : Constraint) × Spells query constraint × (cost_in b ≤ joined_cost (members_in j) (join_marks (members_in j) (name_in j) constraint)))
      → ((constraint : Constraint) × Spells query constraint × ((files : List (List ℕ)) (put cost : ℕ) → HaveHeaders (members_in j) files → MayAsk b files put cost
      → JoinedAsk (members_in j) (join_marks (members_in j) (name_in j) constraint) files (join_head_len (members_in j) (name_in j) constraint) put cost))
      → IsJoinedFor told content size_of (asked_as Dods name query) b fs
  body_joined query b fit text some fits (constraint, spells, few) (other, spells_other, asks) = record {
    body = λ contents tells.
        let same : contents ≡ bytes_in is.ms = told_bytes told content size_of fs is.ms contents is.are_files tells in
        joined_follows (λ s. DodsAnswers s query) _
        (subst (λ files. DodsAnswers (stored_together (name_in j) (members_in j) files) query (Ok (result_text Dods (text_in b contents)))) same (text contents (its_headers contents fit tells)));
    accepted = (let (t, answers) = some (bytes_in is.ms) in (t, joined_follows (λ s. DodsAnswers s query) _ answers));
    of_list = (refl, form);
    tells = λ told_some. (bytes_in is.ms, all_told told content size_of fs is.ms is.are_files told_some);
    fits = subst (FitsFiles b) (same_sizes told content size_of fs is.ms (headers_in j) is.are_files is.headers) fits;
    cost = (
      joined_cost (contents_in is.ms) (join_marks (contents_in is.ms) name constraint),
      subst (λ f. IsFormCost f told name query (joined_cost (contents_in is.ms) (join_marks (contents_in is.ms) name constraint))) (sym form) (is.ms, constraint, its_asked query constraint spells, refl),
      told_cost constraint (cost_in b) few,
    );
    cost_at = λ contents put cost tells may.
        let same : contents ≡ bytes_in is.ms = told_bytes told content size_of fs is.ms contents is.are_files tells in
        subst (λ f. IsFormCostAt f told name query put cost) (sym form)
        (is.ms, other, its_asked query other spells_other, told_asks other contents put cost same (asks contents put cost (its_headers contents fit tells) may));
  }
