-- The head of a reply (RFC 9112, sections 4 and 6.3; RFC 9110, section 15.2), within this project's limits.
use Rattle.std.proofs.Common.{inl, inr}
use Rattle.std.specs.Prelude.{◌≡◌, ℕ, ◌+◌, ◌<◌, ◌≤◌, ◌⊎◌, Bool, true, ◌&&◌, ◌||◌, not, List, [], ◌∷◌, ◌++◌, length, if◌then◌else◌, nat_le, nat_lt, codes, IsTrue}
use Rattle.std.specs.List.{list_all, list_any}
use Rattle.std.specs.Char.{is_ascii_digit}
use Rattle.std.specs.Str.{bytes_eq, str_eq_ignore_ascii_case}
use Rattle.std.specs.Str.Parse.{digits_value}
use Rattle.httparse.specs.Grammar.{NeverHasResponse, ReadsResponse, ResponseHead, status_code}
use Rattle.dap_types.specs.Limits.{most_reply_heads}
use Rattle.reply_faults.specs.declared.bad.Bad.{Bad}
use Rattle.reply_faults.specs.declared.bad.Bad.TheVariants as bad
use Rattle.dap_http.specs.Fields.{named, values_of}
use Rattle.dap_http.specs.Requests.{feeds}
use Rattle.dap_http.specs.declared.coding.Coding.{Coding}
use Rattle.dap_http.specs.declared.coding.Coding.TheVariants.{Chunked, Length, ToEnd}

-- the bytes begin with this head, of at most 128 fields, and then have that rest
abbrev pub ReadsReply : List ℕ → ResponseHead → List ℕ → Type 0
ReadsReply bytes head rest = ReadsResponse bytes head rest × (length head.fields ≤ 128)

-- a status of 100 to 199, before the reply itself
abbrev pub is_interim : ResponseHead → Bool
is_interim head = nat_le 100 (status_code head) && nat_lt (status_code head) 200

-- such heads, and then that rest
abbrev pub Interim : List ResponseHead → List ℕ → List ℕ → Type 0
Interim [] bytes rest = bytes ≡ rest
Interim (head ∷ heads) bytes rest =
    (behind : List ℕ) × ReadsReply bytes head behind × IsTrue (is_interim head) × Interim heads behind rest

-- the heads at the front up to the first of another status, which is the final one
pub record HasFinal (bytes : List ℕ) (head : ResponseHead) (rest : List ℕ) : Type 0 where
  pub before : List ResponseHead
  pub behind : List ℕ
  pub interim : Interim before bytes behind
  pub reads : ReadsReply behind head rest
  pub is_final : IsTrue (not (is_interim head))

abbrev pub HasNoFinal : List ℕ → Type 0
HasNoFinal bytes = (head : ResponseHead) (rest : List ℕ) → ¬ (HasFinal bytes head rest)

-- 1 to 18 digits
abbrev pub is_length : List ℕ → Bool
is_length value = nat_lt 0 (length value) && nat_le (length value) 18 && list_all is_ascii_digit value

-- the values of Content-Length give a length, the same in each of them
abbrev pub length_of : List (List ℕ) → Bad ⊎ Coding
length_of [] = inr ToEnd
length_of (value ∷ values) =
    if is_length value && list_all (λ other. bytes_eq other value) values
    then inr (Length (digits_value 10 value))
    else inl bad.BadHead

-- How the body's length is told, or what is wrong: first that the body is coded otherwise, then the
-- length. The chunked coding goes before a length.
abbrev pub coding_by : List (List ℕ × List ℕ) → Bad ⊎ Coding
coding_by fields =
    let codings = values_of (codes "Transfer-Encoding") fields in
    let contents = values_of (codes "Content-Encoding") fields in
    if list_any (λ v. not (str_eq_ignore_ascii_case v (codes "chunked"))) codings
    || list_any (λ v. not (str_eq_ignore_ascii_case v (codes "identity"))) contents
    then inl bad.Coded
    else if list_any (λ v. true) codings then inr Chunked
    else length_of (values_of (codes "Content-Length") fields)

unfoldable pub coding_in : ResponseHead → Bad ⊎ Coding
coding_in head = coding_by (named head.fields)

-- ---- What a reader may answer where no final head stands in the bytes that it read.

abbrev pub NoMoreReply : List ℕ → Type 0
NoMoreReply bytes = (more rest : List ℕ) (head : ResponseHead) → ¬ (ReadsReply (bytes ++ more) head rest)

-- behind the heads of status 100 to 199 no head can follow
pub record IsNoReply (bytes : List ℕ) : Type 0 where
  pub before : List ResponseHead
  pub behind : List ℕ
  pub interim : Interim before bytes behind
  pub never : NoMoreReply behind
  pub why : NeverHasResponse behind ⊎ (130 ≤ feeds behind)

-- the heads are too long
pub record AreTooLong (bytes : List ℕ) : Type 0 where
  pub many : most_reply_heads ≤ length bytes
  pub none : (head : ResponseHead) (rest : List ℕ) → HasFinal bytes head rest → length rest + most_reply_heads < length bytes

-- behind the heads of status 100 to 199 no head begins, and they end before one does
pub record AreCut (bytes : List ℕ) : Type 0 where
  pub few : length bytes < most_reply_heads
  pub none : HasNoFinal bytes
  pub before : List ResponseHead
  pub behind : List ℕ
  pub interim : Interim before bytes behind
  pub last : (head : ResponseHead) (rest : List ℕ) → ¬ (ReadsReply behind head rest)
  pub why : ((more : List ℕ) × (head : ResponseHead) × ReadsReply (behind ++ more) head []) ⊎ (129 ≤ feeds behind)
