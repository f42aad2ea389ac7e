-- What is put of an element, part by part.
use Rattle.std.proofs.Common.{◌≡◌, ℕ, ◌/◌, ◌%◌, ◌<◌, ◌≤◌, ◌^◌, ◌⊎◌, Bool, true, false, nat_lt, List, [], ◌∷◌, ◌++◌, length, drop, get_or, codes, min, map, slice_get, refl, ap, ◌∙◌, sym, arith, inl, inr, ⊎_elim}
use Rattle.std.proofs.Math.Nat.{div-eq_of_lt, mod-eq_of_lt}
use Rattle.std.proofs.lemmas.Bool.{false≢true}
use Rattle.std.proofs.lemmas.Bool.Decides.{nat_tests}
use Rattle.std.specs.Option.{option_map_or}
use Rattle.dap_model.specs.Shown.{index_text}
use Rattle.dap_types.proofs.Views.{members-here, members-end}
use Rattle.dap_types.specs.Model.{Member, scalar, array, structure, grid, sequence, Members, product}
use Rattle.dap_types.specs.View.{member_view, members_view}
use Rattle.dap_types.specs.declared.declarations.ArrayDecl.{ArrayDecl}
use Rattle.dap_types.specs.declared.declarations.Decl.{Decl}
use Rattle.dap_types.specs.declared.declarations.Dim.{Dim}
use Rattle.xdr_fields.specs.Wants.{index_texts}
use Rattle.xdr_decode.proofs.Spots.{from-drop, split_path}
use Rattle.xdr_decode.specs.inner.Lines.{array_text, cell_text, path_text, shown_token, text_first, text_in, token_text}
use Rattle.xdr_decode.specs.declared.field.Token.{Token}
use Rattle.xdr_decode.specs.declared.field.Token.TheVariants as token
use Rattle.xdr_decode.specs.declared.place.Stage.{Stage}
use Rattle.xdr_fields.proofs.Judged.{compare}

pub line_of : (t : Token) → ((n : ℕ) → ¬ (t ≡ token.Size n)) → codes " = " ++ (shown_token t ++ codes "\n") ≡ token_text t
line_of token.Count apart = refl
line_of (token.Whole z) apart = refl
line_of (token.Bits32 n) apart = refl
line_of (token.Bits64 n) apart = refl
line_of (token.Size n) apart = absurd (apart n refl)
line_of token.Zeros apart = refl
line_of token.Row apart = refl
line_of token.End apart = refl

-- the indexes of an element, the first and the others
abbrev pub sizes_of : List Dim → List ℕ
sizes_of dims = map (λ dim. dim.size) dims

pub indexes_more : (dims : List Dim) (n : ℕ) → ¬ (length dims ≡ 0)
    → index_texts (sizes_of dims) n ≡ index_text (n / product (sizes_of (drop 1 dims))) ++ index_texts (sizes_of (drop 1 dims)) (n % product (sizes_of (drop 1 dims)))
indexes_more [] n some = absurd (some refl)
indexes_more (d ∷ dims) n some = refl

pub indexes_none : (dims : List Dim) (n : ℕ) → length dims ≡ 0 → [] ≡ index_texts (sizes_of dims) n
indexes_none [] n none = refl
indexes_none (d ∷ dims) n none = absurd (omega (arith, none))

-- there is no such column
pub past_all : (at n : ℕ) → (at < n → false ≡ true) → n ≤ at
past_all at n none = ⊎_elim (λ lt. absurd (false≢true (none lt))) (λ le. le) (compare (nat_lt at n) at n refl)

-- more elements than 2^32 count as so many
pub capped : (n p c : ℕ) → n < 2 ^ 32 → c ≡ min p (2 ^ 32) → (n / c ≡ n / p) × (n % c ≡ n % p)
capped n p c small is = ⊎_elim within beyond (either p)
  where
    either : (p : ℕ) → (p < 2 ^ 32) ⊎ (2 ^ 32 ≤ p)
    either p = compare (nat_lt p (2 ^ 32)) p (2 ^ 32) refl

    within : p < 2 ^ 32 → (n / c ≡ n / p) × (n % c ≡ n % p)
    within lt = let same : c ≡ p = omega (arith, is, lt) in (ap (λ k. n / k) same, ap (λ k. n % k) same)

    beyond : 2 ^ 32 ≤ p → (n / c ≡ n / p) × (n % c ≡ n % p)
    beyond le =
        let one : n < c = omega (arith, is, le, small) in
        let two : n < p = omega (arith, le, small) in
        (div-eq_of_lt one ∙ sym (div-eq_of_lt two), mod-eq_of_lt one ∙ sym (mod-eq_of_lt two))

pub indexes_put : (dims rest : List Dim) (n c i k : ℕ) → ¬ (length dims ≡ 0) → rest ≡ drop 1 dims → n < 2 ^ 32 → c ≡ min (product (sizes_of rest)) (2 ^ 32) → i ≡ n / c → k ≡ n % c
    → index_text i ++ index_texts (sizes_of rest) k ≡ index_texts (sizes_of dims) n
indexes_put dims rest n c i k some is small count first others =
    let (one, two) = capped n (product (sizes_of rest)) c small count in
    ap (λ x. index_text x ++ index_texts (sizes_of rest) k) (first ∙ one) ∙ ap (λ x. index_text (n / product (sizes_of rest)) ++ index_texts (sizes_of rest) x) (others ∙ two)
    ∙ ap (λ ds. index_text (n / product (sizes_of ds)) ++ index_texts (sizes_of ds) (n % product (sizes_of ds))) is ∙ sym (indexes_more dims n some)

-- the path of an element, by the first index
pub path_none : (ms : Members) (path : List ℕ) (s : Stage) → length path ≡ 0 → [] ≡ path_text ms path s
path_none ms [] s none = refl
path_none ms (i ∷ path) s none = absurd (omega (arith, none))

pub path_past : (path : List ℕ) (decls : List Decl) (s : Stage) → ¬ (length path ≡ 0) → length decls ≤ get_or path 0 0 → [] ≡ path_text (members_view decls) path s
path_past path decls s some le =
    let i = get_or path 0 0 in
    sym (ap (λ p. path_text (members_view decls) p s) (split_path path some) ∙ ap (text_first (text_in (drop 1 path) s)) (from-drop i decls ∙ members-end decls i le))

pub path_here : (path : List ℕ) (decls : List Decl) (d : Decl) (m : Member) (s : Stage) → ¬ (length path ≡ 0) → get_or path 0 0 < length decls → d ≡ get_or decls (get_or path 0 0) d → member_view d ≡ m
    → text_in (drop 1 path) s m ≡ path_text (members_view decls) path s
path_here path decls d m s some lt is view =
    let i = get_or path 0 0 in
    sym (ap (λ p. path_text (members_view decls) p s) (split_path path some) ∙ ap (text_first (text_in (drop 1 path) s)) (from-drop i decls ∙ members-here decls i d lt is) ∙ ap (text_in (drop 1 path) s) view)

pub text_scalar : (path : List ℕ) (s : Stage) (c : _) → c.name ≡ text_in path s (scalar c)
text_scalar [] s c = refl
text_scalar (i ∷ path) s c = refl

pub text_array : (path : List ℕ) (s : Stage) (a : ArrayDecl) → array_text s a ≡ text_in path s (array a)
text_array [] s a = refl
text_array (i ∷ path) s a = refl

pub text_parts : (path : List ℕ) (s : Stage) (name : List ℕ) (parts : Members) → 1 ≤ length path → (name ++ codes ".") ++ path_text parts path s ≡ text_in path s (structure name parts)
text_parts [] s name parts long = absurd (omega (arith, long))
text_parts (i ∷ path) s name parts long = refl

pub text_short_parts : (path : List ℕ) (s : Stage) (name : List ℕ) (parts : Members) → length path < 2 → [] ≡ text_in (drop 1 path) s (structure name parts)
text_short_parts [] s name parts short = refl
text_short_parts (i ∷ []) s name parts short = refl
text_short_parts (i ∷ j ∷ path) s name parts short = absurd (omega (arith, short))

pub text_maps : (path : List ℕ) (s : Stage) (name : List ℕ) (a : ArrayDecl) (maps : List ArrayDecl) → 2 ≤ length path
    → (name ++ codes ".") ++ option_map_or (array_text s) (slice_get (a ∷ maps) (get_or path 1 0)) [] ≡ text_in (drop 1 path) s (grid name a maps)
text_maps [] s name a maps long = absurd (omega (arith, long))
text_maps (i ∷ []) s name a maps long = absurd (omega (arith, long))
text_maps (i ∷ j ∷ path) s name a maps long = refl

pub text_short_maps : (path : List ℕ) (s : Stage) (name : List ℕ) (a : ArrayDecl) (maps : List ArrayDecl) → length path < 2 → [] ≡ text_in (drop 1 path) s (grid name a maps)
text_short_maps [] s name a maps short = refl
text_short_maps (i ∷ []) s name a maps short = refl
text_short_maps (i ∷ j ∷ path) s name a maps short = absurd (omega (arith, short))

pub text_rows : (path : List ℕ) (s : Stage) (name : List ℕ) (cs : _) → name ++ cell_text cs s ≡ text_in path s (sequence name cs)
text_rows [] s name cs = refl
text_rows (i ∷ path) s name cs = refl
