-- Pieces that are put one behind the other.
use Rattle.std.proofs.Common.{◌≡◌, ◌≢◌, ℕ, List, [], ◌∷◌, ◌++◌, length, refl, sym, ap, ◌∙◌, append_assoc}
use Rattle.std.proofs.lemmas.List.{nil_from_length}
use Rattle.dap_types.specs.declared.declarations.BaseType.{BaseType}
use Rattle.dap_types.specs.declared.slabs.Slab.{Slab}
use Rattle.hyperslab_plan.specs.Picked.{count_of}
use Rattle.hyperslab_plan.specs.declared.plan.Plan.{Plan}
use Rattle.netcdf_source.specs.File.{FileHeader}
use Rattle.xdr_encode.specs.Leaves.{counts_of, filler_of, zeros_before}
use Rattle.join_source.specs.Wanted.{AreFirst, AreOverRecords, AreRecords, IsOwnPlan, whole_pieces}
use Rattle.join_source.specs.declared.piece.Piece.{Piece}
use Rattle.join_source.specs.declared.piece.Piece.TheVariants.{Text, Elements}

some-whole : (base : BaseType) (slabs : List Slab) (plan : Plan) → length slabs ≢ 0
    → whole_pieces base slabs plan ≡ Text (counts_of base (count_of slabs)) ∷ Elements 0 plan ∷ Text (filler_of base (count_of slabs)) ∷ []
some-whole base [] plan some = absurd (some refl)
some-whole base (s ∷ slabs) plan some = refl

pub scalar-put : (old one all : List Piece) (h : FileHeader) (leaf : ℕ) (base : BaseType) (slabs : List Slab) (plan : Plan) (text : List ℕ) → length slabs ≡ 0 → IsOwnPlan h leaf slabs plan → text ≡ zeros_before base
    → one ≡ old ++ Text text ∷ [] → all ≡ one ++ Elements 0 plan ∷ [] → (own : List Piece) × (all ≡ old ++ own) × AreFirst h leaf base slabs own
scalar-put old one all h leaf base slabs plan text none is text-is first second = (
  Text text ∷ Elements 0 plan ∷ [],
  second ∙ ap (λ ps. ps ++ Elements 0 plan ∷ []) first ∙ append_assoc old (Text text ∷ []) (Elements 0 plan ∷ []),
  record { plan = plan; is_plan = is; parts = ap (λ t. Text t ∷ Elements 0 plan ∷ []) text-is ∙ sym (ap (λ ss. whole_pieces base ss plan) (nil_from_length slabs none)) },
)

pub array-put : (old one two all : List Piece) (h : FileHeader) (leaf : ℕ) (base : BaseType) (slabs : List Slab) (plan : Plan) (count : ℕ) (text rest : List ℕ) → length slabs ≢ 0 → IsOwnPlan h leaf slabs plan → count ≡ count_of slabs
    → text ≡ counts_of base count → rest ≡ filler_of base count → one ≡ old ++ Text text ∷ [] → two ≡ one ++ Elements 0 plan ∷ [] → all ≡ two ++ Text rest ∷ [] → (own : List Piece) × (all ≡ old ++ own) × AreFirst h leaf base slabs own
array-put old one two all h leaf base slabs plan count text rest some is counted text-is rest-is first second third = (
  Text text ∷ Elements 0 plan ∷ Text rest ∷ [],
  third ∙ ap (λ ps. ps ++ Text rest ∷ []) (second ∙ ap (λ ps. ps ++ Elements 0 plan ∷ []) first ∙ append_assoc old (Text text ∷ []) (Elements 0 plan ∷ [])) ∙ append_assoc old (Text text ∷ Elements 0 plan ∷ []) (Text rest ∷ []),
  record {
    plan = plan;
    is_plan = is;
    parts = ap (λ t. Text t ∷ Elements 0 plan ∷ Text rest ∷ []) (text-is ∙ ap (counts_of base) counted) ∙ ap (λ t. Text (counts_of base (count_of slabs)) ∷ Elements 0 plan ∷ Text t ∷ []) (rest-is ∙ ap (filler_of base) counted)
        ∙ sym (some-whole base slabs plan some);
  },
)

pub records-put : (old one two all : List Piece) (headers : List FileHeader) (leaf : ℕ) (base : BaseType) (slabs : List Slab) (count : ℕ) (text rest : List ℕ) → count ≡ count_of slabs → text ≡ counts_of base count → rest ≡ filler_of base count
    → one ≡ old ++ Text text ∷ [] → ((inner : List Piece) × (s : Slab) × (others : List Slab) × (slabs ≡ s ∷ others) × (two ≡ one ++ inner) × AreRecords 0 headers leaf s others inner) → all ≡ two ++ Text rest ∷ []
    → (own : List Piece) × (all ≡ old ++ own) × AreOverRecords headers leaf base slabs own
records-put old one two all headers leaf base slabs count text rest counted text-is rest-is first (inner, s, others, slabs-are, second, each) third = (
  Text text ∷ inner ++ Text rest ∷ [],
  third ∙ ap (λ ps. ps ++ Text rest ∷ []) (second ∙ ap (λ ps. ps ++ inner) first ∙ append_assoc old (Text text ∷ []) inner) ∙ append_assoc old (Text text ∷ inner) (Text rest ∷ []),
  record {
    first = s;
    rest = others;
    slabs_are = slabs-are;
    inner = inner;
    each = each;
    parts = ap (λ t. Text t ∷ inner ++ Text rest ∷ []) (text-is ∙ ap (counts_of base) counted) ∙ ap (λ t. Text (counts_of base (count_of slabs)) ∷ inner ++ Text t ∷ []) (rest-is ∙ ap (filler_of base) counted);
  },
)
