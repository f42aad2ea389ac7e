-- The texts of a batch are put one after the other.
use Rattle.std.proofs.Common.{◌≡◌, ℕ, ◌+◌, ◌-◌, ◌<◌, ◌≤◌, false, List, [], ◌++◌, Option, take, drop, refl, sym, ap, ◌∙◌, subst, arith, Result, Ok, Err, OnOk, OnErr}
use Rattle.std.specs.Io.KnownBytes.{Appends}
use Rattle.dap_types.specs.declared.declarations.BaseType.{BaseType}
use Rattle.dap_types.specs.declared.declarations.BaseType.TheVariants.{Byte, Int16, UInt16, Int32, UInt32, Float32, Float64, Text, Url}
use Rattle.dap_model.specs.Xdr.{bytes_of, string_fields}
use Rattle.dap_outside.proofs.Passing.{IsOnItsWay, passed_and_sent, passed_and_stopped, way_begins}
use Rattle.dap_outside.specs.Buffered.{Passes}
use Rattle.dap_outside.specs.Streams.{AppendsFront}
use Rattle.hyperslab_plan.specs.Numbers.{is_number}
use Rattle.hyperslab_plan.specs.Plans.{place_of}
use Rattle.hyperslab_plan.specs.declared.plan.Plan.{Plan}
use Rattle.netcdf_source.specs.Values.{without_zeros}
use Rattle.slab_fill.specs.Elements.{element_fields}
use Rattle.xdr_encode.proofs.Forms.{forms-append, forms-none}
use Rattle.xdr_encode.specs.Elements.{element_value, forms_from}

text-fields : (base : BaseType) (bytes : List ℕ) → is_number base ≡ false → element_fields base (element_value base bytes) ++ [] ≡ string_fields (without_zeros bytes)
text-fields Text bytes text = refl
text-fields Url bytes text = refl
text-fields Byte bytes text = absurd cc
text-fields Int16 bytes text = absurd cc
text-fields UInt16 bytes text = absurd cc
text-fields Int32 bytes text = absurd cc
text-fields UInt32 bytes text = absurd cc
text-fields Float32 bytes text = absurd cc
text-fields Float64 bytes text = absurd cc

-- the text of one element
pub one-text : (plan : Plan) (file : List ℕ) (p : ℕ) → is_number plan.base ≡ false → forms_from plan file p 1 ≡ bytes_of (string_fields (without_zeros (take plan.size (drop (place_of plan p) file))))
unfolding forms_from
one-text plan file p text = ap bytes_of (text-fields plan.base (take plan.size (drop (place_of plan p) file)) text)

-- the text that stands at a place of what was read
pub text-here : (plan : Plan) (file raw : List ℕ) (p at size : ℕ) (text : List ℕ) → is_number plan.base ≡ false → size ≡ plan.size
    → take plan.size (drop at raw) ≡ take plan.size (drop (place_of plan p) file) → text ≡ without_zeros (take (at + size - at) (drop at raw)) → bytes_of (string_fields text) ≡ forms_from plan file p 1
text-here plan file raw p at size text is_text sized read same =
    let e : at + size - at ≡ plan.size = omega arith in
    let bytes : text ≡ without_zeros (take plan.size (drop (place_of plan p) file)) = same ∙ ap (λ n. without_zeros (take n (drop at raw))) e ∙ ap without_zeros read in
    ap (λ t. bytes_of (string_fields t)) bytes ∙ sym (one-text plan file p is_text)

-- the forms of n texts from a position on, of which j were put: that of the next, and the others
pub texts-step : (plan : Plan) (file : List ℕ) (first n j : ℕ) (form : List ℕ) → form ≡ forms_from plan file (first + j) 1 → j < n
    → forms_from plan file (first + j) (n - j) ≡ form ++ forms_from plan file (first + (j + 1)) (n - (j + 1))
texts-step plan file first n j form here lt =
    let many : n - j ≡ 1 + (n - (j + 1)) = omega (arith, lt) in
    let next : first + j + 1 ≡ first + (j + 1) = omega arith in
    ap (forms_from plan file (first + j)) many ∙ forms-append plan file (first + j) 1 (n - (j + 1))
    ∙ ap (λ xs. xs ++ forms_from plan file (first + j + 1) (n - (j + 1))) (sym here)
    ∙ ap (λ x. form ++ forms_from plan file x (n - (j + 1))) next

pub texts-begin : (plan : Plan) (file : List ℕ) (first n : ℕ) (w : Option (List ℕ)) (held : List ℕ)
    → IsOnItsWay w held w held (forms_from plan file (first + 0) (n - 0)) (forms_from plan file first n)
texts-begin plan file first n w held =
    let at : first ≡ first + 0 = omega arith in
    let many : n ≡ n - 0 = omega arith in
    let same : forms_from plan file first n ≡ forms_from plan file (first + 0) (n - 0) = ap (forms_from plan file first) many ∙ ap (λ x. forms_from plan file x (n - 0)) at in
    subst (λ rest. IsOnItsWay w held w held rest (forms_from plan file first n)) same (way_begins w held (forms_from plan file first n))

pub texts-end : (plan : Plan) (file : List ℕ) (first n j : ℕ) → n ≤ j → forms_from plan file (first + j) (n - j) ≡ []
texts-end plan file first n j le =
    let none : n - j ≡ 0 = omega (arith, le) in
    ap (forms_from plan file (first + j)) none ∙ forms-none plan file (first + j)

-- what went through an empty buffer whatever the file is, and then what the buffer held
module _ {T E : Type 0} (r : Result T E) (F : List ℕ → Type 0) (text : List ℕ → List ℕ) (a b c : Option (List ℕ)) (held left : List ℕ) (empty : held ≡ []) (passed : (bytes : List ℕ) → F bytes → Passes a held b left (text bytes)) where
  pub texts-sent : OnOk r (Appends b c left) → OnOk r ((bytes : List ℕ) → F bytes → Appends a c (text bytes))
  texts-sent = go r
    where
      go : (r : Result T E) → OnOk r (Appends b c left) → OnOk r ((bytes : List ℕ) → F bytes → Appends a c (text bytes))
      go (Ok x) ok = λ bytes got. passed_and_sent a b c held left (text bytes) empty (passed bytes got) ok
      go (Err x) ok = tt

  pub texts-stopped : OnErr r (AppendsFront b c left) → OnErr r ((bytes : List ℕ) → F bytes → AppendsFront a c (text bytes))
  texts-stopped = go r
    where
      go : (r : Result T E) → OnErr r (AppendsFront b c left) → OnErr r ((bytes : List ℕ) → F bytes → AppendsFront a c (text bytes))
      go (Ok x) err = tt
      go (Err x) err = λ bytes got. passed_and_stopped a b c held left (text bytes) empty (passed bytes got) err
