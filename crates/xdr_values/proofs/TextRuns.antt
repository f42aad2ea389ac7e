-- Strings of an array, one after the other.
use Rattle.std.proofs.Common.{◌≡◌, ℕ, suc, ◌<◌, ◌≤◌, List, [], ◌∷◌, ◌++◌, length, refl, ap, ◌∙◌, arith, append_assoc, length-append}
use Rattle.xdr_values.proofs.ElementRuns.{no_bytes}
use Rattle.dap_types.specs.declared.declarations.BaseType.{BaseType}
use Rattle.dap_types.specs.declared.declarations.BaseType.TheVariants.{Text, Url}
use Rattle.dap_types.specs.declared.values.Value.{Value}
use Rattle.dap_types.specs.declared.values.Value.TheVariants as values
use Rattle.dap_model.proofs.Values.{all_first, all_rest, bytes_of-append}
use Rattle.dap_model.specs.Fits.{IsOf}
use Rattle.dap_model.specs.Xdr.{bytes_of, field_bytes, string_fields, value_fields, word, zeros, SpellsFields}
use Rattle.xdr_decode.specs.inner.Taken.{element_fields, elements_fields}
use Rattle.xdr_fields.specs.Wants.{IsTextType}
use Rattle.xdr_values.specs.Walked.{StandElements, StandsValue}

pub record ElementsLeft (base : BaseType) (n : ℕ) (left rest : List ℕ) : Type 0 where
  pub values : List Value
  pub long : length values ≡ n
  pub stand : StandElements base values left rest

string_spelled : (chars : List ℕ) → SpellsFields (string_fields chars) (bytes_of (string_fields chars))
unfolding bytes_of field_bytes
string_spelled chars = (word (length chars), chars ++ (zeros (length chars) ++ []), refl, refl, (chars, zeros (length chars) ++ [], refl, refl, (zeros (length chars), [], refl, refl, refl)))

value_spelled : (base : BaseType) (v : Value) → IsTextType base → IsOf base v → SpellsFields (value_fields base v) (bytes_of (value_fields base v))
value_spelled Text (values.Text chars) txt is = string_spelled chars
value_spelled Url (values.Text chars) txt is = string_spelled chars
value_spelled Text v txt is = absurd is
value_spelled Url v txt is = absurd is
value_spelled base v txt is = absurd txt

as_value : (base : BaseType) (v : Value) → IsTextType base → element_fields base v ≡ value_fields base v
as_value Text v txt = refl
as_value Url v txt = refl
as_value base v txt = absurd txt

first_parts : (base : BaseType) (v : Value) (vs : List Value) (left rest : List ℕ) → IsTextType base → StandElements base (v ∷ vs) left rest → left ≡ bytes_of (value_fields base v) ++ (bytes_of (elements_fields base vs) ++ rest)
first_parts base v vs left rest txt st =
    st.parts
    ∙ ap (λ l. l ++ rest) (bytes_of-append (element_fields base v) (elements_fields base vs))
    ∙ append_assoc (bytes_of (element_fields base v)) (bytes_of (elements_fields base vs)) rest
    ∙ ap (λ fs. bytes_of fs ++ (bytes_of (elements_fields base vs) ++ rest)) (as_value base v txt)

first_stands : (base : BaseType) (v : Value) (vs : List Value) (left rest : List ℕ) → IsTextType base → StandElements base (v ∷ vs) left rest → StandsValue base v left (bytes_of (elements_fields base vs) ++ rest)
first_stands base v vs left rest txt st =
    let is : IsOf base v = all_first (IsOf base) v vs st.are_of in
    record { is_of = is; spelt = (bytes_of (value_fields base v), first_parts base v vs left rest txt st, value_spelled base v txt is) }

pub elements_next : (base : BaseType) (n m : ℕ) (left rest behind : List ℕ) → IsTextType base → n ≡ suc m → ElementsLeft base n left rest → ((v : Value) (r : List ℕ) → StandsValue base v left r → behind ≡ r) → ElementsLeft base m behind rest
elements_next base n m left rest behind txt is w rests = go w.values w.long w.stand
  where
    go : (vs : List Value) → length vs ≡ n → StandElements base vs left rest → ElementsLeft base m behind rest
    go [] long st = absurd (omega (arith, long, is))
    go (v ∷ vs) long st = record {
      values = vs;
      long = omega (arith, long, is);
      stand = record { are_of = all_rest (IsOf base) v vs st.are_of; parts = rests v _ (first_stands base v vs left rest txt st) };
    }

string_some : (chars : List ℕ) → 4 ≤ length (bytes_of (string_fields chars))
unfolding bytes_of field_bytes
string_some chars = omega arith

pub value_some : (base : BaseType) (v : Value) → IsTextType base → IsOf base v → 4 ≤ length (bytes_of (value_fields base v))
value_some Text (values.Text chars) txt is = string_some chars
value_some Url (values.Text chars) txt is = string_some chars
value_some Text v txt is = absurd is
value_some Url v txt is = absurd is
value_some base v txt is = absurd txt

pub some_left : (base : BaseType) (n : ℕ) (left rest : List ℕ) → IsTextType base → 0 < n → ElementsLeft base n left rest → 4 ≤ length left
some_left base n left rest txt some w = go w.values w.long w.stand
  where
    go : (vs : List Value) → length vs ≡ n → StandElements base vs left rest → 4 ≤ length left
    go [] long st = absurd (omega (arith, long, some))
    go (v ∷ vs) long st =
        let is : IsOf base v = all_first (IsOf base) v vs st.are_of in
        omega (arith, ap length (first_parts base v vs left rest txt st), length-append (bytes_of (value_fields base v)) (bytes_of (elements_fields base vs) ++ rest), value_some base v txt is)

pub elements_end : (base : BaseType) (n : ℕ) (left rest : List ℕ) → n ≡ 0 → ElementsLeft base n left rest → left ≡ rest
elements_end base n left rest is w = go w.values w.long w.stand
  where
    go : (vs : List Value) → length vs ≡ n → StandElements base vs left rest → left ≡ rest
    go [] long st = st.parts ∙ ap (λ l. l ++ rest) no_bytes
    go (v ∷ vs) long st = absurd (omega (arith, long, is))
