-- The names of the two fields, and the values of fields by their names.
use Rattle.std.proofs.Common.{◌≡◌, List, [], ◌∷◌, ◌++◌, ℕ, refl, sym, ap, ◌∙◌, Bool, true, false}
use Rattle.std.specs.Prelude.{codes}
use Rattle.std.specs.Str.{str_to_ascii_lowercase}
use Rattle.std.proofs.lemmas.Slice.Eq.{bytes_eq-Decides}
use Rattle.dap_errors.specs.Object.{Value, Field, is_code, is_message, values}
use Rattle.dap_errors.specs.inner.Machine.{first_code, first_message, said_by}
use Rattle.dap_errors.specs.inner.Standing.{Says}
use Rattle.dap_errors.specs.declared.object.ErrorObject.{ErrorObject}

pub values_append : (test : List ℕ → Bool) (xs ys : List Field) → values test (xs ++ ys) ≡ values test xs ++ values test ys
values_append test [] ys = refl
values_append test (x ∷ xs) ys = on (test x.label) refl (values_append test xs ys)
  where
    on : (b : Bool) → test x.label ≡ b → values test (xs ++ ys) ≡ values test xs ++ values test ys → values test ((x ∷ xs) ++ ys) ≡ values test (x ∷ xs) ++ values test ys
    on true e more = rw e (ap (λ (z : List Value). x.value ∷ z) more)
    on false e more = rw e more

-- what was found among the fields is what they say
pub says_is : (error : ErrorObject) (done : List Field) → Says error done → error ≡ said_by done
says_is error done ((w, one_code, fits, code), (p, one_message, message)) =
    let c : error.code ≡ first_code (values is_code done) = code ∙ sym (ap first_code one_code) in
    let m : error.message ≡ first_message (values is_message done) = message ∙ sym (ap first_message one_message) in
    (λ i. record { code = c i; message = m i })

-- no name is both that of a code and that of a message
pub code_no_message : (label : List ℕ) → is_code label ≡ true → is_message label ≡ false
unfolding is_code is_message
code_no_message label e =
    let same : str_to_ascii_lowercase (codes "code") ≡ str_to_ascii_lowercase label = (bytes_eq-Decides (str_to_ascii_lowercase (codes "code")) (str_to_ascii_lowercase label)).0 e in
    rw (← same) refl
