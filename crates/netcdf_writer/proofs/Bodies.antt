-- What was told of a body is so of all of it.
use Rattle.std.proofs.Common.{Result, Ok, Err, Vec, IsErr, false, true, Bool, length, take, ◌<◌, ◌≤◌, ◌∷◌, true≢false, arith, length-append, pos, ◌≡◌, ◌⊎◌, ℕ, List, [], ◌++◌, Option, refl, ap, sym, ◌∙◌, subst, inl, inr, ⊎_elim, if◌then◌else◌}
use Rattle.std.specs.Io.KnownBytes.{Consumes}
use Rattle.std.proofs.KnownBytes.{Consumes-trans}
use Rattle.dap_types.specs.Limits.{most_written}
use Rattle.dap_client.specs.Verdict.{IsVerdict, bad, dods_form, good, is_fault, server_error}
use Rattle.dap_types.specs.Model.{Dataset, Tree}
use Rattle.dap_types.specs.declared.declarations.BaseType.TheVariants.{Byte}
use Rattle.dap_types.specs.declared.values.Value.TheVariants as values
use Rattle.dap_model.specs.Body.{IsBody}
use Rattle.dap_model.specs.Xdr.{Field, count, number, SpellsField, SpellsFields, bytes_of, field_bytes, fields_all}
use Rattle.xdr_decode.specs.Verdict as decoded
use Rattle.reply_faults.specs.declared.bad.Bad.{Bad}
use Rattle.reply_faults.specs.declared.bad.BadField.{BadField}
use Rattle.xdr_decode.specs.declared.filled.AllRefusal.{AllRefusal}
use Rattle.xdr_decode.specs.declared.filled.AllRefusal.TheVariants.{Refused}
use Rattle.xdr_decode.specs.declared.filled.Filled.{Filled}
use Rattle.netcdf_writer.specs.Outcomes.{IsOfMemory, OnWriteFault, OnReadFault as OnReadFailed}
use Rattle.netcdf_writer.specs.Saved.{IsSmall, Stores}
use Rattle.netcdf_writer.specs.Saving.{IsReadWhole, Judges, Saves}
use Rattle.netcdf_writer.specs.declared.saving.Halt.{Halt}
use Rattle.netcdf_writer.specs.declared.stored.Stored.{Stored}
use Rattle.netcdf_writer.specs.declared.stored.Stored.TheVariants.{Written, Unsavable, BodyTooLarge, HeaderTooLong, ServerError, BadReply, ReadFault, WriteFault, LinkFault, Memory}
use Rattle.netcdf_writer.specs.inner.Reading.{IsOfLarge, TakesBody, TakesSome, large_of}
use Rattle.std.proofs.lemmas.List.{take_all}
use Rattle.dap_types.specs.View.{dataset_view}
use Rattle.dap_errors.specs.Reading.{ErrorOf, IsBad as IsBadObject, IsCut as IsCutObject}
use Rattle.dap_errors.specs.declared.object.ErrorObject.{ErrorObject}
use Rattle.error_word.specs.Saying.{says_error}
use Rattle.dap_client.proofs.Bodies.{body_good}
use Rattle.dap_client.proofs.Filling.{budget_is}
use Rattle.reply_faults.specs.declared.bad.Bad.TheVariants.{BadError, Cut}
use Rattle.netcdf_writer.specs.declared.judging.Judged.{Judged}
use Rattle.netcdf_writer.specs.declared.judging.Judged.TheVariants as judged
use Rattle.netcdf_writer.specs.inner.Judged.{IsJudged}

-- ---- what a body in memory is

few_short : (body : List ℕ) → length body ≤ most_written → length body < decoded.budget
few_short body few = omega (arith, few, budget_is)

pub object_judged : (body : List ℕ) (e : ErrorObject) → length body ≤ most_written → says_error body ≡ true → ErrorOf body e → IsVerdict dods_form body (server_error e)
object_judged body e few error is = inl (few_short body few, inl (error, is))

pub bad_object_judged : (body : List ℕ) (place : ℕ) → length body ≤ most_written → says_error body ≡ true → IsBadObject body place → IsVerdict dods_form body (bad BadError place)
bad_object_judged body place few error is = inl (few_short body few, inl (error, inl (is, refl)))

pub cut_object_judged : (body : List ℕ) (place : ℕ) → length body ≤ most_written → says_error body ≡ true → IsCutObject body → place ≡ length body → IsVerdict dods_form body (bad Cut place)
cut_object_judged body place few error is at = inl (few_short body few, inl (error, inr (is, at, refl)))

pub refusal_judged : (body : List ℕ) (kind : Bad) (place : ℕ) → length body ≤ most_written → says_error body ≡ false → decoded.IsVerdict body (decoded.wrong kind place) → IsVerdict dods_form body (bad kind place)
refusal_judged body kind place few none (inl (wrong, either)) =
    let short = few_short body few in
    inl (short, inr (none, subst (λ l. decoded.IsWrongIn l kind place) (take_all decoded.budget body (omega (arith, short))) wrong))
refusal_judged body kind place few none (inr (long, is, at)) = let short = few_short body few in absurd (omega (arith, short, long.0))

pub large : (body : List ℕ) (o : Judged) → most_written < length body → IsJudged (take most_written body) o → IsOfLarge body (large_of o)
large body (judged.Good checked) more (ts, is) = record { longer = more; front = good (dataset_view checked.dataset) ts; verdict = body_good (take most_written body) (dataset_view checked.dataset) ts is.is_body; going = refl }
large body (judged.ServerError error) more v = record { longer = more; front = server_error error; verdict = v; going = refl }
large body (judged.Bad field) more v = chosen (is_fault field.kind) refl
  where
    chosen : (b : Bool) → is_fault field.kind ≡ b → IsOfLarge body (if b then BadReply field else BodyTooLarge)
    chosen true e = (more, v, e)
    chosen false e = record { longer = more; front = bad field.kind field.place; verdict = v; going = e }
large body judged.Memory more v = tt

-- ---- what the answers say of the body

pub of_large : (body : List ℕ) (before now : Option (List ℕ)) (s : Stored) → now ≡ before → IsOfLarge body s → Judges body before now s
of_large body before now BodyTooLarge same is = (is, same)
of_large body before now (BadReply field) same is = (inr is, same)
of_large body before now Memory same is = same
of_large body before now (Written bytes) same is = absurd is
of_large body before now (Unsavable member why) same is = absurd is
of_large body before now HeaderTooLong same is = absurd is
of_large body before now (ServerError code message) same is = absurd is
of_large body before now ReadFault same is = absurd is
of_large body before now WriteFault same is = absurd is
of_large body before now LinkFault same is = absurd is

pub of_stored : (body : List ℕ) (before now : Option (List ℕ)) (s : Stored) (d : Dataset) (ts : List Tree) → length body ≤ most_written → IsVerdict dods_form body (good d ts) → IsOfMemory s → Stores d ts before now s → Judges body before now s
of_stored body before now (Written bytes) d ts few v is so = (few, (d, ts, v, so))
of_stored body before now (Unsavable member why) d ts few v is so = (few, (d, ts, v, so))
of_stored body before now HeaderTooLong d ts few v is so = (few, (d, ts, v, so))
of_stored body before now WriteFault d ts few v is so = (few, (d, ts, v, so))
of_stored body before now Memory d ts few v is so = so.nothing_put
of_stored body before now BodyTooLarge d ts few v is so = absurd is
of_stored body before now (ServerError code message) d ts few v is so = absurd is
of_stored body before now (BadReply field) d ts few v is so = absurd is
of_stored body before now ReadFault d ts few v is so = absurd is
of_stored body before now LinkFault d ts few v is so = absurd is

-- ---- what was taken

pub taken_then : {Z : Type 0} (a b c : Option (List ℕ)) (xs : List ℕ) (E : Type 0) (r : Result (Vec ℕ Z) Halt) → IsErr r → Consumes a b xs → TakesSome (length xs) b c → TakesBody a c E r
taken_then a b c xs E (Ok body) err so more = absurd (true≢false (sym err))
taken_then a b c xs E (Err halt) err so (ys, more, few) =
    let long = length-append xs ys in
    (xs ++ ys, Consumes-trans a b c xs ys so more, omega (arith, long, few))

-- ---- a spelling of values is as long as their XDR

field_length : (f : Field) (bs : List ℕ) → SpellsField f bs → length bs ≡ length (field_bytes f)
unfolding field_bytes
field_length (count n) bs spelled = ap length spelled.1
field_length (number Byte (values.Whole (pos b))) bs spelled = ⊎_elim (λ x. ap length x) (λ x. ap length x.1) spelled
field_length f bs spelled = ap length spelled

fields_length : (fs : List Field) (bs : List ℕ) → SpellsFields fs bs → length bs ≡ length (bytes_of fs)
unfolding bytes_of
fields_length [] bs spelled = ap length spelled
fields_length (f ∷ fs) bs (front, rest, is, one, others) =
    let parts = ap length is ∙ length-append front rest in
    let here = field_length f front one in
    let behind = fields_length fs rest others in
    let whole = length-append (field_bytes f) (bytes_of fs) in
    omega (arith, parts, here, behind, whole)

pub small_body : (body : List ℕ) (d : Dataset) (ts : List Tree) → IsBody body d ts → length body ≤ most_written → IsSmall d ts
small_body body d ts is few =
    let parts = ap length is.parts ∙ length-append is.head is.values in
    let long = fields_length (fields_all d.members ts) is.values is.is_values.spelled in
    record { well_formed = is.is_head.is_text.well_formed; fits = is.is_values.fit; few = omega (arith, parts, long, few) }

-- ---- what is refused is no data response

not_good : (d : Dataset) (ts : List Tree) (kind : Bad) (place : ℕ) → decoded.good d ts ≡ decoded.wrong kind place → ⊥
not_good d ts kind place is = cc

pub no_body : (answer : Result Filled AllRefusal) (field : BadField) → answer ≡ Err (Refused field) → (d : Dataset) (ts : List Tree) → decoded.Gives answer (decoded.good d ts) → ⊥
no_body answer field is d ts gives = not_good d ts field.kind field.place (subst (λ (r : Result Filled AllRefusal). decoded.Gives r (decoded.good d ts)) is gives)

pub saves_is : (left behind : Option (List ℕ)) (ended : Type 0) (before now : Option (List ℕ)) (body : List ℕ) (s : Stored) → Consumes left behind body → IsReadWhole body ended behind → Judges body before now s
    → Saves left behind ended before now s
saves_is left behind ended before now body ReadFault so whole is = absurd is
saves_is left behind ended before now body Memory so whole is = ((body, so, whole.0), is)
saves_is left behind ended before now body (BadReply field) so whole is = (body, so, whole, is)
saves_is left behind ended before now body (ServerError code message) so whole is = (body, so, whole, is)
saves_is left behind ended before now body BodyTooLarge so whole is = (body, so, whole, is)
saves_is left behind ended before now body (Written bytes) so whole is = (body, so, whole, is)
saves_is left behind ended before now body (Unsavable member why) so whole is = (body, so, whole, is)
saves_is left behind ended before now body HeaderTooLong so whole is = (body, so, whole, is)
saves_is left behind ended before now body WriteFault so whole is = (body, so, whole, is)
saves_is left behind ended before now body LinkFault so whole is = (body, so, whole, is)

-- the source was read before
pub judged_no_read : (body : List ℕ) (before now : Option (List ℕ)) (s : Stored) → Judges body before now s → ¬ (s ≡ ReadFault)
judged_no_read body before now s judged is = subst (λ t. Judges body before now t) is judged

pub fault_told : (P : Type 0) (s : Stored) → OnWriteFault P s → s ≡ WriteFault → P
fault_told P s on is = subst (λ t. OnWriteFault P t) is on

pub read_told : (P : Type 0) (s : Stored) → OnReadFailed P s → s ≡ ReadFault → P
read_told P s on is = subst (λ t. OnReadFailed P t) is on
