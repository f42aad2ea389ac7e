-- Pieces that are put one after the other.
use Rattle.std.proofs.Common.{Bor, ◌≡◌, ℕ, ◌<◌, List, [], ◌++◌, length, take, drop, get_or, suc, Option, None, Result, OnErr, OnOk, Ok, Err, inl, inr, codes, refl, sym, ap, ◌∙◌, subst, append_assoc, append-nil, drop-cons, take-append-drop, IfSome, Some}
use Rattle.std.proofs.lemmas.Grind.{flat_map-append}
use Rattle.std.specs.Fmt.{decimal}
use Rattle.std.specs.Io.KnownBytes.{Appends}
use Rattle.std.specs.List.{flat_map}
use Rattle.dap_outside.proofs.Fronts.{front_more, front_of}
use Rattle.dap_outside.specs.Causes.{HasCause}
use Rattle.dap_outside.specs.Streams.{AppendsFront}
use Rattle.dap_commands.specs.Lines.{IsSaid, bad_reply_line, server_error_line}
use Rattle.dap_model.specs.Shown.{shown_byte}
use Rattle.reply_faults.specs.Bads.{bad_name}
use Rattle.reply_faults.specs.declared.bad.BadField.{BadField}

-- all pieces, from the ones before a place, that one, and those behind it
pieces-at : (pieces : List (Bor (List ℕ))) (i : ℕ) (d : Bor (List ℕ)) → i < length pieces
    → flat_map (λ (piece : Bor (List ℕ)). piece.now) pieces
    ≡ flat_map (λ (piece : Bor (List ℕ)). piece.now) (take i pieces) ++ ((get_or pieces i d).now ++ flat_map (λ (piece : Bor (List ℕ)). piece.now) (drop (suc i) pieces))
pieces-at pieces i d lt =
    ap (flat_map (λ (piece : Bor (List ℕ)). piece.now)) (sym (take-append-drop i pieces))
    ∙ flat_map-append (λ (piece : Bor (List ℕ)). piece.now) (take i pieces) (drop i pieces)
    ∙ ap (λ l. flat_map (λ (piece : Bor (List ℕ)). piece.now) (take i pieces) ++ flat_map (λ (piece : Bor (List ℕ)). piece.now) l) (drop-cons pieces i d lt)

-- where one of them is put in part, a front of all is put
pub pieces-front : (a b c : Option (List ℕ)) (pieces : List (Bor (List ℕ))) (i : ℕ) (d : Bor (List ℕ)) → i < length pieces
    → Appends a b (flat_map (λ (piece : Bor (List ℕ)). piece.now) (take i pieces)) → AppendsFront b c (get_or pieces i d).now
    → AppendsFront a c (flat_map (λ (piece : Bor (List ℕ)). piece.now) pieces)
pieces-front a b c pieces i d lt before here =
    subst (AppendsFront a c) (sym (pieces-at pieces i d lt))
    (front_more a b c (flat_map (λ (piece : Bor (List ℕ)). piece.now) (take i pieces)) _ before (front_of b c (get_or pieces i d).now _ here))

-- the line of a bad reply in its pieces
pub line-pieces : (bad : BadField) (name place : List ℕ) → name ≡ bad_name bad.kind → place ≡ decimal bad.place
    → codes "dap2: bad reply: " ++ (name ++ (codes " at " ++ (place ++ (codes "\n" ++ [])))) ≡ bad_reply_line bad
line-pieces bad name place p q =
    ap (λ n. codes "dap2: bad reply: " ++ (n ++ (codes " at " ++ (place ++ codes "\n")))) p
    ∙ ap (λ l. codes "dap2: bad reply: " ++ (bad_name bad.kind ++ (codes " at " ++ (l ++ codes "\n")))) q
    ∙ ap (λ l. codes "dap2: bad reply: " ++ l) (sym (append_assoc (bad_name bad.kind) (codes " at ") (decimal bad.place ++ codes "\n")))
    ∙ ap (λ l. codes "dap2: bad reply: " ++ l) (sym (append_assoc (bad_name bad.kind ++ codes " at ") (decimal bad.place) (codes "\n")))

-- the line of an Error object in its pieces
abbrev pub server_front : List ℕ → List ℕ
server_front code = codes "dap2: server error " ++ (code ++ (codes ": " ++ []))

pub server-pieces : (code message : List ℕ) → server_front code ++ (flat_map shown_byte message ++ codes "\n") ≡ server_error_line code message
server-pieces code message = ap (λ l. codes "dap2: server error " ++ l) (append_assoc code (codes ": ") (flat_map shown_byte message ++ codes "\n"))

pub server-whole : (code message : List ℕ) → (server_front code ++ flat_map shown_byte message) ++ codes "\n" ≡ server_error_line code message
server-whole code message = append_assoc (server_front code) (flat_map shown_byte message) (codes "\n") ∙ server-pieces code message

-- a line is said by what puts it
pub line_said : {T E : Type 0} (r : Result T E) (before now : ℕ) (old new : Option (List ℕ)) (line : List ℕ) → OnOk r (Appends old new line) → OnErr r (AppendsFront old new line) → HasCause before now r
    → IsSaid line before now old new
line_said (Ok x) before now old new line ok err cause = inl (cause.kept, ok)
line_said (Err e) before now old new line ok err cause = inr (cause.failed, err)

-- a line in one piece
pub one-said : (o : Option (List ℕ)) (line bytes : List ℕ) (before now : ℕ) (old new : Option (List ℕ)) → Some line ≡ o → bytes ≡ line → IsSaid (bytes ++ []) before now old new
    → IfSome o (λ l. IsSaid l before now old new)
one-said o line bytes before now old new p q said =
    subst (λ x. IfSome x (λ l. IsSaid l before now old new)) p (subst (λ l. IsSaid l before now old new) (append-nil bytes ∙ q) said)

-- what was said is said where standard error is as it was then
pub still-said : {E : Type 0} (faults : E → ℕ) (written : E → Option (List ℕ)) (a b c : E) → c ≡ b → (l : List ℕ) → IsSaid l (faults a) (faults b) (written a) (written b) → IsSaid l (faults a) (faults c) (written a) (written c)
still-said faults written a b c same l said = subst (λ e. IsSaid l (faults a) (faults e) (written a) (written e)) (sym same) said

-- and a line where nothing was said before it
pub first-said : {E : Type 0} (faults : E → ℕ) (written : E → Option (List ℕ)) (a b c : E) (o : Option (List ℕ)) → ((l : List ℕ) → Some l ≡ o → b ≡ a)
    → IfSome o (λ l. IsSaid l (faults b) (faults c) (written b) (written c)) → IfSome o (λ l. IsSaid l (faults a) (faults c) (written a) (written c))
first-said faults written a b c None same said = tt
first-said faults written a b c (Some l) same said = subst (λ e. IsSaid l (faults e) (faults c) (written e) (written c)) (same l refl) said
