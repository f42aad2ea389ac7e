-- What a hit is worth: where the other server answers equal requests alike, a hit is answered as a miss would be.
use Rattle.std.specs.Prelude.{◌≡◌, ℕ, List, All, Some}
use Rattle.std.specs.List.{Contains}
use Rattle.std.specs.Map.{lookup}
use Rattle.std.specs.Str.{bytes_eq}
use Rattle.dap_types.specs.Limits.{most_body}
use Rattle.dap_client.specs.Held.{IsTold, IsExact}
use Rattle.dap_client.specs.Replies.{form_of}
use Rattle.dap_client.specs.declared.body_outcome.BodyOutcome.{BodyOutcome}
use Rattle.dap_client.specs.declared.body_outcome.BodyOutcome.TheVariants.{Good}
use Rattle.dap_gateway.specs.Backed.{Exchange, IsBacked, IsGoodReply}
use Rattle.dap_gateway.specs.Turns.{Wants, hit, miss, reply_of, status_in}
use Rattle.dap_gateway.specs.declared.wanted.Wanted.{Wanted}

-- equal requests got equal replies
abbrev pub IsSteady : List Exchange → Type 0
IsSteady exchanges = (e f : Exchange) → Contains exchanges e → Contains exchanges f → e.written ≡ f.written → e.reply ≡ f.reply

-- some link had this request
abbrev pub WasAsked : List Exchange → List ℕ → Type 0
WasAsked exchanges key = (e : Exchange) × Contains exchanges e × (e.written ≡ key)

-- each reply to it brought this good body of that kind
abbrev pub EachBrought : List Exchange → Wanted → List ℕ → Type 0
EachBrought exchanges w body = (e : Exchange) → Contains exchanges e → e.written ≡ w.key → IsGoodReply (form_of w.kind) e.reply body

-- The body that is kept for a request is the good body, of the kind that is wanted, of each reply to it
abbrev pub HitIsReplied : Type 0
HitIsReplied =
    (host : List ℕ) (port : ℕ) (exchanges : List Exchange) (pairs : List (List ℕ × List ℕ)) (bytes : List ℕ) (w : Wanted) (body : List ℕ) → IsSteady exchanges → All (IsBacked host port exchanges) pairs → Wants host port bytes w
    → lookup (bytes_eq w.key) pairs ≡ Some body → WasAsked exchanges w.key × EachBrought exchanges w body

-- Whatever is told exactly of a reply to it is that body, but for a fault or want of memory
abbrev pub EachTells : List Exchange → Wanted → List ℕ → Type 0
EachTells exchanges w body =
    (e : Exchange) (outcome : BodyOutcome) → Contains exchanges e → e.written ≡ w.key → IsExact (form_of w.kind) most_body e.reply outcome → IsTold (Good body) outcome

-- What a hit gives is what a link with its request would be told now
abbrev pub HitIsTold : Type 0
HitIsTold =
    (host : List ℕ) (port : ℕ) (exchanges : List Exchange) (pairs : List (List ℕ × List ℕ)) (bytes : List ℕ) (w : Wanted) (body : List ℕ) → IsSteady exchanges → All (IsBacked host port exchanges) pairs → Wants host port bytes w
    → lookup (bytes_eq w.key) pairs ≡ Some body → EachTells exchanges w body

-- and such a body is answered alike, whether it was kept or came just now
abbrev pub HitIsMiss : Type 0
HitIsMiss = (w : Wanted) (body : List ℕ) → (reply_of (hit w body) ≡ reply_of (miss w (Good body))) × (status_in (hit w body) ≡ status_in (miss w (Good body)))
