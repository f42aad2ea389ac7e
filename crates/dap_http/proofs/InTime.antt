-- What is taken of a body, and that it is no more than tells it.
use Rattle.std.proofs.Common.{◌≡◌, ℕ, ◌+◌, ◌<◌, ◌≤◌, inl, inr, List, [], ◌++◌, length, take, refl, ap, ◌∙◌, sym, subst, arith, append_assoc, append-nil, length-append}
use Rattle.std.proofs.lemmas.List.{length-take}
use Rattle.dap_types.specs.Limits.{body_limit}
use Rattle.dap_http.proofs.Further.{come-further}
use Rattle.dap_http.proofs.Lending.{stands-in}
use Rattle.dap_http.proofs.Parts.{start-goes, limit-is}
use Rattle.dap_http.proofs.Whole.{goes-known}
use Rattle.dap_http.specs.After.{UnframerStandsAfter, coding_of, lent_by}
use Rattle.dap_http.specs.Codings.{Goes}
use Rattle.dap_http.specs.Delivered.{HasCome}
use Rattle.dap_http.specs.Following.{Follows, IsInTime, IsShort, body_coding}
use Rattle.dap_http.specs.inner.Parting.{IsUsedUp, TakesPiece}
use Rattle.dap_http.specs.inner.Tracking.{StandsIn}
use Rattle.dap_http.specs.declared.body_parts.BodyParts.{BodyParts}
use Rattle.dap_http.specs.declared.coding.Coding.{Coding}
use Rattle.dap_http.specs.declared.coding.Coding.TheVariants.{Chunked, Length, ToEnd}
use Rattle.dap_http.specs.declared.unframer.Unframer.{Unframer}

-- with the head
pub in-time-new : (c : Coding) (first : List ℕ) → length first ≤ 65536 → IsInTime c first []
in-time-new c first room = record {
  front = [];
  more = first;
  came = [];
  later = [];
  parts = refl;
  body_parts = refl;
  goes = inl (refl, refl);
  few = room;
  short = λ other come.
      let (y, is, few) = come-further c [] first [] other (start-goes c) come in
      omega (arith, room, few, ap length is, limit-is);
}

-- a piece more, or nothing
pub in-time-more : (c : Coding) (bytes body taken : List ℕ) → TakesPiece c bytes body taken → IsInTime c bytes body → IsInTime c (bytes ++ taken) body
in-time-more c bytes body taken (inl none) t = subst (λ (l : List ℕ). IsInTime c l body) (sym (append-nil bytes) ∙ ap (λ l. bytes ++ l) (sym none)) t
in-time-more c bytes body taken (inr (goes, few, left)) t = record {
  front = bytes;
  more = taken;
  came = body;
  later = [];
  parts = refl;
  body_parts = sym (append-nil body);
  goes = inr goes;
  few = few;
  short = λ other come.
      let (y, is, fits) = come-further c bytes taken body other (inl goes) come in
      omega (arith, left, fits, ap length is, length-append body y);
}

-- nothing, or a piece behind what was taken before, of which no byte of the body came
pub in-time-on : (c : Coding) (bytes x y body : List ℕ) → IsInTime c (bytes ++ x) body → TakesPiece c (bytes ++ x) body y → IsInTime c (bytes ++ (x ++ y)) body
in-time-on c bytes x y body t takes = subst (λ (l : List ℕ). IsInTime c l body) (append_assoc bytes x y) (in-time-more c (bytes ++ x) body y takes t)

-- as many bytes of the body were lent as came
lent-in : (u : Unframer) (c : Coding) (bytes body : List ℕ) → StandsIn c u bytes → Goes c bytes body → lent_by u ≡ length body
lent-in u Chunked bytes body (tracks, all) goes = tracks.lent ∙ ap length (goes-known bytes body goes).body
lent-in u (Length n) bytes body (lent, all, few) (is, less) = lent ∙ ap length (sym is)
lent-in u ToEnd bytes body (lent, all) is = lent ∙ ap length (sym is)

pub lent-is : (u : Unframer) (bytes body : List ℕ) → UnframerStandsAfter u bytes → Goes (coding_of u) bytes body → lent_by u ≡ length body
lent-is u bytes body stands goes = lent-in u u.coding bytes body (stands-in u u.coding bytes refl stands) goes

pub lent-short : (old new : BodyParts) → IsShort old → ((bytes body : List ℕ) → Follows old bytes body → IsUsedUp new bytes body) → lent_by new.unframer < body_limit
lent-short old new (bytes, body, follows, short) up =
    let (empty, stands, goes) = up bytes body follows in
    omega (arith, short, lent-is new.unframer bytes body stands goes)

-- a piece is taken behind bytes of which all are used
pub takes-piece : (u : Unframer) (bytes body items : List ℕ) (count most lent : ℕ) → UnframerStandsAfter u bytes → Goes (coding_of u) bytes body → lent ≡ lent_by u → count ≤ most → most ≤ 65536 → lent + most ≤ body_limit
    → TakesPiece (coding_of u) bytes body (take count items)
takes-piece u bytes body items count most lent stands goes is le room left =
    inr (goes, omega (arith, le, room, length-take count items), omega (arith, is, le, left, lent-is u bytes body stands goes, length-take count items))
