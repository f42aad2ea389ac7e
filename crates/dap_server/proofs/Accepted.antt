-- What a constraint without a cause leaves of a stored dataset is the result of its target.
use Rattle.std.proofs.Common.{option_map, sym, ap, inl}
use Rattle.dap_errors.specs.declared.cause.Cause.TheVariants.{BadTarget, TooLarge}
use Rattle.dap_http.specs.declared.kind.Kind.TheVariants.{Dods}
use Rattle.dap_model.specs.Body.{body}
use Rattle.dap_server.specs.Laws.{AcceptedIsServed}
use Rattle.dap_server.specs.Results.{Left, left_of, result_text}
use Rattle.dap_server.specs.Steps.{found_or, unless}

pub accepted_is_served : AcceptedIsServed
accepted_is_served target name query files s c is_asked opens spells accepted small =
    let left : Left = left_of s c in
    inl (
      record { name = name; kind = Dods; query = query },
      sym (ap (λ o. found_or o BadTarget) is_asked),
      inl (
        s,
        opens,
        inl (
          left,
          inl (c, spells, sym (ap (λ o. unless o left) accepted)),
          sym (ap (λ o. unless (option_map (λ leaf. TooLarge leaf) o) (result_text Dods (body left.dataset left.trees))) small),
        ),
      ),
    )
