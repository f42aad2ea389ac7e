use Rattle.std.proofs.Common.{refl, ap, ◌∙◌, [], ◌∷◌, ◌++◌, option_map}
use Rattle.dap_commands.proofs.serving.serve_next.Goals as goal

pub returns-clause-served : goal.returns-clause-served
returns-clause-served g c =
    let come = c.in_ok-link.ensures in
    let does = c.serve_connection-served.ensures in
    let (connection, taken, consumes, gained, is, rose, asks) = does.served in (
      record { came = c.in_ok-link.link; back = c.serve_connection-served.new.link; connection = connection; served = c.serve_connection-served.result; most = asks.0 },
      refl,
      c.done.ensures.back ∙ ap (option_map (λ links. links ++ c.serve_connection-served.new.link ∷ [])) come.back,
      record {
        is_new = record { all_left = come.all_left; going = come.going; none_written = come.none_written; takes = come.takes; puts = come.puts };
        whole = does.whole;
        requests = (taken, consumes, is);
        gained = gained;
        causes = does.causes;
        asks = asks.1;
      },
      rose,
      asks.2,
      λ quiet files input is_told is_left no_take no_put calm. does.no_fault files input is_told is_left quiet no_take no_put calm,
    )
