use Rattle.std.proofs.Common.{◌∙◌, ◌+◌, ◌≤◌, ap, Err, arith, length, rules, subst, sym}
use Rattle.dap_server.proofs.AskedBefore as before
use Rattle.dap_server.proofs.JoinedSending.{for_refused}
use Rattle.dap_server.proofs.ListNames.{AreNames}
use Rattle.dap_server.proofs.OpeningLists as opening
use Rattle.dap_server.specs.Costs.{IsAskedBefore, most_of_joined}
use Rattle.dap_server.specs.Joins.{Members}
use Rattle.dap_server.specs.inner.Joining.{MayOpenWithin, most_of_size}
use Rattle.dap_server.specs.inner.Members.{AsksLines, AsksToBad, most_in_lines}
use Rattle.dap_server.specs.inner.Opening.{WhereRefused}
use Rattle.dap_server.proofs.open_joined.open_joined.Goals as goal

pub open_members-requires-clause-names : goal.open_members-requires-clause-names
open_members-requires-clause-names g c = subst AreNames (sym c.items.ensures) (opening.list_names _ c.in_ok-names.names c.in_ok-names.ensures.names).are_names

pub open_members-requires-clause-few : goal.open_members-requires-clause-few
open_members-requires-clause-few g c = subst (λ ns. length ns ≤ 64) (sym c.items.ensures) (opening.list_names _ c.in_ok-names.names c.in_ok-names.ensures.names).few

pub joined_of-requires-clause-some : goal.joined_of-requires-clause-some
joined_of-requires-clause-some g c =
    (opening.some_headers _ _ _ c.in_ok-names.names c.in_ok-members.members.headers c.in_ok-members.members.files (opening.list_names _ c.in_ok-names.names c.in_ok-names.ensures.names)
    (subst (λ ns. opening.Lines (g.S.Shelf.files c.open_list.new.shelf) (g.S.Shelf.content c.open_members.new.shelf) (g.S.Shelf.size_of c.open_members.new.shelf) ns c.in_ok-members.members.headers c.in_ok-members.members.files) c.items.ensures c.in_ok-members.ensures.members)).0

pub joined_of-requires-clause-many : goal.joined_of-requires-clause-many
joined_of-requires-clause-many g c =
    (opening.some_headers _ _ _ c.in_ok-names.names c.in_ok-members.members.headers c.in_ok-members.members.files (opening.list_names _ c.in_ok-names.names c.in_ok-names.ensures.names)
    (subst (λ ns. opening.Lines (g.S.Shelf.files c.open_list.new.shelf) (g.S.Shelf.content c.open_members.new.shelf) (g.S.Shelf.size_of c.open_members.new.shelf) ns c.in_ok-members.members.headers c.in_ok-members.members.files) c.items.ensures c.in_ok-members.ensures.members)).1

pub returns-in_err-list-clause-refused : goal.returns-in_err-list-clause-refused
returns-in_err-list-clause-refused g c =
    let none : g.S.Shelf.asked c.find.new.shelf ≤ g.S.Shelf.asked c.args.shelf.now = omega (arith, c.in_err-list.ensures.asked) in
    let stop : WhereRefused (λ cause. MayOpenWithin (g.S.Shelf.files c.args.shelf.now) c.args.name.now (g.S.Shelf.asked c.args.shelf.now) (g.S.Shelf.asked c.find.new.shelf) (Err cause)) c.in_err-list.field-0.0 =
    opening.missing_list _ c.args.name.now _ _ c.in_err-list.field-0.0 c.requires.form none c.in_err-list.ensures.refused in
    search (rules, stop)

pub returns-in_err-names-clause-refused : goal.returns-in_err-names-clause-refused
returns-in_err-names-clause-refused g c =
    let listed : g.S.Shelf.asked c.open_list.new.shelf ≤ g.S.Shelf.asked c.args.shelf.now + 65536 =
    omega (arith, opening.of_any (g.S.Shelf.size_of c.find.new.shelf c.in_ok-list.list), c.in_err-names.ensures.asked, c.in_ok-list.ensures.asked) in
    let stop : WhereRefused (λ cause. MayOpenWithin (g.S.Shelf.files c.args.shelf.now) c.args.name.now (g.S.Shelf.asked c.args.shelf.now) (g.S.Shelf.asked c.open_list.new.shelf) (Err cause)) c.in_err-names.field-0.0 =
    opening.not_listed (g.S.Shelf.files c.args.shelf.now) (g.S.Shelf.name_of c.find.new.shelf) (g.S.Shelf.content c.find.new.shelf) c.args.name.now c.in_ok-list.list _ _ c.in_err-names.field-0.0 c.requires.form c.in_ok-list.ensures.found
    listed c.in_err-names.ensures.refused in
    search (rules, stop)

pub returns-in_err-members-clause-refused : goal.returns-in_err-members-clause-refused
returns-in_err-members-clause-refused g c =
    let lines = ap (most_in_lines (g.S.Shelf.files c.open_list.new.shelf)) c.items.ensures in
    let most = opening.names_asked (g.S.Shelf.files c.open_list.new.shelf) c.in_ok-names.names (g.S.Shelf.size_of c.find.new.shelf c.in_ok-list.list) in
    let asked : g.S.Shelf.asked c.open_members.new.shelf ≤ g.S.Shelf.asked c.args.shelf.now + most_of_joined (length c.in_ok-names.names) =
    omega (arith, most, lines, c.in_err-members.ensures.asked, c.in_ok-names.ensures.asked, c.in_ok-list.ensures.asked) in
    let stop : WhereRefused (λ cause. MayOpenWithin (g.S.Shelf.files c.args.shelf.now) c.args.name.now (g.S.Shelf.asked c.args.shelf.now) (g.S.Shelf.asked c.open_members.new.shelf) (Err cause)) c.in_err-members.field-0.0 =
    opening.bad_line (g.S.Shelf.files c.args.shelf.now) (g.S.Shelf.files c.open_list.new.shelf) (g.S.Shelf.name_of c.find.new.shelf) (g.S.Shelf.content c.find.new.shelf) c.args.name.now c.in_ok-list.list c.in_ok-names.names _ _ c.in_err-members.field-0.0
    c.requires.form c.in_ok-list.ensures.found c.in_ok-names.ensures.names (c.in_ok-names.ensures.files ∙ c.in_ok-list.ensures.files) asked
    (subst (λ ns. WhereRefused (λ cause. Members (g.S.Shelf.files c.open_list.new.shelf) 1 ns (Err cause)) c.in_err-members.field-0.0) c.items.ensures c.in_err-members.ensures.refused) in
    search (rules, stop)

pub returns-in_err-joined-clause-refused : goal.returns-in_err-joined-clause-refused
returns-in_err-joined-clause-refused g c =
    let lines = ap (most_in_lines (g.S.Shelf.files c.open_list.new.shelf)) c.items.ensures in
    let most = opening.names_asked (g.S.Shelf.files c.open_list.new.shelf) c.in_ok-names.names (g.S.Shelf.size_of c.find.new.shelf c.in_ok-list.list) in
    let asked : g.S.Shelf.asked c.open_members.new.shelf ≤ g.S.Shelf.asked c.args.shelf.now + most_of_joined (length c.in_ok-names.names) =
    omega (arith, most, lines, c.in_ok-members.ensures.asked, c.in_ok-names.ensures.asked, c.in_ok-list.ensures.asked) in
    let stop : WhereRefused (λ cause. MayOpenWithin (g.S.Shelf.files c.args.shelf.now) c.args.name.now (g.S.Shelf.asked c.args.shelf.now) (g.S.Shelf.asked c.open_members.new.shelf) (Err cause)) c.in_err-joined.field-0.0 =
    opening.not_joined (g.S.Shelf.files c.args.shelf.now) (g.S.Shelf.files c.open_list.new.shelf) (g.S.Shelf.name_of c.find.new.shelf) (g.S.Shelf.content c.find.new.shelf) (g.S.Shelf.content c.open_members.new.shelf)
    (g.S.Shelf.size_of c.open_members.new.shelf) c.args.name.now c.in_ok-list.list c.in_ok-names.names c.in_ok-members.members.headers c.in_ok-members.members.files _ _ c.in_err-joined.field-0.0
    c.requires.form c.in_ok-list.ensures.found c.in_ok-names.ensures.names (c.in_ok-names.ensures.files ∙ c.in_ok-list.ensures.files) asked
    (subst (λ ns. opening.Lines (g.S.Shelf.files c.open_list.new.shelf) (g.S.Shelf.content c.open_members.new.shelf) (g.S.Shelf.size_of c.open_members.new.shelf) ns c.in_ok-members.members.headers c.in_ok-members.members.files) c.items.ensures c.in_ok-members.ensures.members)
    c.in_err-joined.ensures.refused in
    search (rules, stop)

pub returns-clause-opened : goal.returns-clause-opened
returns-clause-opened g c =
    opening.opened (g.S.Shelf.files c.args.shelf.now) (g.S.Shelf.files c.open_list.new.shelf) (g.S.Shelf.name_of c.find.new.shelf) (g.S.Shelf.content c.find.new.shelf) (g.S.Shelf.content c.open_members.new.shelf)
    (g.S.Shelf.size_of c.open_members.new.shelf) c.args.name.now c.in_ok-list.list c.in_ok-names.names c.in_ok-members.members.headers c.in_ok-members.members.files c.in_ok-joined.joined
    c.in_ok-list.ensures.found c.in_ok-names.ensures.names (c.in_ok-names.ensures.files ∙ c.in_ok-list.ensures.files)
    (subst (λ ns. opening.Lines (g.S.Shelf.files c.open_list.new.shelf) (g.S.Shelf.content c.open_members.new.shelf) (g.S.Shelf.size_of c.open_members.new.shelf) ns c.in_ok-members.members.headers c.in_ok-members.members.files) c.items.ensures c.in_ok-members.ensures.members)
    c.in_ok-joined.ensures.headers c.in_ok-joined.ensures.name c.in_ok-joined.ensures.can_join

pub returns-in_err-names-clause-asked : goal.returns-in_err-names-clause-asked
returns-in_err-names-clause-asked g c =
    let first = opening.list_first (g.S.Shelf.files c.args.shelf.now) (g.S.Shelf.name_of c.find.new.shelf) (g.S.Shelf.content c.find.new.shelf) c.args.name.now c.in_ok-list.list (g.S.Shelf.size_of c.find.new.shelf c.in_ok-list.list)
    c.requires.form c.in_ok-list.ensures.found c.in_err-names.ensures.told in
    omega (arith, first, c.in_err-names.ensures.asked, c.in_ok-list.ensures.asked)

pub returns-in_err-members-clause-asked : goal.returns-in_err-members-clause-asked
returns-in_err-members-clause-asked g c =
    let first = opening.lines_first (g.S.Shelf.files c.args.shelf.now) (g.S.Shelf.files c.open_list.new.shelf) (g.S.Shelf.name_of c.find.new.shelf) (g.S.Shelf.content c.find.new.shelf) c.args.name.now c.in_ok-list.list
    (g.S.Shelf.size_of c.find.new.shelf c.in_ok-list.list) c.in_ok-names.names c.requires.form c.in_ok-list.ensures.found c.in_ok-names.ensures.told c.in_ok-names.ensures.names (c.in_ok-names.ensures.files ∙ c.in_ok-list.ensures.files) in
    let lines = ap (most_in_lines (g.S.Shelf.files c.open_list.new.shelf)) c.items.ensures in
    omega (arith, first, lines, c.in_err-members.ensures.asked, c.in_ok-names.ensures.asked, c.in_ok-list.ensures.asked)

pub returns-in_err-joined-clause-asked : goal.returns-in_err-joined-clause-asked
returns-in_err-joined-clause-asked g c =
    let first = opening.lines_first (g.S.Shelf.files c.args.shelf.now) (g.S.Shelf.files c.open_list.new.shelf) (g.S.Shelf.name_of c.find.new.shelf) (g.S.Shelf.content c.find.new.shelf) c.args.name.now c.in_ok-list.list
    (g.S.Shelf.size_of c.find.new.shelf c.in_ok-list.list) c.in_ok-names.names c.requires.form c.in_ok-list.ensures.found c.in_ok-names.ensures.told c.in_ok-names.ensures.names (c.in_ok-names.ensures.files ∙ c.in_ok-list.ensures.files) in
    let lines = ap (most_in_lines (g.S.Shelf.files c.open_list.new.shelf)) c.items.ensures in
    omega (arith, first, lines, c.in_ok-members.ensures.asked, c.in_ok-names.ensures.asked, c.in_ok-list.ensures.asked)

pub returns-clause-asked : goal.returns-clause-asked
returns-clause-asked g c =
    let first = opening.lines_first (g.S.Shelf.files c.args.shelf.now) (g.S.Shelf.files c.open_list.new.shelf) (g.S.Shelf.name_of c.find.new.shelf) (g.S.Shelf.content c.find.new.shelf) c.args.name.now c.in_ok-list.list
    (g.S.Shelf.size_of c.find.new.shelf c.in_ok-list.list) c.in_ok-names.names c.requires.form c.in_ok-list.ensures.found c.in_ok-names.ensures.told c.in_ok-names.ensures.names (c.in_ok-names.ensures.files ∙ c.in_ok-list.ensures.files) in
    let lines = ap (most_in_lines (g.S.Shelf.files c.open_list.new.shelf)) c.items.ensures in
    omega (arith, first, lines, c.in_ok-members.ensures.asked, c.in_ok-names.ensures.asked, c.in_ok-list.ensures.asked)

pub returns-in_err-list-clause-asked : goal.returns-in_err-list-clause-asked
returns-in_err-list-clause-asked g c = omega (arith, c.in_err-list.ensures.asked)

pub returns-clause-asked_lines : goal.returns-clause-asked_lines
returns-clause-asked_lines g c =
    let most = opening.joined_within (g.S.Shelf.files c.open_list.new.shelf) (g.S.Shelf.content c.open_members.new.shelf) (g.S.Shelf.size_of c.open_members.new.shelf) c.in_ok-names.names c.in_ok-members.members.headers c.in_ok-members.members.files
    (g.S.Shelf.size_of c.find.new.shelf c.in_ok-list.list)
    (subst (λ ns. opening.Lines (g.S.Shelf.files c.open_list.new.shelf) (g.S.Shelf.content c.open_members.new.shelf) (g.S.Shelf.size_of c.open_members.new.shelf) ns c.in_ok-members.members.headers c.in_ok-members.members.files) c.items.ensures c.in_ok-members.ensures.members) in
    let lines = ap (most_in_lines (g.S.Shelf.files c.open_list.new.shelf)) c.items.ensures in
    omega (arith, most, lines, c.in_ok-members.ensures.asked, c.in_ok-names.ensures.asked, c.in_ok-list.ensures.asked)

pub returns-in_err-list-clause-asked_before : goal.returns-in_err-list-clause-asked_before
returns-in_err-list-clause-asked_before g c =
    let none : g.S.Shelf.asked c.find.new.shelf ≤ g.S.Shelf.asked c.args.shelf.now = omega (arith, c.in_err-list.ensures.asked) in
    let stop : WhereRefused (λ cause. IsAskedBefore (g.S.Shelf.files c.args.shelf.now) c.args.name.now cause (g.S.Shelf.asked c.args.shelf.now) (g.S.Shelf.asked c.find.new.shelf)) c.in_err-list.field-0.0 =
    for_refused (λ cause refused. before.nothing_asked (g.S.Shelf.files c.args.shelf.now) c.args.name.now cause _ _ none) c.in_err-list.field-0.0 c.in_err-list.ensures.refused in
    search (rules, stop)

pub returns-in_err-names-clause-asked_before : goal.returns-in_err-names-clause-asked_before
returns-in_err-names-clause-asked_before g c =
    let listed : g.S.Shelf.asked c.open_list.new.shelf ≤ g.S.Shelf.asked c.args.shelf.now + most_of_size (g.S.Shelf.size_of c.find.new.shelf c.in_ok-list.list) = omega (arith, c.in_err-names.ensures.asked, c.in_ok-list.ensures.asked) in
    let stop : WhereRefused (λ cause. IsAskedBefore (g.S.Shelf.files c.args.shelf.now) c.args.name.now cause (g.S.Shelf.asked c.args.shelf.now) (g.S.Shelf.asked c.open_list.new.shelf)) c.in_err-names.field-0.0 =
    for_refused (λ cause refused. before.list_alone (g.S.Shelf.files c.args.shelf.now) (g.S.Shelf.name_of c.find.new.shelf) (g.S.Shelf.content c.find.new.shelf) c.args.name.now c.in_ok-list.list (g.S.Shelf.size_of c.find.new.shelf c.in_ok-list.list)
    cause _ _ c.in_ok-list.ensures.found c.in_err-names.ensures.told listed) c.in_err-names.field-0.0 c.in_err-names.ensures.refused in
    search (rules, stop)

pub returns-in_err-members-clause-asked_before : goal.returns-in_err-members-clause-asked_before
returns-in_err-members-clause-asked_before g c =
    let listed : g.S.Shelf.asked c.open_list.new.shelf ≤ g.S.Shelf.asked c.args.shelf.now + most_of_size (g.S.Shelf.size_of c.find.new.shelf c.in_ok-list.list) = omega (arith, c.in_ok-names.ensures.asked, c.in_ok-list.ensures.asked) in
    let stop : WhereRefused (λ cause. IsAskedBefore (g.S.Shelf.files c.args.shelf.now) c.args.name.now cause (g.S.Shelf.asked c.args.shelf.now) (g.S.Shelf.asked c.open_members.new.shelf)) c.in_err-members.field-0.0 =
    for_refused (λ cause lines. before.with_list (g.S.Shelf.files c.args.shelf.now) (g.S.Shelf.files c.open_list.new.shelf) (g.S.Shelf.name_of c.find.new.shelf) (g.S.Shelf.content c.find.new.shelf) c.args.name.now c.in_ok-list.list
    (g.S.Shelf.size_of c.find.new.shelf c.in_ok-list.list) c.in_ok-names.names _ _ _ cause c.in_ok-list.ensures.found c.in_ok-names.ensures.told c.in_ok-names.ensures.names (c.in_ok-names.ensures.files ∙ c.in_ok-list.ensures.files) listed
    (subst (λ ns. AsksLines (g.S.Shelf.files c.open_list.new.shelf) ns cause (g.S.Shelf.asked c.open_list.new.shelf) (g.S.Shelf.asked c.open_members.new.shelf)) c.items.ensures lines)) c.in_err-members.field-0.0 c.in_err-members.ensures.asked_before in
    search (rules, stop)

pub returns-in_err-joined-clause-asked_before : goal.returns-in_err-joined-clause-asked_before
returns-in_err-joined-clause-asked_before g c =
    let stop : WhereRefused (λ cause. IsAskedBefore (g.S.Shelf.files c.args.shelf.now) c.args.name.now cause (g.S.Shelf.asked c.args.shelf.now) (g.S.Shelf.asked c.open_members.new.shelf)) c.in_err-joined.field-0.0 =
    for_refused (λ cause is. before.no_line (g.S.Shelf.files c.args.shelf.now) c.args.name.now cause _ _ (before.not_together _ _ _ _ _ _ c.args.name.now cause c.in_ok-members.ensures.members is)) c.in_err-joined.field-0.0 c.in_err-joined.ensures.refused in
    search (rules, stop)

pub returns-in_err-list-clause-before_bad : goal.returns-in_err-list-clause-before_bad
returns-in_err-list-clause-before_bad g c = before.nothing_to_bad (g.S.Shelf.files c.args.shelf.now) c.args.name.now _ _ (omega (arith, c.in_err-list.ensures.asked))

pub returns-in_err-names-clause-before_bad : goal.returns-in_err-names-clause-before_bad
returns-in_err-names-clause-before_bad g c =
    let listed : g.S.Shelf.asked c.open_list.new.shelf ≤ g.S.Shelf.asked c.args.shelf.now + most_of_size (g.S.Shelf.size_of c.find.new.shelf c.in_ok-list.list) = omega (arith, c.in_err-names.ensures.asked, c.in_ok-list.ensures.asked) in
    before.list_to_bad (g.S.Shelf.files c.args.shelf.now) (g.S.Shelf.name_of c.find.new.shelf) (g.S.Shelf.content c.find.new.shelf) c.args.name.now c.in_ok-list.list (g.S.Shelf.size_of c.find.new.shelf c.in_ok-list.list) _ _
    c.in_ok-list.ensures.found c.in_err-names.ensures.told listed

pub returns-in_err-members-clause-before_bad : goal.returns-in_err-members-clause-before_bad
returns-in_err-members-clause-before_bad g c =
    let listed : g.S.Shelf.asked c.open_list.new.shelf ≤ g.S.Shelf.asked c.args.shelf.now + most_of_size (g.S.Shelf.size_of c.find.new.shelf c.in_ok-list.list) = omega (arith, c.in_ok-names.ensures.asked, c.in_ok-list.ensures.asked) in
    before.lines_to_bad (g.S.Shelf.files c.args.shelf.now) (g.S.Shelf.files c.open_list.new.shelf) (g.S.Shelf.name_of c.find.new.shelf) (g.S.Shelf.content c.find.new.shelf) c.args.name.now c.in_ok-list.list
    (g.S.Shelf.size_of c.find.new.shelf c.in_ok-list.list) c.in_ok-names.names _ _ _ c.in_ok-list.ensures.found c.in_ok-names.ensures.told c.in_ok-names.ensures.names (c.in_ok-names.ensures.files ∙ c.in_ok-list.ensures.files) listed
    (subst (λ ns. AsksToBad (g.S.Shelf.files c.open_list.new.shelf) ns (g.S.Shelf.asked c.open_list.new.shelf) (g.S.Shelf.asked c.open_members.new.shelf)) c.items.ensures c.in_err-members.ensures.before_bad)

pub returns-in_err-joined-clause-before_bad : goal.returns-in_err-joined-clause-before_bad
returns-in_err-joined-clause-before_bad g c =
    let listed : g.S.Shelf.asked c.open_list.new.shelf ≤ g.S.Shelf.asked c.args.shelf.now + most_of_size (g.S.Shelf.size_of c.find.new.shelf c.in_ok-list.list) = omega (arith, c.in_ok-names.ensures.asked, c.in_ok-list.ensures.asked) in
    before.lines_to_bad (g.S.Shelf.files c.args.shelf.now) (g.S.Shelf.files c.open_list.new.shelf) (g.S.Shelf.name_of c.find.new.shelf) (g.S.Shelf.content c.find.new.shelf) c.args.name.now c.in_ok-list.list
    (g.S.Shelf.size_of c.find.new.shelf c.in_ok-list.list) c.in_ok-names.names _ _ _ c.in_ok-list.ensures.found c.in_ok-names.ensures.told c.in_ok-names.ensures.names (c.in_ok-names.ensures.files ∙ c.in_ok-list.ensures.files) listed
    (subst (λ ns. AsksToBad (g.S.Shelf.files c.open_list.new.shelf) ns (g.S.Shelf.asked c.open_list.new.shelf) (g.S.Shelf.asked c.open_members.new.shelf)) c.items.ensures c.in_ok-members.ensures.before_bad)

pub returns-clause-before_bad : goal.returns-clause-before_bad
returns-clause-before_bad g c =
    let listed : g.S.Shelf.asked c.open_list.new.shelf ≤ g.S.Shelf.asked c.args.shelf.now + most_of_size (g.S.Shelf.size_of c.find.new.shelf c.in_ok-list.list) = omega (arith, c.in_ok-names.ensures.asked, c.in_ok-list.ensures.asked) in
    before.lines_to_bad (g.S.Shelf.files c.args.shelf.now) (g.S.Shelf.files c.open_list.new.shelf) (g.S.Shelf.name_of c.find.new.shelf) (g.S.Shelf.content c.find.new.shelf) c.args.name.now c.in_ok-list.list
    (g.S.Shelf.size_of c.find.new.shelf c.in_ok-list.list) c.in_ok-names.names _ _ _ c.in_ok-list.ensures.found c.in_ok-names.ensures.told c.in_ok-names.ensures.names (c.in_ok-names.ensures.files ∙ c.in_ok-list.ensures.files) listed
    (subst (λ ns. AsksToBad (g.S.Shelf.files c.open_list.new.shelf) ns (g.S.Shelf.asked c.open_list.new.shelf) (g.S.Shelf.asked c.open_members.new.shelf)) c.items.ensures c.in_ok-members.ensures.before_bad)
