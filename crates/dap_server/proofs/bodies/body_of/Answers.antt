use Rattle.std.proofs.Common.{rules, Err, List, ℕ, length, inl, inr}
use Rattle.dap_types.specs.Model.{Tree}
use Rattle.dap_server.proofs.Opening as opening
use Rattle.dap_server.specs.Results.{DodsAnswers}
use Rattle.dap_server.specs.inner.Opening.{OpenedAs, WhereRefused, stored_of}
use Rattle.dap_server.proofs.bodies.body_of.Goals as goal

pub returns-in_ok-body-in-Netcdf-clause-text : goal.returns-in_ok-body-in-Netcdf-clause-text
returns-in_ok-body-in-Netcdf-clause-text g c = rw c.in-Netcdf.is (opening.netcdf_text c.in-Netcdf.header c.args.name.now c.args.query.now c.in_ok-body-in-Netcdf.body c.in_ok-body-in-Netcdf.ensures.text)

pub returns-in_ok-body-in-Netcdf-clause-accepted : goal.returns-in_ok-body-in-Netcdf-clause-accepted
returns-in_ok-body-in-Netcdf-clause-accepted g c = rw c.in-Netcdf.is (opening.netcdf_accepted c.in-Netcdf.header c.args.name.now c.args.query.now c.in_ok-body-in-Netcdf.ensures.accepted)

pub returns-in_ok-body-in-Netcdf-clause-of_file : goal.returns-in_ok-body-in-Netcdf-clause-of_file
returns-in_ok-body-in-Netcdf-clause-of_file g c = rw c.in-Netcdf.is (λ bytes ts as_file. inl as_file.0)

pub returns-in_ok-body-in-Netcdf-clause-alone : goal.returns-in_ok-body-in-Netcdf-clause-alone
returns-in_ok-body-in-Netcdf-clause-alone g c = rw c.in-Netcdf.is (opening.netcdf_alone c.in-Netcdf.header c.args.name.now c.in_ok-body-in-Netcdf.body)

pub returns-in_ok-body-in-Netcdf-clause-fits : goal.returns-in_ok-body-in-Netcdf-clause-fits
returns-in_ok-body-in-Netcdf-clause-fits g c = rw c.in-Netcdf.is (opening.netcdf_fits c.in-Netcdf.header c.args.name.now c.in_ok-body-in-Netcdf.body c.in_ok-body-in-Netcdf.ensures.fits)

pub returns-in_ok-body-in-Netcdf-clause-cost : goal.returns-in_ok-body-in-Netcdf-clause-cost
returns-in_ok-body-in-Netcdf-clause-cost g c = rw c.in-Netcdf.is (opening.netcdf_cost c.in-Netcdf.header c.args.name.now c.args.query.now c.in_ok-body-in-Netcdf.body c.in_ok-body-in-Netcdf.ensures.cost)

pub returns-in_ok-body-in-Netcdf-clause-cost_at : goal.returns-in_ok-body-in-Netcdf-clause-cost_at
returns-in_ok-body-in-Netcdf-clause-cost_at g c = rw c.in-Netcdf.is (opening.netcdf_cost_at c.in-Netcdf.header c.args.name.now c.args.query.now c.in_ok-body-in-Netcdf.body c.in_ok-body-in-Netcdf.ensures.cost_at)

pub returns-in_ok-rows-in-Table-clause-text : goal.returns-in_ok-rows-in-Table-clause-text
returns-in_ok-rows-in-Table-clause-text g c = rw c.in-Table.is (opening.table_text c.in-Table.table c.args.name.now c.args.query.now c.in_ok-rows-in-Table.rows c.in_ok-rows-in-Table.ensures.text)

pub returns-in_ok-rows-in-Table-clause-accepted : goal.returns-in_ok-rows-in-Table-clause-accepted
returns-in_ok-rows-in-Table-clause-accepted g c = rw c.in-Table.is (opening.table_accepted c.in-Table.table c.args.name.now c.args.query.now c.in_ok-rows-in-Table.rows c.in_ok-rows-in-Table.ensures.text)

pub returns-in_ok-rows-in-Table-clause-of_file : goal.returns-in_ok-rows-in-Table-clause-of_file
returns-in_ok-rows-in-Table-clause-of_file g c = rw c.in-Table.is (λ bytes ts as_file. inr as_file.0)

pub returns-in_ok-rows-in-Table-clause-alone : goal.returns-in_ok-rows-in-Table-clause-alone
returns-in_ok-rows-in-Table-clause-alone g c = λ bytes ts as_file first. c.in_ok-rows-in-Table.ensures.alone

pub returns-in_ok-rows-in-Table-clause-fits : goal.returns-in_ok-rows-in-Table-clause-fits
returns-in_ok-rows-in-Table-clause-fits g c = λ bytes ts as_file. c.in_ok-rows-in-Table.ensures.fits (length bytes)

pub returns-in_ok-rows-in-Table-clause-cost : goal.returns-in_ok-rows-in-Table-clause-cost
returns-in_ok-rows-in-Table-clause-cost g c = rw c.in-Table.is (opening.table_cost c.in-Table.table c.args.name.now c.args.query.now c.in_ok-rows-in-Table.rows c.in_ok-rows-in-Table.ensures.cost)

pub returns-in_ok-rows-in-Table-clause-cost_at : goal.returns-in_ok-rows-in-Table-clause-cost_at
returns-in_ok-rows-in-Table-clause-cost_at g c = rw c.in-Table.is (opening.table_cost_at c.in-Table.table c.args.name.now c.args.query.now c.in_ok-rows-in-Table.rows c.in_ok-rows-in-Table.ensures.alone)

pub returns-in_ok-values-in-Saved-clause-sends : goal.returns-in_ok-values-in-Saved-clause-sends
returns-in_ok-values-in-Saved-clause-sends g c = rw c.in-Saved.is (opening.saved_sends c.in-Saved.response c.args.name.now c.args.query.now c.in_ok-values-in-Saved.values c.in_ok-values-in-Saved.ensures.text)

pub returns-in_ok-values-in-Saved-clause-of_saved : goal.returns-in_ok-values-in-Saved-clause-of_saved
returns-in_ok-values-in-Saved-clause-of_saved g c = rw c.in-Saved.is (λ bytes ts as_file. as_file.0)

pub returns-in_ok-values-in-Saved-clause-accepted : goal.returns-in_ok-values-in-Saved-clause-accepted
returns-in_ok-values-in-Saved-clause-accepted g c = rw c.in-Saved.is (opening.saved_accepted c.in-Saved.response c.args.name.now c.args.query.now c.in_ok-values-in-Saved.values c.in_ok-values-in-Saved.ensures.text)

pub returns-in_err-body-in-Netcdf-clause-refused : goal.returns-in_err-body-in-Netcdf-clause-refused
returns-in_err-body-in-Netcdf-clause-refused g c =
    let stop : WhereRefused (λ why. (bytes : List ℕ) (ts : List Tree) → OpenedAs c.args.opened c.args.name.now bytes ts → DodsAnswers (stored_of c.args.opened c.args.name.now ts) c.args.query.now (Err why)) c.in_err-body-in-Netcdf.field-0.0 =
    rw c.in-Netcdf.is (opening.netcdf_refused c.in-Netcdf.header c.args.name.now c.args.query.now c.in_err-body-in-Netcdf.field-0.0 c.in_err-body-in-Netcdf.ensures.refused) in
    search (rules, stop)

pub returns-in_err-rows-in-Table-clause-refused : goal.returns-in_err-rows-in-Table-clause-refused
returns-in_err-rows-in-Table-clause-refused g c =
    let stop : WhereRefused (λ why. (bytes : List ℕ) (ts : List Tree) → OpenedAs c.args.opened c.args.name.now bytes ts → DodsAnswers (stored_of c.args.opened c.args.name.now ts) c.args.query.now (Err why)) c.in_err-rows-in-Table.field-0.0 =
    rw c.in-Table.is (opening.table_refused c.in-Table.table c.args.name.now c.args.query.now c.in_err-rows-in-Table.field-0.0 c.in_err-rows-in-Table.ensures.refused) in
    search (rules, stop)

pub returns-in_err-values-in-Saved-clause-refused : goal.returns-in_err-values-in-Saved-clause-refused
returns-in_err-values-in-Saved-clause-refused g c =
    let stop : WhereRefused (λ why. (bytes : List ℕ) (ts : List Tree) → OpenedAs c.args.opened c.args.name.now bytes ts → DodsAnswers (stored_of c.args.opened c.args.name.now ts) c.args.query.now (Err why)) c.in_err-values-in-Saved.field-0.0 =
    rw c.in-Saved.is (opening.saved_refused c.in-Saved.response c.args.name.now c.args.query.now c.in_err-values-in-Saved.field-0.0 c.in_err-values-in-Saved.ensures.refused) in
    search (rules, stop)
