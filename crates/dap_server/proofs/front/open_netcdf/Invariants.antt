use Rattle.std.proofs.Common.{◌≡◌, ◌≤◌, ◌-◌, ◌+◌, length, min}
use Rattle.dap_outside.specs.Files.{Reads}
use Rattle.netcdf_source.specs.Header.{IsCut}
use Rattle.dap_server.proofs.front.open_netcdf.Given as goal

abbrev pub invariant-fronts : goal.invariant-fronts
invariant-fronts g l =
    let shelf = g.S.Shelf in
    record {
      few : length l.held.items ≤ min l.size 1048576;
      reads : Reads (shelf.content l.fn.shelf l.fn.file) 0 l.held.items;
      cut : IsCut l.held.items;
      asked : shelf.asked l.shelf ≤ shelf.asked l.fn.shelf + length l.held.items;
      stays : shelf.faults l.shelf ≡ shelf.faults l.fn.shelf;
      files : shelf.files l.shelf ≡ shelf.files l.fn.shelf;
      contents : shelf.content l.shelf ≡ shelf.content l.fn.shelf;
      all_sizes : shelf.size_of l.shelf ≡ shelf.size_of l.fn.shelf;
      content : shelf.content l.shelf l.file ≡ shelf.content l.fn.shelf l.fn.file;
      sizes : shelf.size_of l.shelf l.file ≡ shelf.size_of l.fn.shelf l.fn.file;
    }

abbrev pub decreases-fronts : goal.decreases-fronts
decreases-fronts g l = min l.size 1048576 - length l.held.items
