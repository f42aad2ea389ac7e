use Rattle.std.proofs.Common.{◌≡◌, ℕ, List, [], ◌∷◌, ◌++◌, Some, ap, ◌∙◌}
use Rattle.std.specs.Prelude.{codes}
use Rattle.dap_outside.specs.MemShelf.{bytes_named}
use Rattle.dap_outside.specs.declared.memory_shelf.MemFile.{MemFile}
use Rattle.soak.specs.File.{soak_bytes}
use Rattle.soak.proofs.reply.shelf_of.Goals as goal

found : (start records : ℕ) (files : List MemFile) (name bytes : List ℕ) → files ≡ record { name = name; bytes = bytes } ∷ [] → name ≡ codes "soak.nc" → bytes ≡ soak_bytes start records
    → bytes_named files (codes "soak.nc") ≡ Some (soak_bytes start records)
found start records files name bytes is is_name is_bytes =
    ap (λ fs. bytes_named fs (codes "soak.nc")) is ∙ ap (λ n. bytes_named (record { name = n; bytes = bytes } ∷ []) (codes "soak.nc")) is_name ∙ ap Some is_bytes

pub returns : goal.returns
returns c = (
  bytes_named c.push.new.self,
  c.new-2.ensures.files,
  found c.args.start c.args.records c.push.new.self c.in_ok-new.field-0 c.in_ok-soak_file.field-0
      (c.in_ok-push.ensures.ok ∙ ap (λ fs. fs ++ record { name = c.in_ok-new.field-0; bytes = c.in_ok-soak_file.field-0 } ∷ []) c.new-files.ensures)
      c.in_ok-new.ensures c.in_ok-soak_file.ensures,
)
