use Rattle.join_source.proofs.Files.{are-inside, elements-put, elements-stop, is-member, on_err-map, on_ok-map, replaced, told-at}
use Rattle.join_source.specs.Pieces.{file_in}
use Rattle.join_source.proofs.send.send_piece.Goals as goal

pub send_elements-requires-clause-inside : goal.send_elements-requires-clause-inside
send_elements-requires-clause-inside g c κs within =
    are-inside (g.S.Shelf.size_of c.args.shelf.now) c.args.files.now c.args.piece.now c.in-Elements.member c.in-Elements.plan c.in-Elements.is c.requires.inside c.index-files-member.result

pub returns-in-Elements-clause-ok : goal.returns-in-Elements-clause-ok
returns-in-Elements-clause-ok g c =
    let member = is-member (g.S.Shelf.size_of c.args.shelf.now) c.args.files.now c.args.piece.now c.in-Elements.member c.in-Elements.plan c.in-Elements.is c.requires.inside in
    on_ok-map c.send_elements.result (λ put contents told.
    elements-put c.args.piece.now c.in-Elements.member c.in-Elements.plan contents (g.O.Sink.written c.args.out.now) (g.O.Sink.written c.send_elements.new.out) c.in-Elements.is
    (put (file_in contents c.in-Elements.member) (told-at (g.S.Shelf.content c.args.shelf.now) c.args.files.now contents c.in-Elements.member c.index-files-member.result told member))) c.send_elements.ensures.ok

pub returns-in-Elements-clause-err : goal.returns-in-Elements-clause-err
returns-in-Elements-clause-err g c =
    let member = is-member (g.S.Shelf.size_of c.args.shelf.now) c.args.files.now c.args.piece.now c.in-Elements.member c.in-Elements.plan c.in-Elements.is c.requires.inside in
    on_err-map c.send_elements.result (λ stops contents told.
    elements-stop c.args.piece.now c.in-Elements.member c.in-Elements.plan contents (g.O.Sink.written c.args.out.now) (g.O.Sink.written c.send_elements.new.out) (g.S.Shelf.asked c.args.shelf.now) (g.S.Shelf.asked c.send_elements.new.shelf) c.in-Elements.is
    (stops (file_in contents c.in-Elements.member) (told-at (g.S.Shelf.content c.args.shelf.now) c.args.files.now contents c.in-Elements.member c.index-files-member.result told member))) c.send_elements.ensures.err

pub returns-in-Elements-clause-same_files : goal.returns-in-Elements-clause-same_files
returns-in-Elements-clause-same_files g c =
    replaced (g.S.Shelf.content c.args.shelf.now) (g.S.Shelf.content c.send_elements.new.shelf) c.args.files.now c.in-Elements.member c.index-files-member.result c.send_elements.new.file c.send_elements.ensures.content c.send_elements.ensures.same_file

pub returns-in-Elements-clause-same_sizes : goal.returns-in-Elements-clause-same_sizes
returns-in-Elements-clause-same_sizes g c =
    replaced (g.S.Shelf.size_of c.args.shelf.now) (g.S.Shelf.size_of c.send_elements.new.shelf) c.args.files.now c.in-Elements.member c.index-files-member.result c.send_elements.new.file c.send_elements.ensures.sizes c.send_elements.ensures.same_size
