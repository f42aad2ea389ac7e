use Rattle.std.proofs.Common.{All, map, sym, subst}
use Rattle.join_source.specs.Bodies.{FitsFiles}
use Rattle.join_source.specs.Pieces.{IsInside}
use Rattle.join_source.proofs.body.JoinBody.stream.Goals as goal

pub send_in_rooms-requires-clause-inside : goal.send_in_rooms-requires-clause-inside
unfolding FitsFiles
send_in_rooms-requires-clause-inside g c κs within =
    subst (All (IsInside (map (g.S.Shelf.size_of c.args.shelf.now) c.args.files.now))) (sym c.items-pieces.ensures) c.requires.fits
