-- What told its bytes goes on telling them.
use Rattle.std.proofs.Common.{Some, None, refl}
use Rattle.std.proofs.lemmas.Bool.{false≢true}
use Rattle.std.specs.Io.KnownBytes.{Appends, Consumes}
use Rattle.dap_outside.specs.Streams.{AppendsFront, AppendsSome, ConsumesFront}
use Rattle.dap_outside.specs.Laws.{TellsOn}

pub appends_tells : TellsOn Appends
appends_tells None new bytes moves some = absurd (false≢true some)
appends_tells (Some xs) None bytes moves some = absurd moves
appends_tells (Some xs) (Some ys) bytes moves some = refl

pub appends_front_tells : TellsOn AppendsFront
appends_front_tells old new bytes (k, le, moves) some = appends_tells old new _ moves some

pub appends_some_tells : TellsOn AppendsSome
appends_some_tells old new bytes (k, le, moves) some = appends_tells old new _ moves some

pub consumes_tells : TellsOn Consumes
consumes_tells None new bytes moves some = absurd (false≢true some)
consumes_tells (Some xs) None bytes moves some = absurd moves
consumes_tells (Some xs) (Some ys) bytes moves some = refl

pub consumes_front_tells : TellsOn ConsumesFront
consumes_front_tells old new bytes (k, le, moves) some = consumes_tells old new _ moves some
