-- The name of each kind of fault, as the client prints it (this project's).
use Rattle.std.specs.Prelude.{ℕ, List, codes}
use Rattle.reply_faults.specs.declared.bad.Bad.{Bad}
use Rattle.reply_faults.specs.declared.bad.Bad.TheVariants.{BadHead, HeadTooLong, Coded, BadChunk, BadDds, BadDataLine, BadDas, BadError, BadCount, BadWord, BadPadding, WrongMark, Cut, Trailing, TooLong}

abbrev pub bad_name : Bad → List ℕ
bad_name BadHead = codes "BadHead"
bad_name HeadTooLong = codes "HeadTooLong"
bad_name Coded = codes "Coded"
bad_name BadChunk = codes "BadChunk"
bad_name BadDds = codes "BadDds"
bad_name BadDataLine = codes "BadDataLine"
bad_name BadDas = codes "BadDas"
bad_name BadError = codes "BadError"
bad_name BadCount = codes "BadCount"
bad_name BadWord = codes "BadWord"
bad_name BadPadding = codes "BadPadding"
bad_name WrongMark = codes "WrongMark"
bad_name Cut = codes "Cut"
bad_name Trailing = codes "Trailing"
bad_name TooLong = codes "TooLong"
