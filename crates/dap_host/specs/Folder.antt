-- Names of files below a folder.
use Rattle.std.specs.Prelude.{ℕ, Bool, true, false, ◌&&◌, ◌||◌, not, List, [], ◌∷◌, ◌==◌, if◌then◌else◌}

-- a segment begins here that is not empty and does not begin with a point
abbrev pub begins_segment : List ℕ → Bool
begins_segment [] = false
begins_segment (b ∷ bytes) = not (b == 47 || b == 46)

-- such a segment stands behind each `/`
unfoldable pub has_segments : List ℕ → Bool
has_segments [] = true
has_segments (b ∷ bytes) = (if b == 47 then begins_segment bytes else true) && has_segments bytes

-- a name that stays in the folder: such segments between `/`
abbrev pub is_below : List ℕ → Bool
is_below name = begins_segment name && has_segments name
