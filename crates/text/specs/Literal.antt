-- Text in the definitions: the bytes of what stands between quotes.
use Rattle.std.specs.Prelude.{List, [], ◌∷◌, ℕ}
use Prim.Native.Char.{code}
use Prim.Native.String.{String, [] as nil, ◌∷◌ as ◌then◌}

abbrev pub bytes : String → List ℕ
bytes nil = []
bytes (c then s) = code c ∷ bytes s
