-- What names and default lists are by the number of a kind (crates/names/specs/Numbered.antt).
use Rattle.std.specs.Prelude.{List, [], ℕ}
use Rattle.std.proofs.Math.Option.{Option}
use Rattle.answer.specs.Answer.{Out, done, ◌>>=◌}
use Rattle.names.specs.Numbered.{kind_of}
use Rattle.names.specs.Spelled.{spelled}
use Rattle.names.specs.Lookup.{number_of}
use Rattle.names.specs.declared.Kind.{Kind}
use Rattle.names.specs.declared.Kind.TheVariants.{Kex, Key, Certificate, Cipher, Mac, Compression}
use Rattle.preferred.specs.Defaults.{default_kex, default_key, default_cipher, default_mac, default_compression}

-- the name of a number of a kind
abbrev pub name_of : ℕ → ℕ → Out (List ℕ)
name_of kind number = do
  k ← kind_of kind
  spelled k number

-- the number of a name of a kind
abbrev pub named_of : ℕ → List ℕ → Out (Option ℕ)
named_of kind name = do
  k ← kind_of kind
  done (number_of k name)

-- the default list of a kind: no client certificates
unfoldable pub default_of : Kind → List ℕ
default_of Kex = default_kex
default_of Key = default_key
default_of Certificate = []
default_of Cipher = default_cipher
default_of Mac = default_mac
default_of Compression = default_compression

abbrev pub default_list : ℕ → Out (List ℕ)
default_list kind = do
  k ← kind_of kind
  done (default_of k)
