-- What the code hands over between reading by rows and the record, which holds typed numbers.
use Rattle.std.specs.Prelude.{Bool, not, ◌&&◌, ℕ, ◌-◌, leb}
use Rattle.answer.specs.Answer.{Out, done, pick, ◌>>=◌}
use Rattle.names.specs.Tables.{first_row}
use Rattle.names.specs.declared.Kind.TheVariants.{Key, Certificate, Cipher, Mac, Compression}
use Rattle.stages.specs.declared.Rows.{Rows}
use Rattle.negotiation.specs.declared.Names.{Names}

-- a key's number: the certificate rows stand after the key rows
abbrev pub is_certificate_row : ℕ → Bool
is_certificate_row r = leb (first_row Certificate) r

unfoldable pub key_place : ℕ → ℕ
key_place r = pick (is_certificate_row r) (r - first_row Certificate) (r - first_row Key)

-- the record of the rows: typed numbers, by place in the kind
unfoldable pub recorded : Rows → Bool → Names
recorded k follows =
    record {
      kex = record { 0 = k.kex };
      key = record { 0 = key_place k.key };
      cipher = record { 0 = k.cipher - first_row Cipher };
      client_mac = record { 0 = k.client_mac - first_row Mac };
      server_mac = record { 0 = k.server_mac - first_row Mac };
      client_compression = record { 0 = k.client_compression - first_row Compression };
      server_compression = record { 0 = k.server_compression - first_row Compression };
      flags = record { host_key_is_certificate = is_certificate_row k.key; ignore_guessed = follows && not k.guessed; strict_kex = k.strict };
    }

-- what was read by rows, as the record
unfoldable pub in_names : Out (Rows × Bool) → Out Names
in_names m = do
  (k, follows) ← m
  done (recorded k follows)
