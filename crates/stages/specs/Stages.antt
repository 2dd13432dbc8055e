-- A KEXINIT as the code goes through it, by rows of a table of names and in stages. No promise of the layers above cites
-- this: there it is proved equal to `read_kex` (`staged` of crates/negotiation/proofs/ReadLaws.antt).
use Rattle.std.specs.Prelude.{Bool, not, ◌&&◌, ◌||◌, List, ℕ, ◌-◌, eqb, Result}
use Rattle.answer.specs.declared.Refusal.{Refusal as Answered}
use Rattle.answer.specs.Answer.{Out, done, outcome, ◌>>=◌}
use Rattle.wire.specs.Fields.{At, byte, word, string, end}
use Rattle.names.specs.Tables.{first_row}
use Rattle.names.specs.declared.Kind.TheVariants.{Cipher}
use Rattle.choice.specs.declared.Side.{Side}
use Rattle.picking.specs.Picking.{picked, stands_in, mac_rule}
use Rattle.picking.specs.declared.Rule.TheVariants.{Needed}
use Rattle.stages.specs.declared.Rows.{Rows}

-- follows byte, reserved u32, end
unfoldable pub last_fields : Rows → At → Out (Rows × Bool)
last_fields k c = do
  (follows, c₁) ← byte c
  (_, c₂) ← word c₁
  _ ← end c₂
  done (k, not (eqb follows 0))

-- two language strings
unfoldable pub languages : Rows → At → Out (Rows × Bool)
languages k c = do
  (_, c₁) ← string c
  (_, c₂) ← string c₁
  last_fields k c₂

module _ (spells : ℕ → List ℕ → Bool) (side : Side) where
  unfoldable pub compressions : List ℕ → Rows → At → Out (Rows × Bool)
  compressions own k c = do
    (a, _, c₁) ← picked spells side Needed 14 own c
    (b, _, c₂) ← picked spells side Needed 14 own c₁
    languages
        (record {
          kex = k.kex;
          key = k.key;
          cipher = k.cipher;
          client_mac = k.client_mac;
          server_mac = k.server_mac;
          client_compression = a;
          server_compression = b;
          guessed = k.guessed;
          strict = k.strict;
        })
        c₂

  -- the MAC lists, under the cipher's rule
  unfoldable pub macs : List ℕ → List ℕ → Rows → At → Out (Rows × Bool)
  macs own compression k c = do
    (a, _, c₁) ← picked spells side (mac_rule (k.cipher - first_row Cipher)) 13 own c
    (b, _, c₂) ← picked spells side (mac_rule (k.cipher - first_row Cipher)) 13 own c₁
    compressions compression
        (record {
          kex = k.kex;
          key = k.key;
          cipher = k.cipher;
          client_mac = a;
          server_mac = b;
          client_compression = 0;
          server_compression = 0;
          guessed = k.guessed;
          strict = k.strict;
        })
        c₂

  -- cipher server-to-client string: decoded, not used
  unfoldable pub other_cipher : List ℕ → List ℕ → Rows → At → Out (Rows × Bool)
  other_cipher mac compression k c = do
    (_, c₁) ← string c
    macs mac compression k c₁

  -- the key and cipher lists, after the kex row, whether it was both first, and whether the exchange is strict
  unfoldable pub keys : List ℕ → List ℕ → List ℕ → List ℕ → ℕ → Bool → Bool → At → Out (Rows × Bool)
  keys key cipher mac compression kex first is_strict c = do
    (a, f, c₁) ← picked spells side Needed 11 key c
    (b, _, c₂) ← picked spells side Needed 12 cipher c₁
    other_cipher mac compression
        (record {
          kex = kex;
          key = a;
          cipher = b;
          client_mac = 0;
          server_mac = 0;
          client_compression = 0;
          server_compression = 0;
          guessed = first && f;
          strict = is_strict;
        })
        c₂

  -- The kex list, and so all of them. `asked`: the own preferences hold the own strict name; `strict_row`: the other side's.
  unfoldable pub read_rows : List ℕ → List ℕ → List ℕ → List ℕ → List ℕ → Bool → ℕ → Bool → At → Out (Rows × Bool)
  read_rows kex key cipher mac compression asked strict_row strict_agreed c = do
    (a, f, c₁) ← picked spells side Needed 10 kex c
    keys key cipher mac compression a f (asked && stands_in spells strict_row c || strict_agreed) c₁

-- what the rows that were read mean, and whether a guessed packet follows
abbrev pub got_rows : Result (Rows × Bool) Answered → Out (Rows × Bool)
got_rows r = outcome (λ k. k) r
